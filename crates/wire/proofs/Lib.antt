pub mod Bytes
pub mod Choice
pub mod Lists
pub mod Meaning
pub mod Puts

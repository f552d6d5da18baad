pub mod Bytes
pub mod Choice
pub mod Meaning
pub mod Part
pub mod Puts

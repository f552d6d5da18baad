pub mod Meaning
pub mod Packet
pub mod Reading
pub mod Told
pub mod Written

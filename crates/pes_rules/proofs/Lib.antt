pub mod Answer
pub mod Bytes
pub mod Exactly
pub mod Meaning
pub mod Read
pub mod Told
pub mod Written

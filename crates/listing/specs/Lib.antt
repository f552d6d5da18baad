pub mod Text
pub mod Lines
pub mod Walk
pub mod Turns

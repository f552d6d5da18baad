pub mod Addresses
pub mod Answers
pub mod Fits
pub mod Locations
pub mod Pairs

pub mod Shifts
pub mod Basis
pub mod Clear
pub mod Bytes

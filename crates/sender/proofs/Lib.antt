pub mod Sealed
pub mod Sent
pub mod Stage

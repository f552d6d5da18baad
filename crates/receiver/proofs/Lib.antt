pub mod Keys
pub mod Outcomes

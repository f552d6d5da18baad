pub mod Demand1
pub mod Demand2
pub mod Demand3
pub mod Numbers
pub mod Readers
pub mod Samples
pub mod SmallByDefault
pub mod Tight

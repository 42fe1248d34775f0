pub mod Outcomes
pub mod Readings
pub mod Unique

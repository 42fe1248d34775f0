pub mod Digits
pub mod Reading
pub mod Runs
pub mod Lay
pub mod Unique

pub mod Constants
pub mod Same
pub mod Unique

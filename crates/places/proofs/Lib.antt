pub mod Editions
pub mod Accepts
pub mod Unique

pub mod Fields
pub mod Unique

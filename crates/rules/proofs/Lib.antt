pub mod Lengths
pub mod Unique
pub mod Limits
pub mod OneCall
pub mod Work

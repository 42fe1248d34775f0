pub mod Hex
pub mod Says
pub mod Spells
pub mod Unique
pub mod Writing

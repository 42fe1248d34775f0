pub mod Tests
pub mod Chain
pub mod Runs
pub mod Unique

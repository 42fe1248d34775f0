pub mod Rules
pub mod Calls
pub mod OneCall
pub mod Limits
pub mod Runs

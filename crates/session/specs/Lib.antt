pub mod Seen
pub mod Sessions
pub mod Offered
pub mod Refusals
pub mod Promises
pub mod Largest
pub mod Ran
pub mod Kinds

pub mod Segments
pub mod Receivers
pub mod Rule
pub mod Runs
pub mod Promises
pub mod Offers
pub mod Nonces

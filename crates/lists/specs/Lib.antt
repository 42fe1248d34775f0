pub mod Lists
pub mod Lines
pub mod Pieces
pub mod Written
pub mod Places
pub mod Readings
pub mod Promises

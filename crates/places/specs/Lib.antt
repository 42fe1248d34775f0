pub mod Terms
pub mod Places

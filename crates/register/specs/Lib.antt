pub mod Asked
pub mod Keeping
pub mod References
pub mod Registered

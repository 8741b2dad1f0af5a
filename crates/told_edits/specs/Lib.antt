pub mod Lines
pub mod Telling
pub mod Again
pub mod Settled

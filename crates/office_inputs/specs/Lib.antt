pub mod Changes
pub mod Kept
pub mod Measured
pub mod Places
pub mod Refusals
pub mod Stations
pub mod Touched
pub mod Usual

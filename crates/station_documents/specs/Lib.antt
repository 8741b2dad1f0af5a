pub mod Answers
pub mod Documents
pub mod Members
pub mod Stations

pub mod OneResult
pub mod Rows
pub mod Times
pub mod Units

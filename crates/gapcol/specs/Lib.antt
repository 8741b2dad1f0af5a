pub mod Gaps
pub mod Lists
pub mod Memory
pub mod Places

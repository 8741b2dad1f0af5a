pub mod Crossing
pub mod Gaps
pub mod Lending
pub mod Lists
pub mod Memory
pub mod Steps
pub mod Walks

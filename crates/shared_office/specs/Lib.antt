pub mod Entries
pub mod Finding
pub mod Holdings
pub mod Passages
pub mod Passing
pub mod Working

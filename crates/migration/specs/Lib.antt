pub mod Copying
pub mod Matching
pub mod Reading

pub mod Changes
pub mod Equality
pub mod Halves
pub mod Reach
pub mod Readings
pub mod Window

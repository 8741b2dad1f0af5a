pub mod Axes
pub mod Columns
pub mod Curves
pub mod Escapes
pub mod Parts
pub mod Ranges
pub mod Thinning

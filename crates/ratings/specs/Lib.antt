pub mod Numbered
pub mod PartEquality
pub mod Parts
pub mod Periods
pub mod Spans

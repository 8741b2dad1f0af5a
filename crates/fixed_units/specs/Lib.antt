pub mod Calendar
pub mod Decimals
pub mod Lines
pub mod Published
pub mod PublishedText
pub mod Quantities
pub mod Rounding
pub mod RoundingArray

pub mod DayInputs
pub mod Equality

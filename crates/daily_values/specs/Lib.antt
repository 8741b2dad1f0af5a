pub mod DayValue
pub mod Figures

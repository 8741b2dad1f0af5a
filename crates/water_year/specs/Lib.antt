pub mod DailyText
pub mod Figures
pub mod Rows
pub mod Sums
pub mod Tables
pub mod YearText

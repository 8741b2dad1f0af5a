pub mod Days
pub mod Spans
pub mod Values
pub mod KeptDays
pub mod Sites

pub mod CalendarLemmas
pub mod CountedLemmas
pub mod DayLemmas
pub mod ExtremeLemmas
pub mod LawLemmas
pub mod SumLemmas
pub mod TextLemmas
pub mod YearLemmas

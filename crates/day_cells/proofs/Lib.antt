pub mod DayLemmas
pub mod CalendarLemmas
pub mod KeptLemmas
pub mod MarkLemmas
pub mod ValueLemmas

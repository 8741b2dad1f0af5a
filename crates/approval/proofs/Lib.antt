pub mod ChangedLemmas
pub mod CountLemmas
pub mod DayLemmas
pub mod FirstDays
pub mod LawLemmas
pub mod SiteLemmas
pub mod SpanLemmas

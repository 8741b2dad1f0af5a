pub mod DayLemmas
pub mod FindLemmas
pub mod LawLemmas
pub mod OptionLemmas
pub mod ReadLemmas
pub mod ValueLemmas
pub mod WordLemmas

pub mod DigitLemmas
pub mod LawfulLemmas
pub mod PartLemmas
pub mod ZoneLemmas

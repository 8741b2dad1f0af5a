pub mod StationLemmas
pub mod ReplaceLemmas
pub mod AfterLemmas
pub mod FoundLemmas
pub mod OutcomeLemmas
pub mod TrueLemmas

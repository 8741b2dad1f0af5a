pub mod AgainLemmas
pub mod FaultLemmas
pub mod LineLemmas
pub mod TellingLemmas
pub mod SettledLemmas

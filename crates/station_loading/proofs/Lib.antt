pub mod LoadedLemmas
pub mod TakenLemmas
pub mod UnstatedLemmas

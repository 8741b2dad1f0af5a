pub mod BringLemmas
pub mod ChunkLemmas
pub mod LawLemmas
pub mod LineLemmas
pub mod PartLemmas
pub mod ProductLemmas
pub mod TimeLemmas

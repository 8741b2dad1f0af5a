pub mod AgainLemmas
pub mod ChunkLemmas
pub mod LoadedLemmas
pub mod PutLemmas
pub mod ReferenceLemmas
pub mod TellLemmas

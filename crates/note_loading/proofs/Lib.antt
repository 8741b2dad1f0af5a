pub mod FigureLemmas
pub mod LoadedLemmas
pub mod ReadLemmas
pub mod ToldLemmas

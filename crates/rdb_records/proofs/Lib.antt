pub mod OneResultLemmas
pub mod ReadLemmas
pub mod RiseLemmas
pub mod RowLemmas
pub mod TimeLemmas

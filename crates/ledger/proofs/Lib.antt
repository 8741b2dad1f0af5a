pub mod JoinLemmas
pub mod ReadLemmas
pub mod RowLemmas
pub mod RunLemmas

pub mod JoinLemmas
pub mod SizeLemmas

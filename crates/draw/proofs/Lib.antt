pub mod FieldLemmas
pub mod JoinLemmas
pub mod RowLemmas
pub mod RunLemmas
pub mod TextLemmas

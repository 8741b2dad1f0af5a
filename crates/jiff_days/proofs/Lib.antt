pub mod OrderLemmas
pub mod StartLemmas
pub mod TextLemmas

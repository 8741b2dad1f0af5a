pub mod KeptLemmas
pub mod RangeLemmas

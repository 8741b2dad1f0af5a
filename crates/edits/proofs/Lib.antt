pub mod EditLemmas
pub mod KindLemmas
pub mod ReadingLemmas
pub mod TestLemmas
pub mod TextLemmas

pub mod CountLemmas
pub mod FollowLemmas
pub mod MeanLemmas
pub mod OpeningLemmas
pub mod SettledLemmas
pub mod SumLemmas
pub mod TakingLemmas
pub mod TextLemmas

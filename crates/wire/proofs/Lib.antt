pub mod FramingLemmas
pub mod HeadLemmas
pub mod IncomingLemmas
pub mod LengthLemmas
pub mod MessageLemmas
pub mod PassingLemmas
pub mod ReplyLemmas

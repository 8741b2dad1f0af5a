pub mod Answers
pub mod Counted
pub mod Ends
pub mod Texts

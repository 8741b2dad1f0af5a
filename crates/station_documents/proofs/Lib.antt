pub mod AnswerLemmas
pub mod MemberLemmas
pub mod OnceLemmas

pub mod EqualityLemmas
pub mod RulesLemmas
pub mod WindowEnds

mod ApartLemmas
pub mod AskLemmas
mod FindingLemmas
mod FittingLemmas
mod RdbLemmas
mod ReplyLemmas
mod RouteLemmas
mod TextLemmas

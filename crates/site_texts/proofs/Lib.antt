pub mod SiteLemmas
pub mod WrittenLemmas

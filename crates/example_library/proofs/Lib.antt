pub mod MoveLemmas
pub mod ShareLemmas

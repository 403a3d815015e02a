pub mod ClaimLemmas
pub mod CountLemmas
pub mod FixityLemmas
pub mod LineLemmas
pub mod SummaryLemmas
pub mod VerdictLemmas
pub mod WaitingLemmas

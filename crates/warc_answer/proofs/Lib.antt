pub mod PayloadLemmas
pub mod AnswerLemmas
pub mod ReasonLemmas
pub mod LoopLemmas
pub mod PlaceLemmas
pub mod JudgeLemmas
pub mod GiveLemmas
pub mod LocatedLemmas
mod WorkedValues
pub mod StoredLemmas
pub mod KnownLemmas
pub mod HashedLemmas
pub mod KnownDigestLemmas
pub mod HashedLaws
pub mod SplitLemmas

pub mod LeastLemmas
pub mod CountLemmas
pub mod SeriesLemmas
pub mod PlaceLemmas
pub mod TotalLemmas
pub mod OrderedLemmas
pub mod ContinuationLemmas
pub mod SameLemmas
pub mod KeptLemmas
pub mod HeldLemmas
pub mod StepLemmas
pub mod KeepLemmas
pub mod JoinLemmas
pub mod MemberLemmas
pub mod LawLemmas
mod WorkedValues

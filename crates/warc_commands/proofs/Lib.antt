mod InstantLemmas
pub mod ListLemmas
pub mod MakingLemmas
pub mod ProgramLemmas
pub mod ReadLemmas
mod RunLemmas
pub mod RunsLemmas
pub mod SalvageLemmas
mod PayloadLemmas
mod StoredLemmas
mod WordLemmas
mod WorkedValues
pub mod CaptureLemmas
pub mod ChoiceLemmas
mod ClosedLemmas
pub mod WalkLemmas
pub mod PiecesLemmas
pub mod SalvageAllLemmas

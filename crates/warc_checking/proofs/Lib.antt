pub mod AmongLemmas
pub mod ArchiveTextLemmas
pub mod BatchLemmas
pub mod CheckLemmas
pub mod CountLemmas
pub mod JudgeLemmas
pub mod JudgingLemmas
pub mod LevelLemmas
pub mod NextLemmas
pub mod OwnFindingLemmas
pub mod RecordsLemmas
pub mod SizeLemmas
pub mod TallyLemmas
pub mod UsedIdLemmas
mod WorkedValues

pub mod ColumnLemmas
pub mod EntryLemmas
pub mod BlockLemmas
pub mod RankLemmas
pub mod StepLemmas
pub mod OrderLemmas

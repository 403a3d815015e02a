pub mod Batch
pub mod Checking
pub mod Checks
pub mod Judged
pub mod Judging
pub mod Lines
pub mod OwnFindings
pub mod UsedIds

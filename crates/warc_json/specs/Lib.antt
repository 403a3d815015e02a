pub mod Objects
pub mod Parts
pub mod Rows
pub mod Summaries

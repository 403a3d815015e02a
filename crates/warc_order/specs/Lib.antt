pub mod Hashes
pub mod Ranking
pub mod Entries
pub mod Columns
pub mod Layout

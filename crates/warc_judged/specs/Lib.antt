pub mod Claims
pub mod Counting
pub mod Fixity
pub mod Listing
pub mod Summary
pub mod Tallies
pub mod Waiting

pub mod Dates
pub mod Base32
pub mod Digests

pub mod Quick
pub mod Names
pub mod Places
pub mod Fronts
pub mod Canonical
pub mod PlainFindings
pub mod Alone

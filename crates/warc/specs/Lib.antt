pub mod Bounds
pub mod ClosedLaws
pub mod Front
pub mod Keeping
pub mod KnownPayloads
pub mod Laws
pub mod Survey

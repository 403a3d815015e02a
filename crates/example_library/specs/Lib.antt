pub mod Migration
pub mod Opened
pub mod RoundTrip
pub mod Share

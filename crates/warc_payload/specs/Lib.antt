pub mod Coding
pub mod Head
pub mod Payload
pub mod Texts
pub mod Laws

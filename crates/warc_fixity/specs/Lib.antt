pub mod Stated
pub mod Decoded
pub mod Judged

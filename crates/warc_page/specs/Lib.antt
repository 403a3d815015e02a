pub mod Handle
pub mod Shown

pub mod Made
pub mod Outputs
pub mod Portions

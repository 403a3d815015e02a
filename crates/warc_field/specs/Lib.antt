pub mod Text
pub mod Lines
pub mod Area
pub mod Decimal
pub mod FaultText
pub mod Short
pub mod Meant

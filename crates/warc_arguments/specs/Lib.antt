pub mod Command
pub mod CommandLine
pub mod Digits
pub mod Exit
pub mod Explanations
pub mod Parsed

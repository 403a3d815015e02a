pub mod Bits
pub mod Twenty
pub mod Alphabet
pub mod DateLemmas
pub mod DayLemmas
pub mod LawLemmas
pub mod WorkedValues
pub mod ValueLemmas

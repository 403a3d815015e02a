mod BodyLemmas
mod HeadDecision
mod WorkedValues
pub mod Fields
pub mod LawLemmas

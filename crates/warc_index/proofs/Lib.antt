pub mod WalkLemmas
pub mod LatestLemmas
pub mod ChoiceLemmas
pub mod LoopLemmas
pub mod OriginLemmas
pub mod LawLemmas
mod WorkedValues
pub mod KeptLemmas
pub mod LinkLemmas
pub mod PassLemmas
pub mod LinkedLemmas
pub mod ChainLemmas
pub mod ReachLemmas
pub mod CaptureLemmas
pub mod TextLemmas

mod ByteLemmas
mod KindLemmas
mod KnownLemmas
mod UuidLemmas
pub mod IdLemmas
mod KeyLemmas
mod ValueLemmas
pub mod TypedLemmas
pub mod GoodLemmas
pub mod CountLemmas
mod FindingLemmas
mod ListedLemmas
pub mod LawLemmas
mod WorkedValues

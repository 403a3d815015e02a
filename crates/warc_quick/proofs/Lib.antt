mod LineLemmas
mod DateLemmas
mod NameLemmas
mod RunLemmas
mod ValueLemmas
mod HeadLemmas
mod PlainLemmas
mod TypedLemmas
mod AloneLemmas
pub mod AsciiLemmas
mod JudgedLemmas
mod CanonicalLemmas

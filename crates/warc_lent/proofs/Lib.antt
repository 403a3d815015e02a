mod BodyLemmas
pub mod BufferLemmas
mod FrontLemmas
mod HeadLemmas
mod PieceLemmas
mod PortionLemmas
mod SelectionLemmas
pub mod TextLemmas

pub mod BitLemmas
pub mod SymbolLemmas
pub mod ReadLemmas
pub mod TextLemmas
pub mod WritesLemmas
pub mod StatedLemmas

pub mod FillLemmas
pub mod WindowLemmas

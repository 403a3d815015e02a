pub mod PutLemmas
mod ReplyLemmas
mod Values

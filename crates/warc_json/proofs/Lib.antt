mod EscapeLemmas
mod EachLemmas
mod LawLemmas
mod ObjectLemmas
mod PutLemmas
mod RowLemmas

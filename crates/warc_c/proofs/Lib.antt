mod ClosedLemmas
mod GrowthLemmas
mod NextLemmas
mod RestLemmas

-- How the keyed words of a block are written one after another.
use Rattle.std.proofs.Common.{◌≡◌, ℕ, ◌+◌, ◌<◌, List, length, slice_index, slice_set, arith, ap, ◌∙◌, inl, inr}
use Rattle.std.proofs.lemmas.List.{map-set, length-map, get_or-set_same, get_or-set_other}
use Rattle.std.proofs.lemmas.Bool.{cases_lt}
use Rattle.warc_lanes.specs.Lanes.{lane_of}
use Rattle.warc_lanes.specs.Rounds.{HasKeyedWords, HasWords, IsBeforeKeyedWord, keyed_word}

-- no keyed word is written
pub before_keyed_words : (block window keyed : List ℕ) → HasWords block 0 window → IsBeforeKeyedWord block 0 window keyed
before_keyed_words block window keyed loaded = record { words = loaded; keyed_are = λ k none. absurd (omega arith) }

-- one keyed word more
pub keyed_more : (block word : List ℕ) (j t : ℕ) (old : List (List ℕ)) → t < length old → slice_index word j ≡ keyed_word block t
    → HasKeyedWords block t (lane_of j old) → HasKeyedWords block (t + 1) (lane_of j (slice_set old t word))
keyed_more block word j t old room is held k below =
    let at : List ℕ → ℕ = λ vector. slice_index vector j in
    let lane : lane_of j (slice_set old t word) ≡ slice_set (lane_of j old) t (slice_index word j) = map-set at old t word in
    ap (λ (ws : List ℕ). slice_index ws k) lane ∙ elim (cases_lt k t) [
      | inl early ↦ get_or-set_other (lane_of j old) t k (slice_index word j) 0 (omega arith) ∙ held k early
      | inr late ↦
          let same : t ≡ k = omega arith in
          rw (← same) (get_or-set_same (lane_of j old) t (slice_index word j) 0 (omega (arith, length-map old at)) ∙ is)
    ]

-- a place before a keyed word, spelled another way
pub same_word : (block window keyed : List ℕ) (t n : ℕ) → t ≡ n → IsBeforeKeyedWord block t window keyed → IsBeforeKeyedWord block n window keyed
same_word block window keyed t n same held = rw (← same) held

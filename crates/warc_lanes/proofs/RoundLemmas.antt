-- How a lane's window and variables follow the standard's schedule and rounds: the toolchain's lemmas on one block, at each lane.
use Rattle.std.proofs.Common.{◌≡◌, ℕ, ◌+◌, ◌-◌, ◌%◌, ◌*◌, ◌<◌, ◌≤◌, List, [], ◌∷◌, length, slice_index, slice_index_or, slice_set, arith, refl, ap, ◌∙◌, inl, inr}
use Rattle.std.proofs.lemmas.List.{map-set, length-map, get_or-set_same, get_or-set_other}
use Rattle.std.proofs.lemmas.Bool.{cases_lt}
use Rattle.sha1.specs.Sha1.{IsWindow, schedule, rounds, round, round_constant, window_word, word_at, add32, add_state, compress}
use Rattle.sha1.proofs.Schedule.{window_word_at, IsWindow_next, IsWindow_first, rounds_next}
use Rattle.warc_lanes.specs.Lanes.{lane_of}
use Rattle.warc_lanes.specs.Rounds.{HasWords, IsBeforeRound, round_value}
use Rattle.warc_lanes.proofs.LaneLemmas.{word_of_lane}

-- one of the block's own words, which the window has as it is
pub own_word : (block window : List ℕ) (t : ℕ) → t < 16 → HasWords block t window → slice_index window t ≡ slice_index (schedule block 64) t
own_word block window t early held =
    let place : (16 + (t - 16) + t) % 16 ≡ t = omega arith in
    let word : 16 + (t - 16) + t - 16 ≡ t = omega arith in
    rw (place, word) at (held.1 t early)

pub words_stay : (block window : List ℕ) (t : ℕ) → t < 16 → HasWords block t window → HasWords block (t + 1) window
words_stay block window t early held =
    let same : 16 + (t - 16) ≡ 16 + (t + 1 - 16) = omega arith in
    rw (← same) held

-- a word that is computed
pub next_word_is : (block window : List ℕ) (t word : ℕ) → 16 ≤ t → t < 80 → HasWords block t window → word ≡ window_word window t → word ≡ slice_index (schedule block 64) t
next_word_is block window t word late below held is =
    let at : 16 + (t - 16) ≡ t = omega arith in
    is ∙ window_word_at block window t late below (rw at at held)

pub words_move : (block : List ℕ) (j t : ℕ) (old new : List (List ℕ)) (word : List ℕ) → 16 ≤ t → t < 80 → HasWords block t (lane_of j old)
    → slice_index word j ≡ window_word (lane_of j old) t → new ≡ slice_set old (t % 16) word → HasWords block (t + 1) (lane_of j new)
words_move block j t old new word late below held is moved =
    let at : 16 + (t - 16) ≡ t = omega arith in
    let after : 16 + (t + 1 - 16) ≡ t + 1 = omega arith in
    let window : IsWindow (lane_of j old) (schedule block 64) t = rw at at held in
    let right : slice_index word j ≡ slice_index (schedule block 64) t = next_word_is block (lane_of j old) t (slice_index word j) late below held is in
    let lane : lane_of j new ≡ slice_set (lane_of j old) (t % 16) (slice_index (schedule block 64) t) =
    rw (moved, ← right) (map-set (λ (vector : List ℕ). slice_index vector j) old (t % 16) word) in
    rw (after, lane) (IsWindow_next block (lane_of j old) t late below window)

-- one round
pub round_taken : (block hash window v next : List ℕ) (t f word k : ℕ) → v ≡ rounds hash (schedule block 64) t → f ≡ round_value v t → k ≡ round_constant t
    → word ≡ slice_index (schedule block 64) t → next ≡ round v f k word → next ≡ rounds hash (schedule block 64) (t + 1)
round_taken block hash window v next t f word k variables mix constant is taken =
    taken ∙ rw (mix, constant, is, variables, rounds_next hash (schedule block 64) t) refl

-- a place before a round, spelled another way
pub same_round : (block hash window v : List ℕ) (t n : ℕ) → t ≡ n → IsBeforeRound block hash t window v → IsBeforeRound block hash n window v
same_round block hash window v t n same held = rw (← same) held

-- the window with one word of the block more
pub load_more : (window : List (List ℕ)) (word text : List ℕ) (i j : ℕ) → length window ≡ 16 → i < 16 → slice_index word j ≡ word_at text (4 * i)
    → ((k : ℕ) → k < i → slice_index (lane_of j window) k ≡ word_at text (4 * k))
    → (k : ℕ) → k < i + 1 → slice_index (lane_of j (slice_set window i word)) k ≡ word_at text (4 * k)
load_more window word text i j long room is held k below =
    let at : List ℕ → ℕ = λ vector. slice_index vector j in
    let lane_long : length (lane_of j window) ≡ 16 = length-map window at ∙ long in
    let lane : lane_of j (slice_set window i word) ≡ slice_set (lane_of j window) i (slice_index word j) = map-set at window i word in
    ap (λ (ws : List ℕ). slice_index ws k) lane ∙ elim (cases_lt k i) [
      | inl early ↦ get_or-set_other (lane_of j window) i k (slice_index word j) 0 (omega arith) ∙ held k early
      | inr late ↦
          let same : i ≡ k = omega arith in
          rw (← same) (get_or-set_same (lane_of j window) i (slice_index word j) 0 (omega arith) ∙ is)
    ]

-- the window that has the words of a block
pub loaded_words : (j : ℕ) (text : List ℕ) (window : List (List ℕ)) → length window ≡ 16
    → ((k : ℕ) → k < 16 → slice_index (lane_of j window) k ≡ word_at text (4 * k)) → HasWords text 0 (lane_of j window)
loaded_words j text window long loaded = IsWindow_first text (lane_of j window) (length-map window (λ vector. slice_index vector j) ∙ long) loaded

-- before the first round
pub before_rounds : (hash text window : List ℕ) → HasWords text 0 window → IsBeforeRound text hash 0 window hash
unfolding rounds
before_rounds hash text window loaded = record { words = loaded; variables_are = refl }

-- after the last round
pub block_added : (j : ℕ) (state v : List (List ℕ)) (text : List ℕ) (a b c d e : ℕ) → lane_of j v ≡ rounds (lane_of j state) (schedule text 64) 80
    → a ≡ add32 (slice_index (slice_index_or state 0 []) j) (slice_index (slice_index_or v 0 []) j)
    → b ≡ add32 (slice_index (slice_index_or state 1 []) j) (slice_index (slice_index_or v 1 []) j)
    → c ≡ add32 (slice_index (slice_index_or state 2 []) j) (slice_index (slice_index_or v 2 []) j)
    → d ≡ add32 (slice_index (slice_index_or state 3 []) j) (slice_index (slice_index_or v 3 []) j)
    → e ≡ add32 (slice_index (slice_index_or state 4 []) j) (slice_index (slice_index_or v 4 []) j)
    → a ∷ b ∷ c ∷ d ∷ e ∷ [] ≡ compress (lane_of j state) text
unfolding compress
block_added j state v text a b c d e variables ea eb ec ed ee =
    let words : a ∷ b ∷ c ∷ d ∷ e ∷ [] ≡ add_state (lane_of j state) (lane_of j v) =
    rw (
      ea,
      eb,
      ec,
      ed,
      ee,
      word_of_lane j state 0,
      word_of_lane j state 1,
      word_of_lane j state 2,
      word_of_lane j state 3,
      word_of_lane j state 4,
      word_of_lane j v 0,
      word_of_lane j v 1,
      word_of_lane j v 2,
      word_of_lane j v 3,
      word_of_lane j v 4,
    ) refl in
    words ∙ ap (add_state (lane_of j state)) variables

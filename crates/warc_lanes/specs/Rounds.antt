-- Where the rounds of a block have come to, by FIPS 180-4. States of the code: no public clause cites them.
use Rattle.std.specs.Prelude.{◌≡◌, ℕ, ◌+◌, ◌-◌, ◌<◌, List, slice_index}
use Rattle.sha1.specs.Sha1.{IsWindow, add32, schedule, round_constant, rounds, round_fn}

-- the value of the round function of round t
abbrev pub round_value : List ℕ → ℕ → ℕ
round_value variables t = round_fn t (slice_index variables 1) (slice_index variables 2) (slice_index variables 3)

-- the window has the words that the rounds of a block from t on need: up to round 16 the block's own
abbrev pub HasWords : List ℕ → ℕ → List ℕ → Type 0
HasWords block t window = IsWindow window (schedule block 64) (16 + (t - 16))

-- before round t of a block, from a hash value
pub record IsBeforeRound (block hash : List ℕ) (t : ℕ) (window variables : List ℕ) : Type 0 where
  pub words : HasWords block t window
  pub variables_are : variables ≡ rounds hash (schedule block 64) t

-- the working variables before round t of a block, from a hash value
abbrev pub AreBeforeRound : List ℕ → List ℕ → ℕ → List ℕ → Type 0
AreBeforeRound block hash t variables = variables ≡ rounds hash (schedule block 64) t

-- the word of round t of a block, with the constant of the round added
abbrev pub keyed_word : List ℕ → ℕ → ℕ
keyed_word block t = add32 (slice_index (schedule block 64) t) (round_constant t)

-- the keyed words of a block's rounds before round t
abbrev pub HasKeyedWords : List ℕ → ℕ → List ℕ → Type 0
HasKeyedWords block t keyed = (k : ℕ) → k < t → slice_index keyed k ≡ keyed_word block k

-- before the keyed word of round t of a block is written
pub record IsBeforeKeyedWord (block : List ℕ) (t : ℕ) (window keyed : List ℕ) : Type 0 where
  pub words : HasWords block t window
  pub keyed_are : HasKeyedWords block t keyed

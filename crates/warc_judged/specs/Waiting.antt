-- What is kept of blocks while the last ones wait until they are hashed. States of the code.
use Rattle.std.specs.Prelude.{◌≡◌, ◌⊎◌, ℕ, ◌-◌, ◌++◌, List, [], ◌∷◌, length, take}
use Rattle.warc_value.specs.declared.hash.Verdict.{Verdict}
use Rattle.warc_judged.specs.Counting.{verdict_at}
use Rattle.warc_judged.specs.Fixity.{Judgements, unless_good}

-- verdicts, and those on the last blocks, which wait
abbrev pub with_last : List Verdict → List Verdict → List Verdict
with_last verdicts waiting = take (length verdicts - length waiting) verdicts ++ waiting

-- the values of the digests by which blocks aren't good, by their verdicts
abbrev pub kept_values : List Verdict → List (List ℕ) → List (List ℕ)
kept_values [] values = []
kept_values (v ∷ vs) [] = []
kept_values (v ∷ vs) (value ∷ values) = unless_good v value ∷ kept_values vs values

-- what is found of blocks, by their verdicts and the values of their digests
abbrev pub judgements : List Verdict → List (List ℕ) → Judgements
judgements verdicts values = record { verdicts = verdicts; digests = kept_values verdicts values }

-- one verdict may be another one now
abbrev pub IsSetAt : List Verdict → List Verdict → ℕ → Verdict → Type 0
IsSetAt old new position verdict = (i : ℕ)
    → (verdict_at new i ≡ verdict_at old i) ⊎ ((i ≡ position) × (verdict_at new i ≡ verdict))

-- Lists of verdicts: one of which nothing is said, and one verdict that is set.
use Rattle.std.proofs.Common.{◌≡◌, inl, inr, ℕ, zero, suc, List, [], ◌∷◌, ◌++◌, map, replicate, Result, Ok, Err, OnOk, refl, sym, ap, ap₂, ◌∙◌}
use Rattle.std.proofs.Math.ListN.{set}
use Rattle.std.proofs.lemmas.List.{map-append}
use Rattle.warc_value.specs.declared.hash.Verdict.{Verdict}
use Rattle.warc_value.specs.declared.hash.Verdict.TheVariants.{Unchecked}
use Rattle.warc_reading.specs.Judging.{verdict_on}
use Rattle.warc_reading.specs.Row.{Placed}
use Rattle.warc_judged.specs.Counting.{verdict_at}
use Rattle.warc_judged.specs.Waiting.{IsSetAt}

pub none_said : (n i : ℕ) → verdict_at (replicate n Unchecked) i ≡ Unchecked
none_said zero i = refl
none_said (suc n) zero = refl
none_said (suc n) (suc i) = none_said n i

pub set_one : (verdicts : List Verdict) (position : ℕ) (verdict : Verdict) → IsSetAt verdicts (set verdicts position verdict) position verdict
set_one [] position verdict i = inl refl
set_one (v ∷ vs) zero verdict zero = inr (refl, refl)
set_one (v ∷ vs) zero verdict (suc i) = inl refl
set_one (v ∷ vs) (suc position) verdict zero = inl refl
set_one (v ∷ vs) (suc position) verdict (suc i) = elim (set_one vs position verdict i) [
  | inl same ↦ inl same
  | inr now ↦ inr (ap suc now.0, now.1)
]

-- the verdict on one block more
pub verdicts_more : {E : Type 0} (answer : Result (Unit {0}) E) (old new : List Verdict) (records : List Placed) (p : Placed) (verdict : Verdict) → old ≡ map verdict_on records → verdict ≡ verdict_on p
    → OnOk answer (new ≡ old ++ verdict ∷ []) → OnOk answer (new ≡ map verdict_on (records ++ p ∷ []))
verdicts_more (Ok u) old new records p verdict is judged added =
    added ∙ ap₂ (λ (l : List Verdict) (x : Verdict). l ++ x ∷ []) is judged ∙ sym (map-append verdict_on records (p ∷ []))
verdicts_more (Err e) old new records p verdict is judged added = tt

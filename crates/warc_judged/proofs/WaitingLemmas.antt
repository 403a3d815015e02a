-- Verdicts of which the last ones are those of blocks that wait, and the values of digests that are kept by them.
use Rattle.std.proofs.Common.{◌≡◌, ℕ, zero, suc, ◌-◌, ◌<◌, List, [], ◌∷◌, ◌++◌, length, take, refl, sym, ap, ◌∙◌, arith}
use Rattle.std.proofs.Math.ListN.{set}
use Rattle.std.proofs.lemmas.List.{get_or-take, get_or_append_left, length-take-le}
use Rattle.std.proofs.lemmas.Option.{unwrap_or-slice_get}
use Rattle.warc_value.specs.declared.hash.Verdict.{Verdict}
use Rattle.warc_value.specs.declared.hash.Verdict.TheVariants.{Good, Unchecked}
use Rattle.warc_judged.specs.Counting.{verdict_at}
use Rattle.warc_judged.specs.Fixity.{digest_at, unless_good}
use Rattle.warc_judged.specs.Waiting.{kept_values, with_last}

-- those before the last ones are as they were
pub early_at : (list waiting : List Verdict) (i : ℕ) → i < length list - length waiting
    → verdict_at (with_last list waiting) i ≡ verdict_at list i
early_at list waiting i lt =
    let n = length list - length waiting in
    unwrap_or-slice_get (take n list ++ waiting) i Unchecked
    ∙ get_or_append_left (take n list) waiting Unchecked i (omega (arith, lt, length-take-le n list))
    ∙ get_or-take n list i Unchecked lt ∙ sym (unwrap_or-slice_get list i Unchecked)

pub kept_more : (vs : List Verdict) (values : List (List ℕ)) (v : Verdict) (value : List ℕ) → length vs ≡ length values
    → kept_values (vs ++ v ∷ []) (values ++ value ∷ []) ≡ kept_values vs values ++ unless_good v value ∷ []
kept_more [] [] v value same = refl
kept_more [] (x ∷ xs) v value same = absurd (omega (arith, same))
kept_more (w ∷ ws) [] v value same = absurd (omega (arith, same))
kept_more (w ∷ ws) (x ∷ xs) v value same = ap (λ l. unless_good w x ∷ l) (kept_more ws xs v value (omega (arith, same)))

pub kept_first : (n : ℕ) (vs : List Verdict) (values : List (List ℕ))
    → kept_values (take n vs) (take n values) ≡ take n (kept_values vs values)
kept_first zero vs values = refl
kept_first (suc n) [] values = refl
kept_first (suc n) (v ∷ vs) [] = refl
kept_first (suc n) (v ∷ vs) (x ∷ xs) = ap (λ l. unless_good v x ∷ l) (kept_first n vs xs)

-- the value of a good block is let go
pub kept_without : (vs : List Verdict) (values : List (List ℕ)) (i : ℕ) → verdict_at vs i ≡ Good
    → kept_values vs (set values i []) ≡ kept_values vs values
kept_without [] values i is = refl
kept_without (v ∷ vs) [] i is = refl
kept_without (v ∷ vs) (x ∷ xs) zero is =
    ap (λ w. unless_good w [] ∷ kept_values vs xs) is ∙ sym (ap (λ w. unless_good w x ∷ kept_values vs xs) is)
kept_without (v ∷ vs) (x ∷ xs) (suc i) is = ap (λ l. unless_good v x ∷ l) (kept_without vs xs i is)

pub kept_at : (vs : List Verdict) (values : List (List ℕ)) (i : ℕ) → length vs ≡ length values
    → digest_at (kept_values vs values) i ≡ unless_good (verdict_at vs i) (digest_at values i)
kept_at [] [] i same = refl
kept_at [] (x ∷ xs) i same = absurd (omega (arith, same))
kept_at (v ∷ vs) [] i same = absurd (omega (arith, same))
kept_at (v ∷ vs) (x ∷ xs) zero same = refl
kept_at (v ∷ vs) (x ∷ xs) (suc i) same = kept_at vs xs i (omega (arith, same))

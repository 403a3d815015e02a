-- The latest that passes, and what is chosen, as conditions over all positions.
use Rattle.std.proofs.Common.{◌≡◌, inl, inr, ℕ, zero, suc, ◌+◌, ◌<◌, ◌≤◌, Bool, true, false, ◌&&◌, ◌||◌, List, [], ◌∷◌, length, Option, Some, None, Ok, Err, slice_get, refl, sym, ◌∙◌, ap, subst, arith, true≢false, if◌then◌else◌}
use Rattle.std.specs.Prelude.{ok_or}
use Rattle.std.proofs.lemmas.Bool.{cases_Bool, and_from, and_parts, and_left}
use Rattle.std.proofs.lemmas.Option.{slice_get_within}
use Rattle.std.specs.List.{list_any}
use Rattle.warc_value.specs.Dates.{Instant}
use Rattle.warc_index.specs.declared.unfound.Unfound.{Unfound}
use Rattle.warc_index.specs.declared.unfound.Unfound.TheVariants.{NoCapture, NotYet}
use Rattle.warc_index.specs.Captures.{Indexed, is_earlier, latest, chosen_of, is_capture_of, is_by, IsLatest, NonePasses, SomePasses, LatestIsLast, IsChosen, ChosenIsLatest}
use Rattle.warc_index.proofs.LatestLemmas.{NoneBelow, IsBestBelow, BestBelow, latest-none, latest-best, step-miss, step-first, step-later, step-stays}

-- ---- a scan finds the best

-- the record at a place
pub at_place : {X : Type 0} (all : List X) (i : ℕ) → i < length all → (x : X) × (slice_get all i ≡ Some x)
at_place [] i lt = absurd (omega arith)
at_place (x ∷ all) zero lt = (x, refl)
at_place (x ∷ all) (suc i) lt = at_place all i (omega arith)

-- the best of the records below i
abbrev Best : (Indexed → Bool) → List Indexed → ℕ → Type 0
Best test all i = (best : Option ℕ) × BestBelow test all i best

next_best : (test : Indexed → Bool) (all : List Indexed) (i : ℕ) (x : Indexed) (best : Option ℕ)
    → slice_get all i ≡ Some x
    → BestBelow test all i best → Best test all (i + 1)
next_best test all i x best e h = elim (cases_Bool (test x)) [
  | inr miss ↦ (best, step-miss test all i best x h e miss)
  | inl hit ↦ passing best h hit
]
  where
    passing : (best : Option ℕ) → BestBelow test all i best → test x ≡ true → Best test all (i + 1)
    passing None h hit = (Some i, step-first test all i x h e hit)
    passing (Some p) h hit = elim (cases_Bool (is_earlier x.instant h.it.instant)) [
      | inl before ↦ (Some p, step-stays test all i p x h.it h e h.is_present before)
      | inr after ↦ (Some i, step-later test all i p x h.it h e h.is_present hit after)
    ]

best_of : (test : Indexed → Bool) (all : List Indexed) (i : ℕ) → i ≤ length all → Best test all i
best_of test all zero le = (None, λ k r lt e. absurd (omega arith))
best_of test all (suc i) le =
    let at = at_place all i (omega arith) in
    let old : Best test all i = best_of test all i (omega arith) in
    let new : Best test all (i + 1) = next_best test all i at.0 old.0 at.1 old.1 in
    subst (Best test all) (let z : i + 1 ≡ suc i = omega arith in z) new

-- ---- the latest

best_is_latest : (test : Indexed → Bool) (all : List Indexed) (p : ℕ) → IsBestBelow test all (length all) p
    → IsLatest test all p
best_is_latest test all p best = record {
  it = best.it;
  is_present = best.is_present;
  passes = best.passes;
  last = λ q r e hit. best.last q r (slice_get_within all q r e) e hit;
}

latest_is_best : (test : Indexed → Bool) (all : List Indexed) (p : ℕ) → IsLatest test all p
    → IsBestBelow test all (length all) p
latest_is_best test all p h = record {
  it = h.it;
  within = slice_get_within all p h.it h.is_present;
  is_present = h.is_present;
  passes = h.passes;
  last = λ k r lt e hit. h.last k r e hit;
}

none_is_none : (test : Indexed → Bool) (all : List Indexed) → NoneBelow test all (length all) → NonePasses test all
none_is_none test all none q r e = none q r (slice_get_within all q r e) e

-- the latest is what the scan of all finds
pub found_latest : (test : Indexed → Bool) (all : List Indexed) (p : ℕ) → latest test all ≡ Some p
    → IsLatest test all p
found_latest test all p e = by_best (best_of test all (length all) (omega arith))
  where
    by_best : Best test all (length all) → IsLatest test all p
    by_best (None, none) = let f : latest test all ≡ None = latest-none test all none in absurd (cc)
    by_best (Some q, best) =
        let f : latest test all ≡ Some q = latest-best test all q best in
        let same : q ≡ p = (cc) in
        subst (IsLatest test all) same (best_is_latest test all q best)

found_none : (test : Indexed → Bool) (all : List Indexed) → latest test all ≡ None → NonePasses test all
found_none test all e = by_best (best_of test all (length all) (omega arith))
  where
    by_best : Best test all (length all) → NonePasses test all
    by_best (None, none) = none_is_none test all none
    by_best (Some q, best) = let f : latest test all ≡ Some q = latest-best test all q best in absurd (cc)

pub latest_below : (test : Indexed → Bool) (all : List Indexed) (p : ℕ) → latest test all ≡ Some p → p < length all
latest_below test all p e = let is = found_latest test all p e in slice_get_within all p is.it is.is_present

pub latest_is_last : LatestIsLast
latest_is_last test all = (
  λ p. (found_latest test all p, λ is. latest-best test all p (latest_is_best test all p is)),
  (found_none test all, λ none. latest-none test all (λ k r lt e. none k r e)),
)

-- ---- the chosen capture

abbrev early_of : List ℕ → Instant → Indexed → Bool
early_of uri moment r = is_capture_of uri r && is_by (Some moment) r

chosen_when_latest : (all : List Indexed) (uri : List ℕ) (moment : Instant) (p : ℕ)
    → IsLatest (early_of uri moment) all p → IsChosen all uri moment p
chosen_when_latest all uri moment p is =
    let both = and_parts (is_capture_of uri is.it) (is_by (Some moment) is.it) is.passes in
    record {
      it = is.it;
      is_present = is.is_present;
      capture = both.0;
      early = both.1;
      last = λ q r e a b. is.last q r e (and_from (is_capture_of uri r) (is_by (Some moment) r) a b);
    }

latest_when_chosen : (all : List Indexed) (uri : List ℕ) (moment : Instant) (p : ℕ) → IsChosen all uri moment p
    → IsLatest (early_of uri moment) all p
latest_when_chosen all uri moment p is = record {
  it = is.it;
  is_present = is.is_present;
  passes = and_from (is_capture_of uri is.it) (is_by (Some moment) is.it) is.capture is.early;
  last = λ q r e hit. let both = and_parts (is_capture_of uri r) (is_by (Some moment) r) hit in
      is.last q r e both.0 both.1;
}

-- what is chosen, by the latest and by whether some record is a capture of the target
ok_is : (o : Option ℕ) (why : Unfound) (p : ℕ) → ok_or o why ≡ Ok p → o ≡ Some p
ok_is None why p e = absurd (cc)
ok_is (Some q) why p e = let z : q ≡ p = (cc) in ap Some z

err_is : (o : Option ℕ) (any : Bool) (why : Unfound) → ok_or o (if any then NotYet else NoCapture) ≡ Err why
    → (o ≡ None) × ((if any then NotYet else NoCapture) ≡ why)
err_is None any why e = (refl, cc)
err_is (Some q) any why e = absurd (cc)

no_capture : (any : Bool) → (if any then NotYet else NoCapture) ≡ NoCapture → any ≡ false
no_capture true e = absurd (cc)
no_capture false e = refl

not_yet : (any : Bool) → (if any then NotYet else NoCapture) ≡ NotYet → any ≡ true
not_yet true e = refl
not_yet false e = absurd (cc)

-- ---- some record passes, or none

any_is_some : (test : Indexed → Bool) (all : List Indexed) → list_any test all ≡ true → SomePasses test all
any_is_some test [] e = absurd (true≢false (sym e))
any_is_some test (x ∷ all) e = elim (cases_Bool (test x)) [
  | inl hit ↦ (0, x, refl, hit)
  | inr miss ↦ let later = any_is_some test all (ap (λ b. b || list_any test all) (sym miss) ∙ e) in
      (suc later.0, later.1, later.2, later.3)
]

none_is_any : (test : Indexed → Bool) (all : List Indexed) → NonePasses test all → list_any test all ≡ false
none_is_any test [] none = refl
none_is_any test (x ∷ all) none =
    ap (λ b. b || list_any test all) (none 0 x refl) ∙ none_is_any test all (λ q r e. none (suc q) r e)

any_is_none : (test : Indexed → Bool) (all : List Indexed) → list_any test all ≡ false → NonePasses test all
any_is_none test all e q r f = elim (cases_Bool (test r)) [
  | inr miss ↦ miss
  | inl hit ↦ absurd (true≢false (sym (passes all q f hit) ∙ e))
]
  where
    passes : (some : List Indexed) (k : ℕ) → slice_get some k ≡ Some r → test r ≡ true → list_any test some ≡ true
    passes [] k f hit = absurd (cc)
    passes (x ∷ some) zero f hit = let same : x ≡ r = (cc) in
        ap (λ y. test y || list_any test some) same ∙ ap (λ b. b || list_any test some) hit
    passes (x ∷ some) (suc k) f hit = let h : list_any test some ≡ true = passes some k f hit in
        elim (cases_Bool (test x)) [
          | inl here ↦ ap (λ b. b || list_any test some) here
          | inr gone ↦ ap (λ b. b || list_any test some) gone ∙ h
        ]

some_is_any : (test : Indexed → Bool) (all : List Indexed) → SomePasses test all → list_any test all ≡ true
some_is_any test all some = elim (cases_Bool (list_any test all)) [
  | inl yes_any ↦ yes_any
  | inr none ↦ absurd (true≢false (sym some.3 ∙ any_is_none test all none some.0 some.1 some.2))
]

-- no capture of the target is one by the moment
none_early : (all : List Indexed) (uri : List ℕ) (moment : Instant) → NonePasses (is_capture_of uri) all
    → NonePasses (early_of uri moment) all
none_early all uri moment none q r e = and_left (is_capture_of uri r) (is_by (Some moment) r) (none q r e)

abbrev reason_by : Bool → Unfound
reason_by any = if any then NotYet else NoCapture

no_latest : (all : List Indexed) (uri : List ℕ) (moment : Instant) (any : Bool)
    → NonePasses (early_of uri moment) all → list_any (is_capture_of uri) all ≡ any
    → chosen_of all uri moment ≡ Err (reason_by any)
no_latest all uri moment any none is =
    let gone : latest (early_of uri moment) all ≡ None = (latest_is_last (early_of uri moment) all).1.1 none in
    ap (λ (o : Option ℕ). ok_or o (reason_by (list_any (is_capture_of uri) all))) gone
    ∙ ap (λ (b : Bool). ok_or {T = ℕ} None (reason_by b)) is

pub chosen_is_latest : ChosenIsLatest
chosen_is_latest all uri moment =
    let test : Indexed → Bool = early_of uri moment in
    let any : Bool = list_any (is_capture_of uri) all in (
      λ p. (
        (λ e. chosen_when_latest all uri moment p (found_latest test all p (ok_is (latest test all) _ p e))),
        (λ is.
            let found : latest test all ≡ Some p =
            ((latest_is_last test all).0 p).1 (latest_when_chosen all uri moment p is) in
            ap (λ (o : Option ℕ). ok_or o (reason_by any)) found),
      ),
      (
        (λ e. any_is_none (is_capture_of uri) all (no_capture any (err_is (latest test all) any NoCapture e).1)),
        (λ none. no_latest all uri moment false (none_early all uri moment none) (none_is_any
            (is_capture_of uri) all none)),
      ),
      (
        (λ e.
            let why = err_is (latest test all) any NotYet e in
            (any_is_some (is_capture_of uri) all (not_yet any why.1), found_none test all why.0)),
        (λ h. no_latest all uri moment true h.1 (some_is_any (is_capture_of uri) all h.0)),
      ),
    )

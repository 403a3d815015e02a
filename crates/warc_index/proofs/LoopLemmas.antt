-- A chain of referents loops exactly if it comes back.
use Rattle.std.proofs.Common.{◌≡◌, ◌≢◌, ℕ, zero, suc, ◌<◌, Bool, true, false, not, if◌then◌else◌, List, length, Option, Some, None, is_some, IsSome, Result, Ok, Err, slice_get, refl, sym, ◌∙◌, ap, true≢false}
use Rattle.std.proofs.lemmas.List.Quantifiers.{position-Some}
use Rattle.std.specs.Option.{option_and_then, option_or}
use Rattle.std.specs.Prelude.{ok_or}
use Rattle.std.specs.Result.{result_ok}
use Rattle.warc_index.specs.declared.unfound.Unfound.{Unfound}
use Rattle.warc_index.specs.declared.unfound.Unfound.TheVariants.{UnknownProfile, NoReference, Unresolved, Loop}
use Rattle.warc_value.specs.Dates.{Instant}
use Rattle.warc_index.specs.Captures.{Indexed}
use Rattle.warc_index.specs.Referents.{has_key, is_of_pair, by_key, by_pair, record_named, names_something, is_candidate, by_payload, referent_of, referent_at, next_of, ok_then, is_revisit_at, origin_within, ChainLoops}
use Rattle.warc_index.proofs.ChoiceLemmas.{latest_below}
use Rattle.warc_index.specs.Walks.{walk, StaysBelow}
use Rattle.warc_index.proofs.WalkLemmas.{comes_back, goes_on}

-- a walk by its first step
pub walk-front : (next : ℕ → Option ℕ) (p k : ℕ)
    → walk next p (suc k) ≡ option_and_then (λ (q : ℕ). walk next q k) (next p)
walk-front next p zero = by_case (next p)
  where
    by_case : (o : Option ℕ) → o ≡ option_and_then (λ (q : ℕ). Some q) o
    by_case None = refl
    by_case (Some q) = refl
walk-front next p (suc k) = ap (option_and_then next) (walk-front next p k) ∙ by_case (next p)
  where
    by_case : (o : Option ℕ) → option_and_then next (option_and_then (λ (q : ℕ). walk next q k) o)
        ≡ option_and_then (λ (q : ℕ). walk next q (suc k)) o
    by_case None = refl
    by_case (Some q) = refl

-- ---- what a referent can be

ok_or_not_loop : (o : Option ℕ) (why : Unfound) → why ≢ Loop → ok_or o why ≢ Err Loop
ok_or_not_loop None why other e = other (cc)
ok_or_not_loop (Some p) why other e = cc

by_table : (known names : Bool) (a b : Option ℕ)
    → (if not known then Err UnknownProfile else if names then ok_or a Unresolved else ok_or b NoReference) ≢ Err Loop
by_table false names a b e = cc
by_table true true a b e = ok_or_not_loop a Unresolved (λ f. cc) e
by_table true false a b e = ok_or_not_loop b NoReference (λ f. cc) e

referent-not_loop : (all : List Indexed) (r : Indexed) → referent_of all r ≢ Err Loop
referent-not_loop all r = by_table r.reference.known_profile (names_something r.reference) (record_named all r.reference)
    (by_payload all r)

by_key-below : (all : List Indexed) (r : Indexed) (id : Option (List ℕ)) (q : ℕ)
    → option_and_then (by_key all) id ≡ Some q → q < length all
by_key-below all r None q e = absurd (cc)
by_key-below all r (Some key) q e = (position-Some (has_key key) all q r e).0

by_pair-below : (all : List Indexed) (r : Indexed) (pair : Option (List ℕ × Instant)) (q : ℕ)
    → option_and_then (by_pair all) pair ≡ Some q → q < length all
by_pair-below all r None q e = absurd (cc)
by_pair-below all r (Some pair) q e = (position-Some (is_of_pair pair) all q r e).0

one_or_other : (n : ℕ) (a b : Option ℕ) (q : ℕ) → ((p : ℕ) → a ≡ Some p → p < n) → ((p : ℕ) → b ≡ Some p → p < n)
    → option_or a b ≡ Some q → q < n
one_or_other n None b q below_a below_b e = below_b q e
one_or_other n (Some p) b q below_a below_b e = below_a q e

record_named-below : (all : List Indexed) (r : Indexed) (q : ℕ) → record_named all r.reference ≡ Some q → q < length all
record_named-below all r q e =
    one_or_other (length all) (option_and_then (by_key all) r.reference.named_id) (option_and_then
    (by_pair all) r.reference.named_pair) q
    (by_key-below all r r.reference.named_id) (by_pair-below all r r.reference.named_pair) e

ok_or_some : (o : Option ℕ) (why : Unfound) (q : ℕ) → ok_or o why ≡ Ok q → o ≡ Some q
ok_or_some None why q e = absurd (cc)
ok_or_some (Some p) why q e = let z : p ≡ q = (cc) in ap Some z

found_from : (n : ℕ) (known names : Bool) (a b : Option ℕ) (q : ℕ) → ((p : ℕ) → a ≡ Some p → p < n) → ((p : ℕ)
    → b ≡ Some p → p < n)
    → (if not known then Err UnknownProfile else if names then ok_or a Unresolved else ok_or b NoReference) ≡ Ok q
    → q < n
found_from n false names a b q below_a below_b e = absurd (cc)
found_from n true true a b q below_a below_b e = below_a q (ok_or_some a _ q e)
found_from n true false a b q below_a below_b e = below_b q (ok_or_some b _ q e)

pub referent-below : (all : List Indexed) (r : Indexed) (q : ℕ) → referent_of all r ≡ Ok q → q < length all
referent-below all r q e =
    found_from (length all) r.reference.known_profile (names_something r.reference) (record_named all r.reference)
    (by_payload all r) q
    (record_named-below all r) (latest_below (is_candidate r) all) e

-- ---- one step

referent_at-not_loop : (all : List Indexed) (o : Option Indexed) → referent_at all o ≢ Err Loop
referent_at-not_loop all None e = cc
referent_at-not_loop all (Some r) e = referent-not_loop all r e

pub referent_at-below : (all : List Indexed) (o : Option Indexed) (q : ℕ) → referent_at all o ≡ Ok q → q < length all
referent_at-below all None q e = cc
referent_at-below all (Some r) q e = referent-below all r q e

ok_from : (b : Bool) (x : Result ℕ Unfound) (q : ℕ) → (if b then result_ok x else None) ≡ Some q
    → (b ≡ true) × (x ≡ Ok q)
ok_from true (Ok p) q e = let z : p ≡ q = (cc) in (refl, ap Ok z)
ok_from true (Err why) q e = cc
ok_from false x q e = cc

pub stays_below : (all : List Indexed) → StaysBelow (length all) (next_of all)
stays_below all p q lt e = referent_at-below all (slice_get all p) q (ok_from (is_revisit_at all p)
    (referent_at all (slice_get all p)) q e).1

-- ---- as many steps as there are

-- a chain that has used up its steps has a walk with that number of steps
walks : (k : ℕ) (all : List Indexed) (p : ℕ) → origin_within k all p ≡ Err Loop → IsSome (walk (next_of all) p k)
walks zero all p e = refl
walks (suc k) all p e = by_case (λ q. walks k all q) (is_revisit_at all p) refl (referent_at all
    (slice_get all p)) refl
  where
    by_case : ((q : ℕ) → origin_within k all q ≡ Err Loop → IsSome (walk (next_of all) q k)) → (b : Bool)
        → is_revisit_at all p ≡ b → (x : Result ℕ Unfound) → referent_at all (slice_get all p) ≡ x
        → IsSome (walk (next_of all) p (suc k))
    by_case again false is x to = let w : origin_within (suc k) all p ≡ Ok p =
        ap (λ (b : Bool). if b then ok_then (origin_within k all) (referent_at all
        (slice_get all p)) else Ok p) is in cc
    by_case again true is (Err why) to =
        let w : origin_within (suc k) all p ≡ Err why =
        ap (λ (b : Bool). if b then ok_then (origin_within k all) (referent_at all
        (slice_get all p)) else Ok p) is ∙ ap (ok_then (origin_within k all)) to in
        absurd (referent_at-not_loop all (slice_get all p) (to ∙ (sym w ∙ e)))
    by_case again true is (Ok q) to =
        let w : origin_within (suc k) all p ≡ origin_within k all q =
        ap (λ (b : Bool). if b then ok_then (origin_within k all) (referent_at all
        (slice_get all p)) else Ok p) is ∙ ap (ok_then (origin_within k all)) to in
        let n : next_of all p ≡ Some q =
        ap (λ (b : Bool). if b then result_ok (referent_at all (slice_get all p)) else None) is
        ∙ ap result_ok to in
        let f : walk (next_of all) p (suc k) ≡ walk (next_of all) q k =
        walk-front (next_of all) p k ∙ ap (option_and_then (λ (r : ℕ). walk (next_of all) r k)) n in
        ap is_some f ∙ again q (sym w ∙ e)

-- a chain with a walk of one step more uses up its steps
uses_up : (k : ℕ) (all : List Indexed) (p : ℕ) → IsSome (walk (next_of all) p (suc k))
    → origin_within k all p ≡ Err Loop
uses_up zero all p on = by_case (next_of all p) refl
  where
    by_case : (o : Option ℕ) → next_of all p ≡ o → origin_within zero all p ≡ Err Loop
    by_case None e = absurd (true≢false (sym on ∙ ap is_some e))
    by_case (Some q) e = ap (λ (b : Bool). if b then Err Loop else Ok p) (ok_from (is_revisit_at all p)
        (referent_at all (slice_get all p)) q e).0
uses_up (suc k) all p on = by_case (λ q. uses_up k all q) (next_of all p) refl
  where
    by_case : ((q : ℕ) → IsSome (walk (next_of all) q (suc k)) → origin_within k all q ≡ Err Loop)
        → (o : Option ℕ) → next_of all p ≡ o → origin_within (suc k) all p ≡ Err Loop
    by_case again None e =
        let f : walk (next_of all) p (suc (suc k)) ≡ None =
        walk-front (next_of all) p (suc k) ∙ ap (option_and_then (λ (r : ℕ). walk (next_of all) r (suc k))) e in
        absurd (true≢false (sym on ∙ ap is_some f))
    by_case again (Some q) e =
        let step : (is_revisit_at all p ≡ true) × (referent_at all (slice_get all p) ≡ Ok q) =
        ok_from (is_revisit_at all p) (referent_at all (slice_get all p)) q e in
        let f : walk (next_of all) p (suc (suc k)) ≡ walk (next_of all) q (suc k) =
        walk-front (next_of all) p (suc k) ∙ ap (option_and_then (λ (r : ℕ). walk (next_of all) r (suc k))) e in
        ap (λ (b : Bool). if b then ok_then (origin_within k all) (referent_at all
        (slice_get all p)) else Ok p) step.0
        ∙ (ap (ok_then (origin_within k all)) step.1 ∙ again q (ap is_some (sym f) ∙ on))

pub chain_loops : ChainLoops
chain_loops all p lt = (
  (λ e. comes_back (length all) p (next_of all) lt (stays_below all) (walks (length all) all p e)),
  (λ back. uses_up (length all) all p (goes_on (suc (length all)) p (next_of all) back)),
)

-- a referent is one of the records
pub next_within : (all : List Indexed) (p q : ℕ) → next_of all p ≡ Some q → q < length all
next_within all p q e =
    referent_at-below all (slice_get all p) q (ok_from (is_revisit_at all p) (referent_at all (slice_get all p)) q e).1

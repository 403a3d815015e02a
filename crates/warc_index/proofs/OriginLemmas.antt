-- The origin of a record is one of the records.
use Rattle.std.proofs.Common.{◌≡◌, ℕ, zero, suc, ◌<◌, Bool, true, false, if◌then◌else◌, List, length, Result, Ok, Err, slice_get, refl, subst}
use Rattle.warc_index.specs.declared.unfound.Unfound.{Unfound}
use Rattle.warc_index.specs.declared.unfound.Unfound.TheVariants.{Loop}
use Rattle.warc_index.specs.Captures.{Indexed}
use Rattle.warc_index.specs.Referents.{ok_then, referent_at, is_revisit_at, origin_within, OriginsAreRecords}
use Rattle.warc_index.proofs.LoopLemmas.{referent_at-below}

-- from the record at p: it is the origin, or the origin of the next one is
by_step : (steps : ℕ) (all : List Indexed) (p q : ℕ) (b : Bool) (next : Result ℕ Unfound) → p < length all
    → ((r : ℕ) → next ≡ Ok r → r < length all)
    → ((r : ℕ) → r < length all → origin_within steps all r ≡ Ok q → q < length all)
    → (if b then ok_then (origin_within steps all) next else Ok p) ≡ Ok q → q < length all
by_step steps all p q false next lt stays later e =
    let same : p ≡ q = (cc) in subst (λ (n : ℕ). n < length all) same lt
by_step steps all p q true (Err why) lt stays later e = absurd (cc)
by_step steps all p q true (Ok r) lt stays later e = later r (stays r refl) e

origin_below : (steps : ℕ) (all : List Indexed) (p q : ℕ) → p < length all → origin_within steps all p ≡ Ok q
    → q < length all
origin_below zero all p q lt e = by_case (is_revisit_at all p) e
  where
    by_case : (b : Bool) → (if b then Err Loop else Ok p) ≡ Ok q → q < length all
    by_case true e = absurd (cc)
    by_case false e = let same : p ≡ q = (cc) in subst (λ (n : ℕ). n < length all) same lt
origin_below (suc steps) all p q lt e =
    by_step steps all p q (is_revisit_at all p) (referent_at all (slice_get all p)) lt
    (λ r to. referent_at-below all (slice_get all p) r to) (λ r within is. origin_below steps all r q within is) e

pub origins_are_records : OriginsAreRecords
origins_are_records all p q lt e = origin_below (length all) all p q lt e

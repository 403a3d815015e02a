-- The steps of a chain of referents, and its origin.
use Rattle.std.proofs.Common.{◌≡◌, ℕ, suc, ◌+◌, ◌-◌, ◌<◌, ◌≤◌, Bool, true, false, not, List, length, map, Option, Some, None, Result, Ok, Err, slice_get, refl, sym, ap, ◌∙◌, arith, true≢false, if◌then◌else◌}
use Rattle.std.specs.Option.{option_map_or}
use Rattle.std.specs.Result.{result_ok}
use Rattle.warc_record.specs.declared.types.Kind.{Kind}
use Rattle.warc_record.specs.declared.types.Kind.TheVariants.{Warcinfo, Response, Resource, Request, Metadata, Revisit, Conversion, Continuation, Other}
use Rattle.warc_record.specs.Kinds.{is_revisit}
use Rattle.warc_index.specs.declared.unfound.Unfound.{Unfound}
use Rattle.warc_index.specs.declared.unfound.Unfound.TheVariants.{Loop}
use Rattle.warc_index.specs.Captures.{Indexed, is_capture}
use Rattle.warc_index.specs.Referents.{next_of, referent_of, referent_at, is_revisit_at, ok_then, origin_within}
use Rattle.warc_index.specs.Links.{Link, link_at, ends_as}
use Rattle.warc_index.specs.Linked.{revisit_link, kind_link, link_of}
use Rattle.warc_index.specs.Orders.{step_of}
use Rattle.warc_index.proofs.LinkedLemmas.{link_there, link_past, kind_ends}

-- ---- a step

not_not : (b : Bool) → not (not b) ≡ b
not_not true = refl
not_not false = refl

by_place : (all : List Indexed) (p : ℕ) (o : Option Indexed) → slice_get all p ≡ o →
    is_revisit_at all p ≡ not (ends_as (link_at (map link_of all) p).role)
by_place all p None at = ap (λ (o : Option Indexed). option_map_or (λ (r : Indexed). is_revisit r.kind) o false) at
    ∙ ap (λ (l : Link). not (ends_as l.role)) (sym (link_past all p at))
by_place all p (Some r) at = ap (λ (o : Option Indexed). option_map_or (λ (r : Indexed). is_revisit r.kind) o false) at
    ∙ (sym (not_not (is_revisit r.kind)) ∙ (ap not (sym (kind_ends r.kind r))
    ∙ ap (λ (l : Link). not (ends_as l.role)) (sym (link_there all p r at))))

pub revisit_is : (all : List Indexed) (p : ℕ) → is_revisit_at all p ≡ not (ends_as (link_at (map link_of all) p).role)
revisit_is all p = by_place all p (slice_get all p) refl

-- the revisit at a place
pub record IsRevisitAt (all : List Indexed) (p : ℕ) : Type 0 where
  pub it : Indexed
  pub is_present : slice_get all p ≡ Some it
  pub capture : is_capture it.kind ≡ true
  pub link : link_at (map link_of all) p ≡ revisit_link it.reference.known_profile it

revisit_captures : (k : Kind) → is_revisit k ≡ true → is_capture k ≡ true
revisit_captures Revisit h = refl
revisit_captures Warcinfo h = h
revisit_captures Response h = refl
revisit_captures Resource h = refl
revisit_captures Request h = h
revisit_captures Metadata h = h
revisit_captures Conversion h = h
revisit_captures Continuation h = h
revisit_captures Other h = h

revisit_made : (k : Kind) (r : Indexed) → is_revisit k ≡ true → kind_link k r ≡ revisit_link
    r.reference.known_profile r
revisit_made Revisit r h = refl
revisit_made Warcinfo r h = absurd (true≢false (sym h))
revisit_made Response r h = absurd (true≢false (sym h))
revisit_made Resource r h = absurd (true≢false (sym h))
revisit_made Request r h = absurd (true≢false (sym h))
revisit_made Metadata r h = absurd (true≢false (sym h))
revisit_made Conversion r h = absurd (true≢false (sym h))
revisit_made Continuation r h = absurd (true≢false (sym h))
revisit_made Other r h = absurd (true≢false (sym h))

at_place : (all : List Indexed) (p : ℕ) (o : Option Indexed) → slice_get all p ≡ o → is_revisit_at all p ≡ true →
    IsRevisitAt all p
at_place all p None at h = absurd (true≢false (sym h ∙ ap (λ (o : Option Indexed). option_map_or (λ (r : Indexed).
    is_revisit r.kind) o false) at))
at_place all p (Some r) at h =
    let is : is_revisit r.kind ≡ true = sym (ap (λ (o : Option Indexed). option_map_or (λ (r : Indexed). is_revisit
    r.kind) o false) at) ∙ h in
    record {
      it = r;
      is_present = at;
      capture = revisit_captures r.kind is;
      link = link_there all p r at ∙ revisit_made r.kind r is;
    }

pub revisit_at : (all : List Indexed) (p : ℕ) → is_revisit_at all p ≡ true → IsRevisitAt all p
revisit_at all p h = at_place all p (slice_get all p) refl h

pub step_ends : (all : List Indexed) (p : ℕ) → is_revisit_at all p ≡ false → step_of all p ≡ Ok None
step_ends all p e = ap (λ (b : Bool). if b then ok_then (λ (q : ℕ). Ok (Some q)) (referent_at all (slice_get all
    p)) else Ok None) e

pub step_goes : (all : List Indexed) (p : ℕ) → is_revisit_at all p ≡ true → (r : Indexed) → slice_get all p ≡ Some r →
    step_of all p ≡ ok_then (λ (q : ℕ). Ok (Some q)) (referent_of all r)
step_goes all p e r at = ap (λ (b : Bool). if b then ok_then (λ (q : ℕ). Ok (Some q)) (referent_at all (slice_get all
    p)) else Ok None) e ∙ ap (λ (o : Option Indexed). ok_then (λ (q : ℕ). Ok (Some q)) (referent_at all o)) at

-- ---- the origin

-- what a step says of the chain, with the place and the referent apart
stepped : Bool → Result ℕ Unfound → Result (Option ℕ) Unfound
stepped b x = if b then ok_then (λ (q : ℕ). Ok (Some q)) x else Ok None

gone : List Indexed → ℕ → ℕ → Bool → Result ℕ Unfound → Result ℕ Unfound
gone all k p b x = if b then ok_then (origin_within k all) x else Ok p

ends_by : (all : List Indexed) (k p : ℕ) (b : Bool) (x : Result ℕ Unfound) → stepped b x ≡ Ok None →
    gone all k p b x ≡ Ok p
unfolding stepped gone
ends_by all k p false x e = refl
ends_by all k p true (Ok q) e = absurd (cc)
ends_by all k p true (Err why) e = absurd (cc)

goes_by : (all : List Indexed) (k p q : ℕ) (b : Bool) (x : Result ℕ Unfound) → stepped b x ≡ Ok (Some q) →
    gone all k p b x ≡ origin_within k all q
unfolding stepped gone
goes_by all k p q false x e = absurd (cc)
goes_by all k p q true (Ok r) e = let same : r ≡ q = (cc) in ap (origin_within k all) same
goes_by all k p q true (Err why) e = absurd (cc)

breaks_by : (all : List Indexed) (k p : ℕ) (why : Unfound) (b : Bool) (x : Result ℕ Unfound) → stepped b x ≡ Err why →
    gone all k p b x ≡ Err why
unfolding stepped gone
breaks_by all k p why false x e = absurd (cc)
breaks_by all k p why true (Ok r) e = absurd (cc)
breaks_by all k p why true (Err other) e = let same : other ≡ why = (cc) in ap Err same

some_left : (n i : ℕ) → i < n → (k : ℕ) × (n - i ≡ suc k) × (n - (i + 1) ≡ k)
some_left n i lt = (n - (i + 1), omega arith, refl)

pub chain_ends : (all : List Indexed) (i p : ℕ) → i < length all → step_of all p ≡ Ok None →
    origin_within (length all - i) all p ≡ Ok p
unfolding stepped gone
chain_ends all i p lt e =
    let k = some_left (length all) i lt in
    ap (λ n. origin_within n all p) k.1 ∙ ends_by all k.0 p (is_revisit_at all p) (referent_at all (slice_get all p)) e

pub chain_goes : (all : List Indexed) (i p q : ℕ) → i < length all → step_of all p ≡ Ok (Some q) →
    origin_within (length all - i) all p ≡ origin_within (length all - (i + 1)) all q
unfolding stepped gone
chain_goes all i p q lt e =
    let k = some_left (length all) i lt in
    ap (λ n. origin_within n all p) k.1 ∙ (goes_by all k.0 p q (is_revisit_at all p) (referent_at all (slice_get all
    p)) e ∙ ap (λ n. origin_within n all q) (sym k.2))

pub chain_breaks : (all : List Indexed) (i p : ℕ) (why : Unfound) → i < length all → step_of all p ≡ Err why →
    origin_within (length all - i) all p ≡ Err why
unfolding stepped gone
chain_breaks all i p why lt e =
    let k = some_left (length all) i lt in
    ap (λ n. origin_within n all p) k.1 ∙ breaks_by all k.0 p why (is_revisit_at all p) (referent_at all (slice_get all
    p)) e

-- after as many steps as there are records
pub used_up : (all : List Indexed) (n p : ℕ) → length all ≤ n →
    origin_within (length all - n) all p ≡ (if is_revisit_at all p then Err Loop else Ok p)
used_up all n p le = let z : length all - n ≡ 0 = omega arith in ap (λ k. origin_within k all p) z

-- ---- what a step says of the referent

next_by : (b : Bool) (x : Result ℕ Unfound) (next : Option ℕ) → stepped b x ≡ Ok next
    → next ≡ (if b then result_ok x else None)
unfolding stepped
next_by false x next e = cc
next_by true (Ok q) next e = cc
next_by true (Err why) next e = absurd (cc)

none_by : (b : Bool) (x : Result ℕ Unfound) (why : Unfound) → stepped b x ≡ Err why
    → None ≡ (if b then result_ok x else None)
unfolding stepped
none_by false x why e = refl
none_by true (Ok q) why e = absurd (cc)
none_by true (Err other) why e = refl

pub next_found : (all : List Indexed) (p : ℕ) (next : Option ℕ) → step_of all p ≡ Ok next → next ≡ next_of all p
unfolding stepped
next_found all p next e = next_by (is_revisit_at all p) (referent_at all (slice_get all p)) next e

pub none_found : (all : List Indexed) (p : ℕ) (why : Unfound) → step_of all p ≡ Err why → None ≡ next_of all p
unfolding stepped
none_found all p why e = none_by (is_revisit_at all p) (referent_at all (slice_get all p)) why e

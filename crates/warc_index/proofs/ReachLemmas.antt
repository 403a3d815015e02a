-- Ways that are taken on until each has ended, or goes on for ever; and the origin that the end of a way says.
use Rattle.std.proofs.Common.{◌≡◌, ◌≢◌, ◌⊎◌, inl, inr, ℕ, zero, suc, ◌+◌, ◌<◌, ◌≤◌, Bool, true, false, if◌then◌else◌, List, [], length, get_or, set, Option, Some, None, is_some, unwrap_or, IsSome, Result, Ok, Err, slice_get, refl, sym, ◌∙◌, ap, subst, arith, true≢false}
use Rattle.std.proofs.lemmas.Bool.{cases_eq, cases_lt}
use Rattle.std.proofs.lemmas.List.{length-set, get_or-set_same, get_or-set_other, get_or_past}
use Rattle.std.proofs.lemmas.Option.{slice_get_past}
use Rattle.std.specs.Option.{option_and_then, option_map_or}
use Rattle.std.specs.Result.{result_ok}
use Rattle.warc_record.specs.Kinds.{is_revisit}
use Rattle.warc_index.specs.declared.unfound.Unfound.{Unfound}
use Rattle.warc_index.specs.declared.unfound.Unfound.TheVariants.{Loop}
use Rattle.warc_index.specs.Captures.{Indexed}
use Rattle.warc_index.specs.Chains.{onward, place_after, Reaches, place_for, AreReached, AreChainsOf}
use Rattle.warc_index.specs.Links.{Link}
use Rattle.warc_index.specs.Orders.{Indexes, step_of}
use Rattle.warc_order.specs.Entries.{Entry}
use Rattle.warc_index.specs.Referents.{next_of, referent_at, is_revisit_at, ok_then, origin_within, origin_of}
use Rattle.warc_index.specs.Walks.{walk}
use Rattle.warc_index.proofs.ChainLemmas.{step_ends}
use Rattle.warc_index.proofs.LoopLemmas.{chain_loops, walk-front}
use Rattle.warc_index.proofs.WalkLemmas.{goes_on}

-- ---- ways

place_after-add : (next : ℕ → Option ℕ) (m n p : ℕ) → place_after next (m + n) p ≡ place_after next n (place_after next m p)
place_after-add next zero n p = let z : 0 + n ≡ n = omega arith in ap (λ (k : ℕ). place_after next k p) z
place_after-add next (suc m) n p =
    let z : suc m + n ≡ suc (m + n) = omega arith in
    ap (λ (k : ℕ). place_after next k p) z ∙ place_after-add next m n (onward next p)

-- where a way has ended it stays
stays : (next : ℕ → Option ℕ) (n p : ℕ) → next p ≡ None → place_after next n p ≡ p
stays next zero p e = refl
stays next (suc n) p e = ap (λ (o : Option ℕ). place_after next n (unwrap_or o p)) e ∙ stays next n p e

further : (next : ℕ → Option ℕ) (least p q r : ℕ) → Reaches next least p q → Reaches next least q r
    → Reaches next (least + least) p r
further next least p q r a b = record {
  steps = a.steps + b.steps;
  enough = let x : least ≤ a.steps = a.enough in let y : least ≤ b.steps = b.enough in omega arith;
  there = place_after-add next a.steps b.steps p ∙ (ap (place_after next b.steps) a.there ∙ b.there);
}

less : (next : ℕ → Option ℕ) (least fewer p q : ℕ) → fewer ≤ least → Reaches next least p q → Reaches next fewer p q
less next least fewer p q le a = record {
  steps = a.steps;
  enough = let x : least ≤ a.steps = a.enough in omega arith;
  there = a.there;
}

-- a way that has ended at p reaches it in any number of steps
ended : (next : ℕ → Option ℕ) (least p q : ℕ) → next p ≡ None → q ≡ p → Reaches next least p q
ended next least p q e same = record {
  steps = least;
  enough = omega arith;
  there = stays next least p e ∙ sym same;
}

-- ---- tables

pub fewer_reached : (next : ℕ → Option ℕ) (least fewer : ℕ) (places : List ℕ) → fewer ≤ least
    → AreReached next least places → AreReached next fewer places
fewer_reached next least fewer places le are = record {
  past = are.past;
  each = λ p. less next least fewer p (place_for places p) le (are.each p);
}

-- a table of one step
pub once_reached : (next : ℕ → Option ℕ) (places : List ℕ) → ((p : ℕ) → length places ≤ p → next p ≡ None)
    → ((p : ℕ) → p < length places → place_for places p ≡ onward next p) → AreReached next 1 places
once_reached next places past each = record {
  past = past;
  each = λ p. elim (cases_lt p (length places)) [
    | inl within ↦ record { steps = 1; enough = omega arith; there = sym (each p within) }
    | inr beyond ↦ ended next 1 p (place_for places p) (past p beyond) (get_or_past places p p beyond)
  ];
}

-- the first ways were taken on
pub record AreDoubled (next : ℕ → Option ℕ) (least done : ℕ) (places : List ℕ) : Type 0 where
  pub are : AreReached next least places
  pub front : (p : ℕ) → p < done → Reaches next (least + least) p (place_for places p)

other_below : (p i : ℕ) → p < i + 1 → p ≢ i → p < i
other_below p i lt other = elim (cases_lt p i) [
  | inl less ↦ less
  | inr more ↦ absurd (other (omega (arith, lt, more)))
]

pub none_doubled : (next : ℕ → Option ℕ) (least : ℕ) (places : List ℕ) → AreReached next least places
    → AreDoubled next least 0 places
none_doubled next least places are = record { are = are; front = λ p h. absurd (omega arith) }

-- the next one: `here` is where its way is, and `to` where the way from there is
pub more_doubled : (next : ℕ → Option ℕ) (least i here to : ℕ) (places : List ℕ) → i < length places
    → place_for places i ≡ here → to ≡ place_for places here → AreDoubled next least i places
    → AreDoubled next least (i + 1) (set places i to)
more_doubled next least i here to places within at is so_far =
    let one : Reaches next least i here = subst (Reaches next least i) at (so_far.are.each i) in
    let more : Reaches next least here to = subst (Reaches next least here) (sym is) (so_far.are.each here) in
    let two : Reaches next (least + least) i to = further next least i here to one more in
    let put : place_for (set places i to) i ≡ to = get_or-set_same places i to i within in
    let long : length (set places i to) ≡ length places = length-set places i to in
    let twice : Reaches next (least + least) i (place_for (set places i to) i) =
    subst (Reaches next (least + least) i) (sym put) two in
    record {
      are = record {
        past = λ p beyond. so_far.are.past p (omega (arith, long, beyond));
        each = λ p. elim (cases_eq p i) [
          | inl same ↦ subst (λ (q : ℕ). Reaches next least q (place_for (set places i to) q)) (sym same) (less next
              (least + least) least i (place_for (set places i to) i) (omega arith) twice)
          | inr other ↦ subst (Reaches next least p) (sym (get_or-set_other places i p to p other)) (so_far.are.each p)
        ];
      };
      front = λ p lt. elim (cases_eq p i) [
        | inl same ↦ subst (λ (q : ℕ). Reaches next (least + least) q (place_for (set places i to) q)) (sym same) twice
        | inr other ↦ subst (Reaches next (least + least) p) (sym (get_or-set_other places i p to p other))
            (so_far.front p (other_below p i lt other))
      ];
    }

pub all_doubled : (next : ℕ → Option ℕ) (least n : ℕ) (places : List ℕ) → length places ≤ n
    → AreDoubled next least n places → AreReached next (least + least) places
all_doubled next least n places long doubled = record {
  past = doubled.are.past;
  each = λ p. elim (cases_lt p (length places)) [
    | inl within ↦ doubled.front p (omega (arith, long))
    | inr beyond ↦ ended next (least + least) p (place_for places p) (doubled.are.past p beyond)
        (get_or_past places p p beyond)
  ];
}

-- no table is one of any index
pub none_kept : (kept : Indexes) → AreChainsOf kept []
none_kept kept all is = inl refl

-- what has the same entries and links has the same tables
pub chains_same : (n : ℕ) (a b c d : List Entry) (links : List Link) (places : List ℕ) → b ≡ a → d ≡ c
    → AreChainsOf (record { count = n; ids = a; captures = c; links = links }) places
    → AreChainsOf (record { count = n; ids = b; captures = d; links = links }) places
chains_same n a b c d links places e f are =
    subst (λ (ids : List Entry). AreChainsOf (record { count = n; ids = ids; captures = d; links = links }) places)
    (sym e) (subst (λ (captures : List Entry). AreChainsOf (record {
      count = n;
      ids = a;
      captures = captures;
      links = links;
    }) places) (sym f) are)

-- ---- the origin

-- what a step from the end of a way says of the origin
abbrev pub settled : ℕ → Result (Option ℕ) Unfound → Result ℕ Unfound
settled q (Ok None) = Ok q
settled q (Ok (Some next)) = Err Loop
settled q (Err why) = Err why

abbrev IsSettled : List Indexed → Result ℕ Unfound → ℕ → Type 0
IsSettled all answer at = (answer ≡ Err Loop) ⊎ (answer ≡ settled at (step_of all at))

-- the way has ended at the first place
at_once : (all : List Indexed) (m p : ℕ) (answer : Result ℕ Unfound) → next_of all p ≡ None
    → answer ≡ settled p (step_of all p) → IsSettled all answer (place_after (next_of all) m p)
at_once all m p answer none is =
    inr (is ∙ ap (λ (q : ℕ). settled q (step_of all q)) (sym (stays (next_of all) m p none)))

no_revisit : (all : List Indexed) (k p : ℕ) → is_revisit_at all p ≡ false → origin_within k all p ≡ Ok p
no_revisit all zero p is = ap (λ (b : Bool). if b then Err Loop else Ok p) is
no_revisit all (suc k) p is = ap (λ (b : Bool). if b then ok_then (origin_within k all) (referent_at all (slice_get all
    p)) else Ok p) is

next_none : (all : List Indexed) (p : ℕ) → is_revisit_at all p ≡ false → next_of all p ≡ None
next_none all p is = ap (λ (b : Bool). if b then result_ok (referent_at all (slice_get all p)) else None) is

ends_first : (all : List Indexed) (k m p : ℕ) → is_revisit_at all p ≡ false
    → IsSettled all (origin_within k all p) (place_after (next_of all) m p)
ends_first all k m p is =
    at_once all m p (origin_within k all p) (next_none all p is) (no_revisit all k p is ∙ ap (settled p)
    (sym (step_ends all p is)))

-- a chain of a number of steps, and a way of at least that number
goes_as : (k m : ℕ) (all : List Indexed) (p : ℕ) → k ≤ m
    → IsSettled all (origin_within k all p) (place_after (next_of all) m p)
goes_as zero m all p le = by_case (is_revisit_at all p) refl
  where
    by_case : (b : Bool) → is_revisit_at all p ≡ b
        → IsSettled all (origin_within zero all p) (place_after (next_of all) m p)
    by_case true is = inl (ap (λ (b : Bool). if b then Err Loop else Ok p) is)
    by_case false is = ends_first all zero m p is
goes_as (suc k) zero all p le = absurd (omega arith)
goes_as (suc k) (suc m) all p le = by_case (λ q. goes_as k m all q (omega arith)) (is_revisit_at all p) refl
    (referent_at all (slice_get all p)) refl
  where
    by_case : ((q : ℕ) → IsSettled all (origin_within k all q) (place_after (next_of all) m q)) → (b : Bool)
        → is_revisit_at all p ≡ b → (x : Result ℕ Unfound) → referent_at all (slice_get all p) ≡ x
        → IsSettled all (origin_within (suc k) all p) (place_after (next_of all) (suc m) p)
    by_case again false is x to = ends_first all (suc k) (suc m) p is
    by_case again true is (Err why) to =
        let w : origin_within (suc k) all p ≡ Err why =
        ap (λ (b : Bool). if b then ok_then (origin_within k all) (referent_at all (slice_get all
        p)) else Ok p) is ∙ ap (ok_then (origin_within k all)) to in
        let s : step_of all p ≡ Err why =
        ap (λ (b : Bool). if b then ok_then (λ (q : ℕ). Ok (Some q)) (referent_at all (slice_get all
        p)) else Ok None) is ∙ ap (ok_then (λ (q : ℕ). Ok (Some q))) to in
        let n : next_of all p ≡ None =
        ap (λ (b : Bool). if b then result_ok (referent_at all (slice_get all p)) else None) is ∙ ap result_ok to in
        at_once all (suc m) p (origin_within (suc k) all p) n (w ∙ ap (settled p) (sym s))
    by_case again true is (Ok q) to =
        let w : origin_within (suc k) all p ≡ origin_within k all q =
        ap (λ (b : Bool). if b then ok_then (origin_within k all) (referent_at all (slice_get all
        p)) else Ok p) is ∙ ap (ok_then (origin_within k all)) to in
        let n : next_of all p ≡ Some q =
        ap (λ (b : Bool). if b then result_ok (referent_at all (slice_get all p)) else None) is ∙ ap result_ok to in
        let r : place_after (next_of all) (suc m) p ≡ place_after (next_of all) m q =
        ap (λ (o : Option ℕ). place_after (next_of all) m (unwrap_or o p)) n in
        elim (again q) [
          | inl loops ↦ inl (w ∙ loops)
          | inr ends ↦ inr (w ∙ (ends ∙ ap (λ (a : ℕ). settled a (step_of all a)) (sym r)))
        ]

-- a walk of one step more than a way goes on from where the way is
walks_on : (next : ℕ → Option ℕ) (m p : ℕ) → IsSome (walk next p (suc m)) → IsSome (next (place_after next m p))
walks_on next zero p on = on
walks_on next (suc m) p on = by_case (λ q. walks_on next m q) (next p) refl
  where
    by_case : ((q : ℕ) → IsSome (walk next q (suc m)) → IsSome (next (place_after next m q))) → (o : Option ℕ)
        → next p ≡ o → IsSome (next (place_after next (suc m) p))
    by_case again None e =
        let f : walk next p (suc (suc m)) ≡ None =
        walk-front next p (suc m) ∙ ap (option_and_then (λ (q : ℕ). walk next q (suc m))) e in
        absurd (true≢false (sym on ∙ ap is_some f))
    by_case again (Some q) e =
        let f : walk next p (suc (suc m)) ≡ walk next q (suc m) =
        walk-front next p (suc m) ∙ ap (option_and_then (λ (r : ℕ). walk next r (suc m))) e in
        let r : place_after next (suc m) p ≡ place_after next m q =
        ap (λ (o : Option ℕ). place_after next m (unwrap_or o p)) e in
        ap (λ (a : ℕ). is_some (next a)) r ∙ again q (ap is_some (sym f) ∙ on)

loops_by : (q : ℕ) (b : Bool) (x : Result ℕ Unfound) → IsSome (if b then result_ok x else None)
    → settled q (if b then ok_then (λ (r : ℕ). Ok (Some r)) x else Ok None) ≡ Err Loop
loops_by q true (Ok r) on = refl
loops_by q true (Err why) on = absurd (true≢false (sym on))
loops_by q false x on = absurd (true≢false (sym on))

past_end : (all : List Indexed) (p : ℕ) → length all ≤ p → is_revisit_at all p ≡ false
past_end all p beyond =
    ap (λ (o : Option Indexed). option_map_or (λ (r : Indexed). is_revisit r.kind) o false) (slice_get_past all p beyond)

pub past_next : (all : List Indexed) (p : ℕ) → length all ≤ p → next_of all p ≡ None
past_next all p beyond = next_none all p (past_end all p beyond)

loops_on : (all : List Indexed) (m p : ℕ) → p < length all → origin_of all p ≡ Err Loop
    → settled (place_after (next_of all) m p) (step_of all (place_after (next_of all) m p)) ≡ Err Loop
loops_on all m p within loops =
    let at : ℕ = place_after (next_of all) m p in
    let on : IsSome (next_of all at) =
    walks_on (next_of all) m p (goes_on (suc m) p (next_of all) ((chain_loops all p within).0 loops)) in
    loops_by at (is_revisit_at all at) (referent_at all (slice_get all at)) on

-- the origin, by a place that the way reaches in as many steps as there are records
pub origin_by_place : (all : List Indexed) (p q : ℕ) → Reaches (next_of all) (length all) p q
    → origin_of all p ≡ settled q (step_of all q)
origin_by_place all p q reaches =
    subst (λ (a : ℕ). origin_of all p ≡ settled a (step_of all a)) reaches.there
    (elim (goes_as (length all) reaches.steps all p reaches.enough) [
      | inr ends ↦ ends
      | inl loops ↦ elim (cases_lt p (length all)) [
        | inl within ↦ loops ∙ sym (loops_on all reaches.steps p within loops)
        | inr beyond ↦
            let is : origin_of all p ≡ Ok p = no_revisit all (length all) p (past_end all p beyond) in
            cc
      ]
    ])

-- What is kept of one record more, and of the first records.
use Rattle.std.proofs.Common.{◌≡◌, inl, inr, ℕ, zero, suc, ◌+◌, ◌<◌, ◌≤◌, Bool, true, false, List, [], ◌∷◌, ◌++◌, length, get_or, take, Option, Some, None, refl, sym, ◌∙◌, ap, subst, arith, length-append}
use Rattle.std.specs.Prelude.{All, AllPairs, filter, nat_lt, sum_by, count_by}
use Rattle.std.specs.List.{filter_map, enumerate_from, cons_option}
use Rattle.std.specs.Option.{option_to_list}
use Rattle.std.proofs.lemmas.Bool.{cases_lt}
use Rattle.std.proofs.lemmas.Bool.Decides.{nat_tests}
use Rattle.std.proofs.lemmas.List.{length-take-le, take_all}
use Rattle.std.proofs.lemmas.List.Elements.{filter_map-append, All-cons, All-head, All-tail, All-filter, All-weaker, filter_passes}
use Rattle.std.proofs.lemmas.List.Sums.{sum_by-cons, length-filter, count_by-le-length}
use Rattle.warc_order.specs.Entries.{Entry}
use Rattle.warc_record.specs.Kinds.{is_continuation}
use Rattle.warc_segment.specs.declared.held.TotalAndPlace.{TotalAndPlace}
use Rattle.warc_segment.specs.Joined.{PlacedRecord}
use Rattle.warc_segment.specs.Kept.{KeptMember, Kept, kept_of, kept_in}
use Rattle.warc_segment.specs.Held.{kept_from, side_by_side, AreHeld, held_in}
use Rattle.warc_segment.proofs.LeastLemmas.{filter_hit, filter_miss}
use Rattle.warc_segment.proofs.KeptLemmas.{kept_place}

-- ---- one record more

enumerate_more : {X : Type 0} (n : ℕ) (xs : List X) (x : X)
    → enumerate_from n (xs ++ x ∷ []) ≡ enumerate_from n xs ++ (n + length xs, x) ∷ []
enumerate_more n [] x = let z : n ≡ n + 0 = omega arith in ap (λ (k : ℕ). (k, x) ∷ []) z
enumerate_more {X} n (y ∷ xs) x =
    let z : (n + 1) + length xs ≡ n + length (y ∷ xs) = omega arith in
    ap (λ (l : List (ℕ × X)). (n, y) ∷ l) (enumerate_more (n + 1) xs x)
    ∙ ap (λ (k : ℕ). (n, y) ∷ (enumerate_from (n + 1) xs ++ (k, x) ∷ [])) z

one_option : {X : Type 0} (o : Option X) → cons_option o [] ≡ option_to_list o
one_option None = refl
one_option (Some x) = refl

members_more : (all : List PlacedRecord) (r : PlacedRecord)
    → filter_map kept_of (enumerate_from 0 (all ++ r ∷ []))
    ≡ filter_map kept_of (enumerate_from 0 all) ++ option_to_list (kept_of (length all, r))
members_more all r =
    let z : 0 + length all ≡ length all = omega arith in
    ap (filter_map kept_of) (enumerate_more 0 all r)
    ∙ (filter_map-append kept_of (enumerate_from 0 all) ((0 + length all, r) ∷ [])
    ∙ (ap (λ (o : List KeptMember). filter_map kept_of (enumerate_from 0 all) ++ o) (one_option (kept_of
    (0 + length all, r)))
    ∙ ap (λ (k : ℕ). filter_map kept_of (enumerate_from 0 all) ++ option_to_list (kept_of (k, r))) z))

-- what is held of n records, and of one more
pub kept_more : (count : ℕ) (es es' : List Entry) (fs fs' : List TotalAndPlace) (all : List PlacedRecord) (r : PlacedRecord)
    → held_in count es fs ≡ kept_in all
    → side_by_side es' fs' ≡ side_by_side es fs ++ option_to_list (kept_of (count, r))
    → held_in (count + 1) es' fs' ≡ kept_in (all ++ r ∷ [])
kept_more count es es' fs fs' all r was added =
    let n : count ≡ length all = ap (λ (k : Kept). k.count) was in
    let m : side_by_side es fs ≡ filter_map kept_of (enumerate_from 0 all) = ap (λ (k : Kept). k.members) was in
    let len : count + 1 ≡ length (all ++ r ∷ []) = ap (λ (k : ℕ). k + 1) n ∙ sym (length-append all (r ∷ [])) in
    let mem : side_by_side es' fs' ≡ filter_map kept_of (enumerate_from 0 (all ++ r ∷ [])) =
    added ∙ (ap (λ (ms : List KeptMember). ms ++ option_to_list (kept_of (count, r))) m
    ∙ (ap (λ (k : ℕ). filter_map kept_of (enumerate_from 0 all) ++ option_to_list (kept_of (k, r))) n
    ∙ sym (members_more all r))) in
    λ i. record { count = len i; members = mem i }

-- ---- the first records

abbrev early : ℕ → KeptMember → Bool
early n m = nat_lt m.position n

stored_position : (n : ℕ) (r : PlacedRecord) (m : KeptMember) → kept_of (n, r) ≡ Some m → m.position ≡ n
stored_position n r m e =
    (kept_place n r (is_continuation r.head.kind) r.head.segment.origin r.head.segment.number m e).0

keeps_option : (n : ℕ) (o : Option KeptMember) (ms : List KeptMember) → ((m : KeptMember) → o ≡ Some m
    → early n m ≡ true)
    → filter (early n) (cons_option o ms) ≡ cons_option o (filter (early n) ms)
keeps_option n None ms hit = refl
keeps_option n (Some m) ms hit = filter_hit (early n) m ms (hit m refl)

drops_option : (n : ℕ) (o : Option KeptMember) (ms : List KeptMember) → ((m : KeptMember) → o ≡ Some m
    → early n m ≡ false)
    → filter (early n) (cons_option o ms) ≡ filter (early n) ms
drops_option n None ms miss = refl
drops_option n (Some m) ms miss = filter_miss (early n) m ms (miss m refl)

is_early : (n p : ℕ) (m : KeptMember) → m.position ≡ p → p < n → early n m ≡ true
is_early n p m at less = grind (arith, nat_tests)

is_late : (n p : ℕ) (m : KeptMember) → m.position ≡ p → n ≤ p → early n m ≡ false
is_late n p m at le = grind (arith, nat_tests)

none_early : (n p : ℕ) (all : List PlacedRecord) → n ≤ p
    → filter (early n) (filter_map kept_of (enumerate_from p all)) ≡ []
none_early n p [] le = refl
none_early n p (r ∷ all) le =
    drops_option n (kept_of (p, r)) (filter_map kept_of (enumerate_from (p + 1) all))
    (λ m e. is_late n p m (stored_position p r m e) le)
    ∙ none_early n (p + 1) all (omega arith)

first_members : (j p n : ℕ) (all : List PlacedRecord) → n ≡ p + j
    → filter (early n) (filter_map kept_of (enumerate_from p all))
    ≡ filter_map kept_of (enumerate_from p (take j all))
first_members j p n [] e = ap (λ (l : List PlacedRecord). filter_map kept_of (enumerate_from p l)) (sym (take_nil j))
  where
    take_nil : (k : ℕ) → take {A = PlacedRecord} k [] ≡ []
    take_nil zero = refl
    take_nil (suc k) = refl
first_members zero p n (r ∷ all) e = none_early n p (r ∷ all) (omega arith)
first_members (suc j) p n (r ∷ all) e =
    keeps_option n (kept_of (p, r)) (filter_map kept_of (enumerate_from (p + 1) all))
    (λ m f. is_early n p m (stored_position p r m f) (omega arith))
    ∙ ap (cons_option (kept_of (p, r))) (first_members j (p + 1) n all (omega arith))

-- of rising positions, the early ones are in front
abbrev before_n : ℕ → Entry → Bool
before_n n e = nat_lt e.position n

all_late : (n : ℕ) (es : List Entry) → All (λ e. n ≤ e.position) es → filter (before_n n) es ≡ []
all_late n [] late = refl
all_late n (e ∷ es) late =
    let le : n ≤ e.position = All-head (λ (x : Entry). n ≤ x.position) e es late in
    filter_miss (before_n n) e es (grind (arith, nat_tests))
    ∙ all_late n es (All-tail (λ (x : Entry). n ≤ x.position) e es late)

rising_tail : (e : Entry) (es : List Entry) → AllPairs (λ (a b : Entry). a.position < b.position) (e ∷ es)
    → AllPairs (λ (a b : Entry). a.position < b.position) es
rising_tail e es rising i j d less within = rising (suc i) (suc j) d (omega arith) (omega arith)

all_after : (n : ℕ) (e : Entry) (es : List Entry) → AllPairs (λ (a b : Entry). a.position < b.position) (e ∷ es)
    → n ≤ e.position → All (λ x. n ≤ x.position) es
all_after n e es rising le k d within =
    let less : e.position < (get_or es k d).position = rising 0 (suc k) d (omega arith) (omega arith) in
    omega arith

pub front_is_early : (n : ℕ) (es : List Entry) → AllPairs (λ (a b : Entry). a.position < b.position) es
    → filter (before_n n) es ≡ take (length (filter (before_n n) es)) es
front_is_early n [] rising = refl
front_is_early n (e ∷ es) rising = elim (cases_lt e.position n) [
  | inl less ↦
      let hit : filter (before_n n) (e ∷ es) ≡ e ∷ filter (before_n n) es =
      filter_hit (before_n n) e es (grind (arith, nat_tests)) in
      hit ∙ (ap (λ (l : List Entry). e ∷ l) (front_is_early n es (rising_tail e es rising))
      ∙ sym (ap (λ (l : List Entry). take (length l) (e ∷ es)) hit))
  | inr more ↦
      let late : All (λ (x : Entry). n ≤ x.position) (e ∷ es) =
      All-cons (λ (x : Entry). n ≤ x.position) e es more (all_after n e es rising more) in
      let none : filter (before_n n) (e ∷ es) ≡ [] = all_late n (e ∷ es) late in
      none ∙ sym (ap (λ (l : List Entry). take (length l) (e ∷ es)) none)
]

late_side : (n : ℕ) (es : List Entry) (fs : List TotalAndPlace) → All (λ e. n ≤ e.position) es
    → filter (early n) (side_by_side es fs) ≡ []
late_side n [] fs late = refl
late_side n (e ∷ es) [] late = refl
late_side n (e ∷ es) (f ∷ fs) late =
    let le : n ≤ e.position = All-head (λ (x : Entry). n ≤ x.position) e es late in
    filter_miss (early n) (kept_from e f) (side_by_side es fs) (is_late n e.position (kept_from e f) refl le)
    ∙ late_side n es fs (All-tail (λ (x : Entry). n ≤ x.position) e es late)

early_side : (n : ℕ) (es : List Entry) (fs : List TotalAndPlace) → length fs ≡ length es
    → AllPairs (λ (a b : Entry). a.position < b.position) es
    → side_by_side (filter (before_n n) es) (take (length (filter (before_n n) es)) fs)
    ≡ filter (early n) (side_by_side es fs)
early_side n [] fs same rising = refl
early_side n (e ∷ es) [] same rising = absurd (omega arith)
early_side n (e ∷ es) (f ∷ fs) same rising = elim (cases_lt e.position n) [
  | inl less ↦
      let hit : filter (before_n n) (e ∷ es) ≡ e ∷ filter (before_n n) es =
      filter_hit (before_n n) e es (grind (arith, nat_tests)) in
      ap (λ (l : List Entry). side_by_side l (take (length l) (f ∷ fs))) hit
      ∙ (ap (λ (ms : List KeptMember). kept_from e f
      ∷ ms) (early_side n es fs (omega arith) (rising_tail e es rising))
      ∙ sym (filter_hit (early n) (kept_from e f) (side_by_side es fs) (is_early n e.position
      (kept_from e f) refl less)))
  | inr more ↦
      let late : All (λ (x : Entry). n ≤ x.position) (e ∷ es) =
      All-cons (λ (x : Entry). n ≤ x.position) e es more (all_after n e es rising more) in
      ap (λ (l : List Entry). side_by_side l (take (length l) (f ∷ fs))) (all_late n (e ∷ es) late)
      ∙ sym (late_side n (e ∷ es) (f ∷ fs) late)
]

rising_take : (k : ℕ) (es : List Entry) → AllPairs (λ (a b : Entry). a.position < b.position) es
    → AllPairs (λ (a b : Entry). a.position < b.position) (take k es)
rising_take zero es rising i j d less within = absurd (omega arith)
rising_take (suc k) [] rising i j d less within = absurd (omega arith)
rising_take (suc k) (e ∷ es) rising i zero d less within = absurd (omega arith)
rising_take (suc k) (e ∷ es) rising zero (suc j) d less within =
    let short : length (take k es) ≤ length es = length-take-le' k es in
    let is : get_or (take k es) j d ≡ get_or es j d = same_front k es j d (omega arith) in
    subst (λ (x : Entry). e.position < x.position) (sym is) (rising 0 (suc j) d (omega arith) (omega arith))
  where
    length-take-le' : (n : ℕ) (xs : List Entry) → length (take n xs) ≤ length xs
    length-take-le' zero xs = omega arith
    length-take-le' (suc n) [] = omega arith
    length-take-le' (suc n) (x ∷ xs) = let le : length (take n xs) ≤ length xs = length-take-le' n xs in omega arith

    same_front : (n : ℕ) (xs : List Entry) (m : ℕ) (z : Entry) → m < length (take n xs)
        → get_or (take n xs) m z ≡ get_or xs m z
    same_front zero xs m z h = absurd (omega arith)
    same_front (suc n) [] m z h = absurd (omega arith)
    same_front (suc n) (x ∷ xs) zero z h = refl
    same_front (suc n) (x ∷ xs) (suc m) z h = same_front n xs m z (omega arith)
rising_take (suc k) (e ∷ es) rising (suc i) (suc j) d less within =
    rising_take k es (rising_tail e es rising) i j d (omega arith) (omega arith)

-- what is held of the first records
pub held_front : (n count : ℕ) (es es' : List Entry) (fs fs' : List TotalAndPlace) (len : ℕ) → AreHeld count es fs
    → es' ≡ filter (before_n n) es → len ≡ length es' → fs' ≡ take len fs → AreHeld n es' fs'
held_front n count es es' fs fs' len held to_es is to_fs =
    let cut : List Entry = filter (before_n n) es in
    let few : length cut ≤ length es =
    let c : length cut ≡ count_by (before_n n) es = length-filter (before_n n) es in
    let le : count_by (before_n n) es ≤ length es = count_by-le-length (before_n n) es in omega arith in
    let k : len ≡ length cut = is ∙ ap length to_es in
    let same : length fs ≡ length es = held.same in
    let short : length (take len fs) ≡ len = length-take-le len fs (omega arith) in
    let front : AreHeld n cut (take len fs) = record {
      same = short ∙ k;
      before = All-weaker (λ (x : Entry). before_n n x ≡ true) (λ (x : Entry). x.position < n)
          (λ x hit. grind (arith, nat_tests)) cut (filter_passes (before_n n) es);
      rising = subst (AllPairs (λ (a b : Entry). a.position < b.position)) (sym (front_is_early n es held.rising))
          (rising_take (length cut) es held.rising);
      numbered = All-filter (before_n n) (λ (x : Entry). (x.mark.major ≡ 0) × (2 ≤ x.mark.minor)) es held.numbered;
    } in
    subst (AreHeld n es') (sym to_fs) (subst (λ (xs : List Entry). AreHeld n xs (take len fs)) (sym to_es) front)

pub kept_front : (n count : ℕ) (es es' : List Entry) (fs fs' : List TotalAndPlace) (len : ℕ) (all : List PlacedRecord)
    → AreHeld count es fs → n < count → es' ≡ filter (before_n n) es → len ≡ length es' → fs' ≡ take len fs
    → held_in count es fs ≡ kept_in all → held_in n es' fs' ≡ kept_in (take n all)
kept_front n count es es' fs fs' len all held less to_es is to_fs was =
    let c : count ≡ length all = ap (λ (k : Kept). k.count) was in
    let m : side_by_side es fs ≡ filter_map kept_of (enumerate_from 0 all) = ap (λ (k : Kept). k.members) was in
    let short : n ≡ length (take n all) = sym (length-take-le n all (omega arith)) in
    let z : n ≡ 0 + n = omega arith in
    let mem : side_by_side es' fs' ≡ filter_map kept_of (enumerate_from 0 (take n all)) =
    ap (side_by_side es') (to_fs ∙ ap (λ (k : ℕ). take k fs) is)
    ∙ (ap (λ (l : List Entry). side_by_side l (take (length l) fs)) to_es
    ∙ (early_side n es fs held.same held.rising
    ∙ (ap (filter (early n)) m ∙ first_members n 0 n all z))) in
    λ i. record { count = short i; members = mem i }

-- all records, where no fewer are to be kept
pub kept_whole : (n count : ℕ) (es : List Entry) (fs : List TotalAndPlace) (all : List PlacedRecord) → count ≤ n
    → held_in count es fs ≡ kept_in all → held_in count es fs ≡ kept_in (take n all)
kept_whole n count es fs all le was =
    let c : count ≡ length all = ap (λ (k : Kept). k.count) was in
    was ∙ ap kept_in (sym (take_all n all (omega arith)))

-- ---- the bytes of the keys

pub bytes_of : (es : List Entry) (fs : List TotalAndPlace) → length fs ≡ length es
    → sum_by (λ e. length e.text) es ≡ sum_by (λ m. length m.origin) (side_by_side es fs)
bytes_of [] fs same = refl
bytes_of (e ∷ es) [] same = absurd (omega arith)
bytes_of (e ∷ es) (f ∷ fs) same =
    sum_by-cons (λ (x : Entry). length x.text) e es
    ∙ (ap (λ (k : ℕ). length e.text + k) (bytes_of es fs (omega arith))
    ∙ sym (sum_by-cons (λ (m : KeptMember). length m.origin) (kept_from e f) (side_by_side es fs)))

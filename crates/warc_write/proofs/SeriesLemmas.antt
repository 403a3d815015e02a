-- A series of segments numbered 2 to a last one, which alone states the length of all blocks, has no gap.
use Rattle.std.proofs.Common.{◌≡◌, ℕ, zero, suc, ◌+◌, ◌-◌, ◌<◌, ◌≤◌, true, false, List, ◌∷◌, ◌++◌, length, get_or, map}
use Rattle.std.proofs.Common.{sum_by, Option, Some, None, slice_get, Ok, refl, sym, ap, ◌∙◌, arith, eq-eqb}
use Rattle.std.specs.List.{cons_option, enumerate_from, filter_map, flat_map, range_with_len}
use Rattle.std.proofs.lemmas.List.FromFn.{get_or-map-range_with_len, length-map-range_with_len}
use Rattle.std.proofs.lemmas.List.Sums.{sum_by-cons}
use Rattle.std.proofs.lemmas.Option.{slice_get-get_or}
use Rattle.warc_record.specs.Kinds.{is_continuation}
use Rattle.warc_record.specs.declared.readings.SegmentNumber.TheVariants.{Number}
use Rattle.warc_segment.specs.Gaps.{followers, gap_of, joined, least_absent, unless_gap}
use Rattle.warc_segment.specs.Joined.{ReadRecord, blocks_of, joined_block, piece_read, with_members}
use Rattle.warc_segment.specs.Ordered.{AreOrdered, CountsUp, IsEnd, Rises}
use Rattle.warc_segment.specs.Series.{Member, member_of, numbers_of, series_of}
use Rattle.warc_segment.proofs.OrderedLemmas.{end_found, followers_all, gap_total, none_absent_in, none_after}
use Rattle.warc_segment.proofs.OrderedLemmas.{none_repeated, total_is}

-- ---- lists that are made from numbers

pub each_found : {X Y : Type 0} (h : X → Option Y) (f : ℕ → X) (g : ℕ → Y) (a c : ℕ)
    → ((k : ℕ) → a ≤ k → k < a + c → h (f k) ≡ Some (g k))
    → filter_map h (map f (range_with_len a c)) ≡ map g (range_with_len a c)
each_found h f g a zero each = refl
each_found h f g a (suc c) each =
    rw (each a (omega arith) (omega arith))
    (ap (λ l. g a ∷ l) (each_found h f g (a + 1) c (λ k from below. each k (omega arith) (omega arith))))

pub at_number : {X : Type 0} (f : ℕ → X) (a c i j : ℕ) → i < c → a + i ≡ j
    → slice_get (map f (range_with_len a c)) i ≡ Some (f j)
at_number f a c i j below is =
    slice_get-get_or (map f (range_with_len a c)) i (f j)
    (let long = length-map-range_with_len f a c in omega (arith, below, long))
    ∙ ap Some (get_or-map-range_with_len f a c i j (f j) below is)

-- ---- the members

abbrev pub member : (ℕ → Option ℕ) → (ℕ → ℕ) → ℕ → Member
member total size k = record { position = k; number = k + 1; total = total k; size = size k }

abbrev pub members : (ℕ → Option ℕ) → (ℕ → ℕ) → ℕ → List Member
members total size c = map (member total size) (range_with_len 1 c)

numbers_are : (total : ℕ → Option ℕ) (size : ℕ → ℕ) (a c : ℕ)
    → numbers_of (map (member total size) (range_with_len a c)) ≡ map (λ k. k + 1) (range_with_len a c)
numbers_are total size a zero = refl
numbers_are total size a (suc c) = ap (λ l. (a + 1) ∷ l) (numbers_are total size (a + 1) c)

sizes_are : (total : ℕ → Option ℕ) (size : ℕ → ℕ) (a c : ℕ)
    → sum_by (λ (m : Member). m.size) (map (member total size) (range_with_len a c)) ≡ sum_by size (range_with_len a c)
sizes_are total size a zero = refl
sizes_are total size a (suc c) =
    sum_by-cons (λ (m : Member). m.size) (member total size a) (map (member total size) (range_with_len (a + 1) c))
    ∙ (ap (λ n. size a + n) (sizes_are total size (a + 1) c) ∙ sym (sum_by-cons size a (range_with_len (a + 1) c)))

numbers_len : (total : ℕ → Option ℕ) (size : ℕ → ℕ) (c : ℕ) → length (numbers_of (members total size c)) ≡ c
numbers_len total size c = ap length (numbers_are total size 1 c) ∙ length-map-range_with_len (λ k. k + 1) 1 c

number_at : (total : ℕ → Option ℕ) (size : ℕ → ℕ) (c i : ℕ) → i < c
    → get_or (numbers_of (members total size c)) i 0 ≡ i + 2
number_at total size c i below =
    let next : i + 1 + 1 ≡ i + 2 = omega arith in
    ap (λ l. get_or l i 0) (numbers_are total size 1 c)
    ∙ (get_or-map-range_with_len (λ k. k + 1) 1 c i (i + 1) 0 below (omega arith) ∙ next)

counts_up : (total : ℕ → Option ℕ) (size : ℕ → ℕ) (c : ℕ)
    → CountsUp (numbers_of (members total size c)) (length (numbers_of (members total size c)))
counts_up total size c = record
    { next = λ k less. number_at total size c k (let long = numbers_len total size c in omega (arith, less, long)) }

ordered : (total : ℕ → Option ℕ) (size : ℕ → ℕ) (c : ℕ) → AreOrdered (numbers_of (members total size c))
ordered total size c =
    let long = numbers_len total size c in
    record {
      up = λ i j le within.
          let a = number_at total size c i (omega (arith, le, within, long)) in
          let b = number_at total size c j (omega (arith, within, long)) in
          omega (arith, a, b, le);
      from_two = λ i within. let a = number_at total size c i (omega (arith, within, long)) in omega (arith, a);
    }

rises : (total : ℕ → Option ℕ) (size : ℕ → ℕ) (c : ℕ)
    → Rises (numbers_of (members total size c)) (length (numbers_of (members total size c)))
rises total size c =
    let long = numbers_len total size c in
    record {
      apart = λ k less same.
          let a = number_at total size c k (omega (arith, less, long)) in
          let b = number_at total size c (k + 1) (omega (arith, less, long)) in
          omega (arith, a, b, same);
    }

is_end : (total : ℕ → Option ℕ) (size : ℕ → ℕ) (c whole : ℕ) → total (c + 1) ≡ Some whole
    → ((k : ℕ) → k < c + 1 → total k ≡ None)
    → IsEnd (members total size (suc c)) c whole
is_end total size c whole last before = record {
  it = member total size (c + 1);
  is_present = at_number (member total size) 1 (suc c) c (c + 1) (omega arith) (omega arith);
  states = last;
  first = record {
    none = λ k m less at.
        let here = at_number (member total size) 1 (suc c) k (k + 1) (omega arith) (omega arith) in
        let same : Some (member total size (k + 1)) ≡ Some m = sym here ∙ at in
        let is : member total size (k + 1) ≡ m = cc in
        sym (ap (λ (x : Member). x.total) is) ∙ before (k + 1) (omega arith);
  };
}

-- ---- no gap, and all of them follow

pub no_gap : (total : ℕ → Option ℕ) (size : ℕ → ℕ) (c own whole : ℕ) → total (c + 1) ≡ Some whole
    → ((k : ℕ) → k < c + 1 → total k ≡ None)
    → whole ≡ own + sum_by size (range_with_len 1 (suc c)) → gap_of own (members total size (suc c)) ≡ None
no_gap total size c own whole last before sum_is =
    let ms = members total size (suc c) in
    let long : length (numbers_of ms) ≡ suc c = numbers_len total size (suc c) in
    let up = ordered total size (suc c) in
    let counts = counts_up total size (suc c) in
    let end = is_end total size c whole last before in
    let place : length (numbers_of ms) - 1 ≡ c = omega (arith, long) in
    let ends : c + 1 ≡ length (numbers_of ms) = omega (arith, long) in
    let sizes : whole ≡ own + sum_by (λ (m : Member). m.size) ms = sum_is
    ∙ ap (λ n. own + n) (sym (sizes_are total size 1 (suc c))) in
    gap_total own (get_or (numbers_of ms) c 0) ms true (none_repeated ms up (rises total size (suc c)))
    (end_found ms c whole up end)
    (none_after ms c up ends)
    (ap (λ k. least_absent (get_or (numbers_of ms) k 0) ms) (sym place)
    ∙ none_absent_in ms up counts (omega (arith, long)))
    (total_is own ms c whole counts end ends ∙ eq-eqb whole (own + sum_by (λ (m : Member). m.size) ms) sizes)

pub all_follow : (total : ℕ → Option ℕ) (size : ℕ → ℕ) (c whole : ℕ) → total (c + 1) ≡ Some whole
    → ((k : ℕ) → k < c + 1 → total k ≡ None)
    → followers (members total size (suc c)) ≡ members total size (suc c)
all_follow total size c whole last before =
    let ms = members total size (suc c) in
    let long : length (numbers_of ms) ≡ suc c = numbers_len total size (suc c) in
    followers_all ms c (end_found ms c whole (ordered total size (suc c)) (is_end total size c whole last before))
    (counts_up total size (suc c)) (omega (arith, long))

-- ---- what is joined

pub enumerated : {X Y : Type 0} (p : X → Y) (q : ℕ → X) (a c : ℕ)
    → enumerate_from a (map p (map q (range_with_len a c))) ≡ map (λ k. (k, p (q k))) (range_with_len a c)
enumerated p q a zero = refl
enumerated p q a (suc c) = ap (λ l. (a, p (q a)) ∷ l) (enumerated p q (a + 1) c)

abbrev pub size_in : (ℕ → ReadRecord) → ℕ → ℕ
size_in q k = length (q k).block

first_is_none : (id : List ℕ) (r : ReadRecord) → is_continuation r.head.kind ≡ false
    → member_of (Some id) (0, piece_read r) ≡ None
first_is_none id r kind = rw kind refl

series_is : (q : ℕ → ReadRecord) (id : List ℕ) (mem : ℕ → Member) (c : ℕ) → is_continuation (q 0).head.kind ≡ false
    → ((k : ℕ) → 1 ≤ k → k < 1 + suc c → member_of (Some id) (k, piece_read (q k)) ≡ Some (mem k))
    → series_of (Some id) (map piece_read (map q (range_with_len 0 (suc (suc c))))) ≡ map mem (range_with_len 1 (suc c))
series_is q id mem c kind each =
    let rest = map (λ k. (k, piece_read (q k))) (range_with_len 1 (suc c)) in
    ap (filter_map (member_of (Some id))) (enumerated piece_read q 0 (suc (suc c)))
    ∙ (ap (λ o. cons_option o (filter_map (member_of (Some id)) rest)) (first_is_none id (q 0) kind)
    ∙ each_found (member_of (Some id)) (λ k. (k, piece_read (q k))) mem 1 (suc c) each)

series_joined : (size : ℕ) (ms : List Member) → gap_of size ms ≡ None → followers ms ≡ ms
    → joined (Number 1) size ms ≡ Ok ms
series_joined size ms none all = ap (λ o. unless_gap o ms) none ∙ ap Ok all

pub joined_is : (q : ℕ → ReadRecord) (id : List ℕ) (total : ℕ → Option ℕ) (c whole : ℕ)
    → (q 0).head.segment.number ≡ Number 1 → (q 0).head.id ≡ Some id → is_continuation (q 0).head.kind ≡ false
    → ((k : ℕ) → 1 ≤ k → k < 1 + suc c → member_of (Some id) (k, piece_read (q k)) ≡ Some (member total (size_in q) k))
    → total (c + 1) ≡ Some whole → ((k : ℕ) → k < c + 1 → total k ≡ None)
    → whole ≡ length (q 0).block + sum_by (size_in q) (range_with_len 1 (suc c))
    → joined_block (map q (range_with_len 0 (suc (suc c)))) (q 0)
    ≡ Ok (flat_map (λ k. (q k).block) (range_with_len 0 (suc (suc c))))
joined_is q id total c whole number own kind each last before sum_is =
    let all = map q (range_with_len 0 (suc (suc c))) in
    let ms = members total (size_in q) (suc c) in
    let size = length (q 0).block in
    let series : series_of (q 0).head.id (map piece_read all) ≡ ms =
    ap (λ o. series_of o (map piece_read all)) own ∙ series_is q id (member total (size_in q)) c kind each in
    let answer : joined (q 0).head.segment.number size (series_of (q 0).head.id (map piece_read all)) ≡ Ok ms =
    ap (λ o. joined o size (series_of (q 0).head.id (map piece_read all))) number
    ∙ (ap (joined (Number 1) size) series
    ∙ series_joined size ms (no_gap total (size_in q) c size whole last before sum_is)
    (all_follow total (size_in q) c whole last before)) in
    let records : filter_map (λ (m : Member). slice_get all m.position) ms ≡ map q (range_with_len 1 (suc c)) =
    each_found (λ (m : Member). slice_get all m.position) (member total (size_in q)) q 1 (suc c)
    (λ k from below. at_number q 0 (suc (suc c)) k k (omega (arith, below)) (omega arith)) in
    ap (λ o. blocks_of (with_members all (q 0) o)) answer
    ∙ ap (λ l. Ok (flat_map (λ (r : ReadRecord). r.block) (q 0 ∷ l))) records
    ∙ ap Ok (blocks_mapped q 0 (suc (suc c)))
  where
    blocks_mapped : (q : ℕ → ReadRecord) (a c : ℕ)
        → flat_map (λ (r : ReadRecord). r.block) (map q (range_with_len a c))
        ≡ flat_map (λ k. (q k).block) (range_with_len a c)
    blocks_mapped q a zero = refl
    blocks_mapped q a (suc c) = ap (λ l. (q a).block ++ l) (blocks_mapped q (a + 1) c)

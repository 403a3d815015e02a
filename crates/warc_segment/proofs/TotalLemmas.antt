-- How long a joined block is: as its record's own, or as the total that a segment states.
use Rattle.std.proofs.Common.{◌≡◌, ◌⊎◌, inl, inr, ℕ, suc, ◌+◌, ◌-◌, Bool, true, false, ◌&&◌, ◌==◌, List, [], ◌∷◌, ◌++◌, length, length-append, map, Option, Some, None, Result, Ok, Err, slice_get, option_and_then, option_map, refl, sym, ◌∙◌, ap, subst, arith, if◌then◌else◌, find, sum_by, nat_le, nat_eq}
use Rattle.std.specs.List.{filter_map, flat_map, cons_option, enumerate_from, range_with_len}
use Rattle.std.specs.Option.{option_map_or, option_or, option_eq}
use Rattle.std.proofs.lemmas.Bool.{eqb-true}
use Rattle.std.proofs.lemmas.List.Sums.{sum_by-cons}
use Rattle.warc_record.specs.declared.readings.SegmentNumber.{SegmentNumber}
use Rattle.warc_record.specs.declared.readings.SegmentNumber.TheVariants as numbers
use Rattle.warc_record.specs.Kinds.{is_continuation}
use Rattle.warc_record.specs.Texts.{is_same_text}
use Rattle.warc_segment.specs.declared.gap.Gap.{Gap}
use Rattle.warc_segment.specs.declared.gap.Gap.TheVariants.{Repeated, AfterEnd, Total, Number}
use Rattle.warc_segment.specs.Series.{Member, numbered, member_of, series_of, member_numbered, in_order}
use Rattle.warc_segment.specs.Gaps.{least_repeated, end_of, least_after, least_absent, has_total, absent_or_total, gap_to, gap_of, followers, unless_gap, joined}
use Rattle.warc_segment.specs.Joined.{ReadRecord, piece_read, with_members, JoinedHasTotal}

-- ---- members and records

-- at a member's position is a record with its total and its length
record IsMemberOf (all : List ReadRecord) (m : Member) : Type 0 where
  it : ReadRecord
  is_present : slice_get all m.position ≡ Some it
  total : m.total ≡ it.head.segment.total
  size : m.size ≡ length it.block

abbrev AllMembersOf : List ReadRecord → List Member → Type 0
AllMembersOf all [] = Unit {0}
AllMembersOf all (m ∷ ms) = IsMemberOf all m × AllMembersOf all ms

-- what is found is one of them
found_member : (all : List ReadRecord) (test : Member → Bool) (members : List Member) (m : Member)
    → AllMembersOf all members → find test members ≡ Some m → IsMemberOf all m
found_member all test [] m are e = absurd (cc)
found_member all test (x ∷ members) m are e =
    by_test (λ f. found_member all test members m are.1 f) (test x) e
  where
    by_test : (find test members ≡ Some m → IsMemberOf all m) → (b : Bool)
        → (if b then Some x else find test members) ≡ Some m → IsMemberOf all m
    by_test later true f = let same : x ≡ m = (cc) in subst (IsMemberOf all) same are.0
    by_test later false f = later f

option_members : (all : List ReadRecord) (o : Option Member) (ms : List Member) → ((m : Member) → o ≡ Some m → IsMemberOf all m)
    → AllMembersOf all ms → AllMembersOf all (cons_option o ms)
option_members all None ms one rest = rest
option_members all (Some m) ms one rest = (one m refl, rest)

mapped_members : {X : Type 0} (all : List ReadRecord) (f : X → Option Member) (xs : List X)
    → ((x : X) (m : Member) → f x ≡ Some m → IsMemberOf all m) → AllMembersOf all (filter_map f xs)
mapped_members all f [] one = tt
mapped_members all f (x ∷ xs) one = option_members all (f x) (filter_map f xs) (one x) (mapped_members all f xs one)

by_number : (all : List ReadRecord) (r : ReadRecord) (p : ℕ) (m : Member) (number : SegmentNumber)
    → slice_get all p ≡ Some r → numbered p (piece_read r) number ≡ Some m → IsMemberOf all m
by_number all r p m numbers.Absent at e = absurd (cc)
by_number all r p m numbers.Bad at e = absurd (cc)
by_number all r p m (numbers.Number k) at e = by_test (nat_le 2 k) e
  where
    it_is : Member
    it_is = record { position = p; number = k; total = r.head.segment.total; size = length r.block }

    by_test : (b : Bool) → (if b then Some it_is else None) ≡ Some m → IsMemberOf all m
    by_test false f = absurd (cc)
    by_test true f =
        let same : it_is ≡ m = (cc) in
        let is : IsMemberOf all it_is = record { it = r; is_present = at; total = refl; size = refl } in
        subst (IsMemberOf all) same is

member_is : (all : List ReadRecord) (id : Option (List ℕ)) (r : ReadRecord) (p : ℕ) (m : Member)
    → slice_get all p ≡ Some r → member_of id (p, piece_read r) ≡ Some m → IsMemberOf all m
member_is all id r p m at e =
    by_test (is_continuation r.head.kind && is_same_text id r.head.segment.origin) e
  where
    by_test : (b : Bool) → (if b then numbered p (piece_read r) r.head.segment.number else None) ≡ Some m
        → IsMemberOf all m
    by_test false f = absurd (cc)
    by_test true f = by_number all r p m r.head.segment.number at f

members_from : (all : List ReadRecord) (id : Option (List ℕ)) (rest : List ReadRecord) (n : ℕ)
    → ((k : ℕ) → slice_get all (n + k) ≡ slice_get rest k)
    → AllMembersOf all (filter_map (member_of id) (enumerate_from n (map piece_read rest)))
members_from all id [] n at = tt
members_from all id (r ∷ rest) n at =
    let z : n + 0 ≡ n = omega arith in
    let here : slice_get all n ≡ Some r = ap (slice_get all) (sym z) ∙ at 0 in
    option_members all (member_of id (n, piece_read r))
    (filter_map (member_of id) (enumerate_from (n + 1) (map piece_read rest)))
    (λ m e. member_is all id r n m here e)
    (members_from all id rest (n + 1)
    (λ k. let s : n + 1 + k ≡ n + suc k = omega arith in ap (slice_get all) s ∙ at (suc k)))

series_members : (all : List ReadRecord) (id : Option (List ℕ)) → AllMembersOf all (series_of id (map piece_read all))
series_members all id = members_from all id all 0 (λ k. let z : 0 + k ≡ k = omega arith in ap (slice_get all) z)

-- ---- lengths

abbrev text_of : List ReadRecord → List ℕ
text_of records = flat_map (λ (q : ReadRecord). q.block) records

abbrev records_at : List ReadRecord → List Member → List ReadRecord
records_at all ms = filter_map (λ (m : Member). slice_get all m.position) ms

members_len : (all : List ReadRecord) (ms : List Member) → AllMembersOf all ms
    → length (text_of (records_at all ms)) ≡ sum_by (λ (m : Member). m.size) ms
members_len all [] are = refl
members_len all (m ∷ ms) are =
    let it = are.0.it in
    let whole : length (text_of (records_at all (m ∷ ms))) ≡ length (it.block ++ text_of (records_at all ms)) =
    ap (λ (o : Option ReadRecord). length (text_of (cons_option o (records_at all ms)))) are.0.is_present in
    let both : length (it.block ++ text_of (records_at all ms)) ≡ length it.block + length (text_of (records_at all ms)) =
    length-append it.block (text_of (records_at all ms)) in
    let rest : length (text_of (records_at all ms)) ≡ sum_by (λ (k : Member). k.size) ms = members_len all ms are.1 in
    let sum : sum_by (λ (k : Member). k.size) (m ∷ ms) ≡ m.size + sum_by (λ (k : Member). k.size) ms =
    sum_by-cons (λ (k : Member). k.size) m ms in
    let size : m.size ≡ length it.block = are.0.size in
    omega arith

-- ---- a series without a gap

no_end_gap : (size n : ℕ) (ms : List Member) (after absent : Option ℕ)
    → option_or (option_map AfterEnd after) (absent_or_total absent n size ms) ≡ None → has_total n size ms ≡ true
no_end_gap size n ms (Some k) absent e = absurd (cc)
no_end_gap size n ms None (Some k) e = absurd (cc)
no_end_gap size n ms None None e = by_test (has_total n size ms) e
  where
    by_test : (b : Bool) → (if b then None else Some Total) ≡ None → b ≡ true
    by_test true f = refl
    by_test false f = absurd (cc)

ends_with_total : (size : ℕ) (ms : List Member) → gap_of size ms ≡ None
    → (n : ℕ) × (end_of ms ≡ Some n) × (has_total n size ms ≡ true)
ends_with_total size ms e = by_repeated (least_repeated ms) e
  where
    by_end : (o : Option ℕ) → end_of ms ≡ o → gap_to o size ms ≡ None
        → (n : ℕ) × (end_of ms ≡ Some n) × (has_total n size ms ≡ true)
    by_end None is f = absurd (cc)
    by_end (Some n) is f = (n, is, no_end_gap size n ms (least_after n ms) (least_absent n ms) f)

    by_repeated : (o : Option ℕ) → option_or (option_map Repeated o) (gap_to (end_of ms) size ms) ≡ None
        → (n : ℕ) × (end_of ms ≡ Some n) × (has_total n size ms ≡ true)
    by_repeated (Some k) f = absurd (cc)
    by_repeated None f = by_end (end_of ms) refl f

total_stated : (all : List ReadRecord) (ms : List Member) (n x : ℕ) → AllMembersOf all ms
    → option_eq nat_eq (option_and_then (λ (m : Member). m.total) (member_numbered ms n)) (Some x) ≡ true
    → (k : ℕ) × (last : ReadRecord) × (slice_get all k ≡ Some last) × (last.head.segment.total ≡ Some x)
total_stated all ms n x are e = by_found (member_numbered ms n) refl e
  where
    by_total : (m : Member) → IsMemberOf all m → (t : Option ℕ) → m.total ≡ t → option_eq nat_eq t (Some x) ≡ true
        → (k : ℕ) × (last : ReadRecord) × (slice_get all k ≡ Some last) × (last.head.segment.total ≡ Some x)
    by_total m is None to f = absurd (cc)
    by_total m is (Some t) to f = (m.position, is.it, is.is_present, sym is.total ∙ (to ∙ ap Some (eqb-true t x f)))

    by_found : (o : Option Member) → member_numbered ms n ≡ o
        → option_eq nat_eq (option_and_then (λ (m : Member). m.total) o) (Some x) ≡ true
        → (k : ℕ) × (last : ReadRecord) × (slice_get all k ≡ Some last) × (last.head.segment.total ≡ Some x)
    by_found None is f = absurd (cc)
    by_found (Some m) is f = by_total m (found_member all _ ms m are is) m.total refl f

-- ---- the law

abbrev HasTotal : List ReadRecord → ReadRecord → List ReadRecord → Type 0
HasTotal all r found =
    (found ≡ r ∷ []) ⊎ ((k : ℕ) × (last : ReadRecord) × (slice_get all k ≡ Some last)
    × (last.head.segment.total ≡ Some (length (text_of found))))

ok_same : (a b : List ReadRecord) → (let x : Result (List ReadRecord) Gap = Ok a in x) ≡ Ok b → a ≡ b
ok_same a b e = cc

series_total : (all : List ReadRecord) (r : ReadRecord) (ms : List Member) → AllMembersOf all ms
    → gap_of (length r.block) ms ≡ None → HasTotal all r (r ∷ records_at all (followers ms))
series_total all r ms are e =
    let end = ends_with_total (length r.block) ms e in
    let n = end.0 in
    let order : followers ms ≡ in_order n ms = ap (λ (o : Option ℕ). option_map_or (λ k. in_order k ms) o []) end.1 in
    let in_are : AllMembersOf all (in_order n ms) =
    mapped_members all (member_numbered ms) (range_with_len 2 (n - 1)) (λ k m f. found_member all _ ms m are f) in
    let len : length (text_of (r ∷ records_at all (in_order n ms)))
    ≡ length r.block + sum_by (λ (m : Member). m.size) (in_order n ms) =
    length-append r.block (text_of (records_at all (in_order n ms)))
    ∙ ap (λ k. length r.block + k) (members_len all (in_order n ms) in_are) in
    let stated = total_stated all ms n (length r.block + sum_by (λ (m : Member). m.size) (in_order n ms)) are end.2 in
    let same : r ∷ records_at all (in_order n ms) ≡ r ∷ records_at all (followers ms) =
    ap (λ (l : List Member). r ∷ records_at all l) (sym order) in
    let it : HasTotal all r (r ∷ records_at all (in_order n ms)) =
    inr (stated.0, stated.1, stated.2, stated.3 ∙ ap Some (sym len)) in
    subst (HasTotal all r) same it

pub joined_has_total : JoinedHasTotal
joined_has_total all r found e = by_number_of r.head.segment.number e
  where
    ms : List Member
    ms = series_of r.head.id (map piece_read all)

    by_gap : (o : Option Gap) → gap_of (length r.block) ms ≡ o → with_members all r (unless_gap o ms) ≡ Ok found
        → HasTotal all r found
    by_gap (Some gap) is f = absurd (cc)
    by_gap None is f =
        subst (HasTotal all r) (ok_same _ found f) (series_total all r ms (series_members all r.head.id) is)

    by_one : (b : Bool)
        → with_members all r (if b then unless_gap (gap_of (length r.block) ms) ms else Err Number) ≡ Ok found
        → HasTotal all r found
    by_one false f = absurd (cc)
    by_one true f = by_gap (gap_of (length r.block) ms) refl f

    by_number_of : (number : SegmentNumber) → with_members all r (joined number (length r.block) ms) ≡ Ok found
        → HasTotal all r found
    by_number_of numbers.Absent f = inl (sym (ok_same (r ∷ []) found f))
    by_number_of numbers.Bad f = absurd (cc)
    by_number_of (numbers.Number k) f = by_one (k == 1) f

-- What is joined, from the series that the code walked.
use Rattle.std.proofs.Common.{◌≡◌, inl, inr, ℕ, suc, ◌<◌, ◌≤◌, Bool, true, false, List, [], ◌∷◌, length, get_or, map, Option, Some, None, Result, Ok, Err, slice_get, refl, sym, ◌∙◌, ap, subst, arith}
use Rattle.std.specs.Prelude.{All, AllPairs, Contains, filter}
use Rattle.std.specs.List.{filter_map, cons_option}
use Rattle.std.specs.Str.{bytes_eq}
use Rattle.std.proofs.lemmas.Bool.{cases_Bool, cases_lt}
use Rattle.std.proofs.lemmas.List.Elements.{All-contains, All-head, All-tail}
use Rattle.std.proofs.lemmas.Option.{slice_get-get_or, slice_get_within, get_or_from_slice_get}
use Rattle.std.proofs.lemmas.Slice.Eq.{bytes_eq-Decides}
use Rattle.warc_value.specs.declared.hash.Wanted.TheVariants.{Unchecked}
use Rattle.warc_record.specs.declared.readings.SegmentNumber.{SegmentNumber}
use Rattle.warc_record.specs.declared.readings.SegmentNumber.TheVariants.{Number}
use Rattle.warc_order.specs.Entries.{Entry, entry_at, no_entry}
use Rattle.std.specs.declared.vec.Vec.{Vec}
use Rattle.warc_segment.specs.declared.fault.JoinFault.{JoinFault}
use Rattle.warc_segment.specs.declared.fault.JoinFault.TheVariants.{Gap as IsGap, Memory}
use Rattle.warc_segment.specs.Joining.{IsJoin}
use Rattle.warc_segment.specs.declared.gap.Gap.{Gap}
use Rattle.warc_segment.specs.declared.place.Place.{Place}
use Rattle.warc_segment.specs.declared.held.TotalAndPlace.{TotalAndPlace}
use Rattle.warc_segment.specs.declared.series.Continuation.{Continuation}
use Rattle.warc_segment.specs.Series.{Member, series_of}
use Rattle.warc_segment.specs.Gaps.{gap_of, followers, unless_gap, joined}
use Rattle.warc_segment.specs.Joined.{PlacedRecord, with_members, joined_places, piece_placed}
use Rattle.warc_segment.specs.Ordered.{member_at, members_of, numbers_in, AreOrdered}
use Rattle.warc_segment.specs.Kept.{KeptMember, Kept, kept_in}
use Rattle.warc_segment.specs.Held.{kept_from, side_by_side, AreHeld, held_in, continuation_of, ComesBefore, IsKeptAs, IsWholeSeries, IsSeries}
use Rattle.warc_segment.proofs.LeastLemmas.{IsReadSoFar, is_present_filter, filter_is_present, is_present_map, map_is_present, filter_hit, filter_miss}
use Rattle.warc_segment.proofs.ContinuationLemmas.{length_in, number_in}
use Rattle.warc_segment.proofs.SameLemmas.{Distinct, AreSame, same_from_distinct, joined_same, contains_is_present, is_present_contains}
use Rattle.warc_segment.proofs.KeptLemmas.{member_kept, is_of, series_is_kept, place_of_kept}
use Rattle.warc_segment.proofs.HeldLemmas.{side_at}
use Rattle.warc_segment.proofs.StepLemmas.{entry_of}

pub blank : Continuation
blank = record {
  position = 0;
  number = 0;
  total = None;
  place = record { start = 0; len = 0; wanted = Unchecked; truncated = false };
}

-- ---- the numbers of a series

pub no_facts : TotalAndPlace
no_facts = record { total = None; place = record { start = 0; len = 0; wanted = Unchecked; truncated = false } }

from_two : (p : ℕ) (es : List Entry) (fs : List TotalAndPlace) → AreHeld p es fs → (m : KeptMember)
    → Contains (side_by_side es fs) m → 2 ≤ m.number
from_two p es fs held m at =
    let first : slice_get (side_by_side es fs) at.0 ≡ Some m =
    slice_get-get_or (side_by_side es fs) at.0 m at.1 ∙ ap Some at.2 in
    let within : at.0 < length es = (entry_of es fs at.0 m held.same first).0 in
    let there = side_at es fs at.0 no_entry no_facts held.same within in
    let z : Some (kept_from (entry_at es at.0) (get_or fs at.0 no_facts)) ≡ Some m = sym there ∙ first in
    let is : kept_from (entry_at es at.0) (get_or fs at.0 no_facts) ≡ m = cc in
    let number : (entry_at es at.0).mark.minor ≡ m.number = ap (λ (x : KeptMember). x.number) is in
    let two : 2 ≤ (entry_at es at.0).mark.minor = (held.numbered at.0 no_entry within).1 in
    omega arith

pub ordered_series : (p : ℕ) (id : List ℕ) (es : List Entry) (fs : List TotalAndPlace) (series : List Continuation)
    → AreHeld p es fs → IsWholeSeries id (side_by_side es fs) series → AreOrdered (numbers_in series)
ordered_series p id es fs series held whole =
    let len : length (numbers_in series) ≡ length series = length_in series in
    record {
      up = λ i j le within. elim (cases_lt i j) [
        | inl less ↦
            let before : ComesBefore (get_or series i blank) (get_or series j blank) =
            whole.some.ordered i j blank less (omega arith) in
            let n : (get_or series i blank).number ≤ (get_or series j blank).number = before.number in
            let a : get_or (numbers_in series) i 0 ≡ (get_or series i blank).number =
            number_in series i blank (omega arith) in
            let b : get_or (numbers_in series) j 0 ≡ (get_or series j blank).number =
            number_in series j blank (omega arith) in
            omega arith
        | inr more ↦
            let e : i ≡ j = omega arith in
            let n : get_or (numbers_in series) i 0 ≡ get_or (numbers_in series) j 0 =
            ap (λ (k : ℕ). get_or (numbers_in series) k 0) e in
            omega arith
      ];
      from_two = λ i within.
          let short : i < length series = omega arith in
          let kept : IsKeptAs id (side_by_side es fs) (get_or series i blank) = whole.some.kept i blank short in
          let two : 2 ≤ kept.it.number = from_two p es fs held kept.it kept.is_present in
          let n : (get_or series i blank).number ≡ kept.it.number = ap (λ (x : Continuation). x.number) kept.is in
          let a : get_or (numbers_in series) i 0 ≡ (get_or series i blank).number = number_in series i blank short in
          omega arith;
    }

-- ---- the series as the definition has it

distinct_kept : (p : KeptMember → Bool) (es : List Entry) (fs : List TotalAndPlace) → length fs ≡ length es
    → AllPairs (λ (a b : Entry). a.position < b.position) es
    → Distinct (map member_kept (filter p (side_by_side es fs)))
distinct_kept p [] fs same rising = tt
distinct_kept p (e ∷ es) [] same rising = absurd (omega arith)
distinct_kept p (e ∷ es) (f ∷ fs) same rising =
    let rest : Distinct (map member_kept (filter p (side_by_side es fs))) =
    distinct_kept p es fs (omega arith) (λ i j d less within. rising (suc i) (suc j) d (omega arith)
    (omega arith)) in
    elim (cases_Bool (p (kept_from e f))) [
      | inr miss ↦
          subst (λ (ms : List KeptMember). Distinct (map member_kept ms))
          (sym (filter_miss p (kept_from e f) (side_by_side es fs) miss)) rest
      | inl hit ↦
          subst (λ (ms : List KeptMember). Distinct (map member_kept ms))
          (sym (filter_hit p (kept_from e f) (side_by_side es fs) hit)) (
            (λ at.
                let from = is_present_map member_kept (filter p (side_by_side es fs)) (member_kept (kept_from e f)) at in
                let there = (is_present_filter p (side_by_side es fs) from.0 from.1).0 in
                let n : length fs ≡ length es = omega arith in
                let entry = entry_of es fs there.0 from.0 n there.1 in
                let within : there.0 < length es = entry.0 in
                let less : e.position < (get_or es there.0 no_entry).position =
                rising 0 (suc there.0) no_entry (omega arith) (omega arith) in
                let is : from.0.position ≡ e.position = ap (λ (m : Member). m.position) from.2 in
                absurd (omega (arith, entry.1))),
            rest,
          )
    ]

distinct_members : (series : List Continuation) → AllPairs ComesBefore series → Distinct (members_of series)
distinct_members [] ordered = tt
distinct_members (c ∷ series) ordered = (
  (λ at.
      let from = is_present_map member_at series (member_at c) at in
      let d : Continuation = from.0 in
      let within : from.1.0 < length series = slice_get_within series from.1.0 d from.1.1 in
      let is : get_or series from.1.0 c ≡ d = get_or_from_slice_get series from.1.0 d c from.1.1 in
      let before : ComesBefore c d =
      subst (ComesBefore c) is (ordered 0 (suc from.1.0) c (omega arith) (omega arith)) in
      let number : d.number ≡ c.number = ap (λ (m : Member). m.number) from.2 in
      let position : d.position ≡ c.position = ap (λ (m : Member). m.position) from.2 in
      let less : c.position < d.position = before.position (sym number) in
      absurd (omega arith)),
  distinct_members series (λ i j d less within. ordered (suc i) (suc j) d (omega arith) (omega arith)),
)

pub of_id : (id origin : List ℕ) → bytes_eq id origin ≡ true → origin ≡ id
of_id id origin hit = sym ((bytes_eq-Decides id origin).0 hit)

pub id_of : (id origin : List ℕ) → origin ≡ id → bytes_eq id origin ≡ true
id_of id origin is = (bytes_eq-Decides id origin).1 (sym is)

pub same_members : (p : ℕ) (id : List ℕ) (es : List Entry) (fs : List TotalAndPlace) (series : List Continuation)
    → AreHeld p es fs
    → IsWholeSeries id (side_by_side es fs) series
    → AreSame (map member_kept (filter (is_of id) (side_by_side es fs))) (members_of series)
same_members p id es fs series held whole =
    let members : List KeptMember = side_by_side es fs in
    same_from_distinct (map member_kept (filter (is_of id) members)) (members_of series)
    (distinct_kept (is_of id) es fs held.same held.rising) (distinct_members series whole.some.ordered)
    (λ m at.
    let from = is_present_map member_kept (filter (is_of id) members) m at in
    let is = is_present_filter (is_of id) members from.0 from.1 in
    let there : Contains series (continuation_of from.0) =
    whole.all from.0 (is_present_contains members from.0 is.0) (of_id id from.0.origin is.1) in
    subst (IsReadSoFar (members_of series)) from.2
    (map_is_present member_at series (continuation_of from.0)
    (contains_is_present series (continuation_of from.0) there)))
    (λ m at.
    let from = is_present_map member_at series m at in
    let kept : IsKeptAs id members from.0 =
    All-contains (IsKeptAs id members) series from.0 whole.some.kept
    (is_present_contains series from.0 from.1) in
    let there : IsReadSoFar (filter (is_of id) members) kept.it =
    filter_is_present (is_of id) members kept.it (contains_is_present members kept.it kept.is_present)
    (id_of id kept.it.origin kept.origin) in
    subst (IsReadSoFar (map member_kept (filter (is_of id) members))) (ap member_at (sym kept.is) ∙ from.2)
    (map_is_present member_kept (filter (is_of id) members) kept.it there))

-- ---- its places

places_found : (id : List ℕ) (all : List PlacedRecord) (series : List Continuation)
    → All (IsKeptAs id (kept_in all).members) series
    → filter_map (λ (m : Member). slice_get (map (λ q. q.place) all) m.position) (members_of series)
    ≡ map (λ c. c.place) series
places_found id all [] kept = refl
places_found id all (c ∷ series) kept =
    let members : List KeptMember = (kept_in all).members in
    let is : IsKeptAs id members c = All-head (IsKeptAs id members) c series kept in
    let at : slice_get (map (λ (q : PlacedRecord). q.place) all) is.it.position ≡ Some is.it.place =
    place_of_kept all is.it (contains_is_present members is.it is.is_present) in
    let here : slice_get (map (λ (q : PlacedRecord). q.place) all) c.position ≡ Some c.place =
    ap (λ (x : Continuation). slice_get (map (λ (q : PlacedRecord). q.place) all) x.position) is.is
    ∙ (at ∙ ap (λ (x : Continuation). Some x.place) (sym is.is)) in
    ap (λ (o : Option Place). cons_option o (filter_map (λ (m : Member). slice_get (map
    (λ q. q.place) all) m.position) (members_of series))) here
    ∙ ap (λ (ps : List Place). c.place ∷ ps)
    (places_found id all series (All-tail (IsKeptAs id members) c series kept))

-- ---- the join

joined_by : (p : ℕ) (id : List ℕ) (size : ℕ) (es : List Entry) (fs : List TotalAndPlace) (series : List Continuation)
    (all : List PlacedRecord) → AreHeld p es fs → held_in p es fs ≡ kept_in all
    → IsWholeSeries id (side_by_side es fs) series
    → joined (Number 1) size (series_of (Some id) (map piece_placed all))
    ≡ unless_gap (gap_of size (members_of series)) (members_of series)
joined_by p id size es fs series all held was whole =
    let members : side_by_side es fs ≡ (kept_in all).members = ap (λ (k : Kept). k.members) was in
    ap (λ (ms : List Member). unless_gap (gap_of size ms) ms)
    (series_is_kept id all ∙ ap (λ (ms : List KeptMember). map member_kept (filter (is_of id) ms)) (sym members))
    ∙ joined_same size (map member_kept (filter (is_of id) (side_by_side es fs))) (members_of series)
    (same_members p id es fs series held whole)

pub joined_ok : (p : ℕ) (r : PlacedRecord) (id : List ℕ) (es : List Entry) (fs : List TotalAndPlace)
    (series : List Continuation) (all : List PlacedRecord) → AreHeld p es fs → held_in p es fs ≡ kept_in all
    → r.head.id ≡ Some id → r.head.segment.number ≡ Number 1 → IsWholeSeries id (side_by_side es fs) series
    → gap_of r.place.len (members_of series) ≡ None → followers (members_of series) ≡ members_of series
    → joined_places all r ≡ Ok (r.place ∷ map (λ c. c.place) series)
joined_ok p r id es fs series all held was named one whole none follow =
    let places : List Place = map (λ (q : PlacedRecord). q.place) all in
    let members : side_by_side es fs ≡ (kept_in all).members = ap (λ (k : Kept). k.members) was in
    ap (λ (n : SegmentNumber). with_members places r.place (joined n r.place.len (series_of r.head.id
    (map piece_placed all)))) one
    ∙ (ap (λ (k : Option (List ℕ)). with_members places r.place (joined (Number 1) r.place.len (series_of k
    (map piece_placed all)))) named
    ∙ (ap (with_members places r.place) (joined_by p id r.place.len es fs series all held was whole)
    ∙ (ap (λ (o : Option Gap). with_members places r.place (unless_gap o (members_of series))) none
    ∙ (ap (λ (ms : List Member). with_members places r.place (Ok ms)) follow
    ∙ ap (λ (ps : List Place). Ok (r.place ∷ ps))
    (places_found id all series (subst (λ (ms : List KeptMember). All
    (IsKeptAs id ms) series) members whole.some.kept))))))

pub joined_err : (p : ℕ) (r : PlacedRecord) (id : List ℕ) (es : List Entry) (fs : List TotalAndPlace)
    (series : List Continuation) (all : List PlacedRecord) (gap : Gap) → AreHeld p es fs
    → held_in p es fs ≡ kept_in all
    → r.head.id ≡ Some id → r.head.segment.number ≡ Number 1 → IsWholeSeries id (side_by_side es fs) series
    → gap_of r.place.len (members_of series) ≡ Some gap → joined_places all r ≡ Err gap
joined_err p r id es fs series all gap held was named one whole some =
    let places : List Place = map (λ (q : PlacedRecord). q.place) all in
    ap (λ (n : SegmentNumber). with_members places r.place (joined n r.place.len (series_of r.head.id
    (map piece_placed all)))) one
    ∙ (ap (λ (k : Option (List ℕ)). with_members places r.place (joined (Number 1) r.place.len (series_of k
    (map piece_placed all)))) named
    ∙ (ap (with_members places r.place) (joined_by p id r.place.len es fs series all held was whole)
    ∙ ap (λ (o : Option Gap). with_members places r.place (unless_gap o (members_of series))) some))

-- what is refused, where the series was
pub joined_fault : {A : Type 0} (p : ℕ) (r : PlacedRecord) (id : List ℕ) (es : List Entry) (fs : List TotalAndPlace)
    (all : List PlacedRecord) (o : Result (Vec Place A) JoinFault) (s : Result (Vec Continuation A) JoinFault)
    (fault : JoinFault) → AreHeld p es fs → held_in p es fs ≡ kept_in all → r.head.id ≡ Some id
    → r.head.segment.number ≡ Number 1 → o ≡ Err fault → s ≡ Err fault
    → IsSeries id r.place.len (side_by_side es fs) s → IsJoin o (joined_places all r)
joined_fault {A} p r id es fs all o s fault held was named one is from series =
    subst (λ (q : Result (Vec Place A) JoinFault). IsJoin q (joined_places all r)) (sym is)
    (by_fault fault (subst (IsSeries {A = A} id r.place.len (side_by_side es fs)) from series))
  where
    by_fault : (f : JoinFault) → IsSeries {A = A} id r.place.len (side_by_side es fs) (Err f)
        → IsJoin {A = A} (Err f) (joined_places all r)
    by_fault (IsGap gap) reported = joined_err p r id es fs reported.0 all gap held was named one reported.1 reported.2
    by_fault Memory reported = reported

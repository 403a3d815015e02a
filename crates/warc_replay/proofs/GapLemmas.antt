-- Gaps that are known of series.
use Rattle.std.proofs.Common.{◌≡◌, ◌≢◌, ◌⊎◌, inl, inr, ℕ, Bool, true, false, cond, List, map, Option, Some, None, Err, refl, sym, ◌∙◌, ap, subst}
use Rattle.std.specs.BTreeMap.{BTreeMap, IsUnchanged, Updates, is_at}
use Rattle.std.specs.Cmp.{Equal-is}
use Rattle.std.specs.Map.{lookup}
use Rattle.std.specs.Option.{option_map, option_or}
use Rattle.std.specs.Ordering.{nat_cmp}
use Rattle.std.proofs.lemmas.Map.Lookups.{exact_pairs, exact_unsigned}
use Rattle.warc_record.specs.declared.readings.SegmentNumber.{SegmentNumber}
use Rattle.warc_record.specs.declared.readings.SegmentNumber.TheVariants.{Number}
use Rattle.warc_segment.specs.Gaps.{absent_or_total, end_of, gap_of, gap_to, has_total, joined, least_absent, least_after, least_repeated, unless_gap}
use Rattle.warc_segment.specs.Joined.{PlacedRecord, joined_places, piece_placed, with_members}
use Rattle.warc_segment.specs.Kept.{Kept as Parts, kept_in}
use Rattle.warc_segment.specs.Series.{IsMemberAt, Member, series_of}
use Rattle.warc_segment.specs.declared.gap.Gap.{Gap}
use Rattle.warc_segment.specs.declared.gap.Gap.TheVariants.{Repeated, Unfinished, AfterEnd, Absent, Total, Number as WrongNumber}
use Rattle.warc_rewrite.proofs.MarkLemmas.{same_id}
use Rattle.warc_replay.specs.KnownGaps.{AreKnownGaps, IsRecalled, KeepsGap, compare_keys, known_gap_at}

-- ---- of all gaps, a wrong total alone depends on the length of the first segment

total_or : (right : Bool) (gap : Gap) → cond right None (Some Total) ≡ Some gap → gap ≡ Total
total_or true gap is = absurd (cc)
total_or false gap is = cc

absent_stays : (absent : Option ℕ) (n size other : ℕ) (members : List Member) (gap : Gap) → absent_or_total absent n size members ≡ Some gap → gap ≢ Total
    → absent_or_total absent n other members ≡ Some gap
absent_stays (Some k) n size other members gap is lasts = is
absent_stays None n size other members gap is lasts = absurd (lasts (total_or (has_total n size members) gap is))

after_stays : (after absent : Option ℕ) (n size other : ℕ) (members : List Member) (gap : Gap)
    → option_or (option_map AfterEnd after) (absent_or_total absent n size members) ≡ Some gap → gap ≢ Total
    → option_or (option_map AfterEnd after) (absent_or_total absent n other members) ≡ Some gap
after_stays (Some k) absent n size other members gap is lasts = is
after_stays None absent n size other members gap is lasts = absent_stays absent n size other members gap is lasts

end_stays : (end : Option ℕ) (size other : ℕ) (members : List Member) (gap : Gap) → gap_to end size members ≡ Some gap → gap ≢ Total
    → gap_to end other members ≡ Some gap
end_stays None size other members gap is lasts = is
end_stays (Some n) size other members gap is lasts = after_stays (least_after n members) (least_absent n members) n size other members gap is lasts

gap_stays : (size other : ℕ) (members : List Member) (gap : Gap) → gap_of size members ≡ Some gap → gap ≢ Total → gap_of other members ≡ Some gap
gap_stays size other members gap is lasts = by_first (least_repeated members) is
  where
    by_first : (first : Option ℕ) → option_or (option_map Repeated first) (gap_to (end_of members) size members) ≡ Some gap
        → option_or (option_map Repeated first) (gap_to (end_of members) other members) ≡ Some gap
    by_first (Some k) from = from
    by_first None from = end_stays (end_of members) size other members gap from lasts

gap_after : (size other : ℕ) (members : List Member) (gap : Gap) → gap_of size members ≡ Some gap → (gap ≡ Total → size ≡ other) → gap_of other members ≡ Some gap
gap_after size other members Total is holds = subst (λ (n : ℕ). gap_of n members ≡ Some Total) (holds refl) is
gap_after size other members (Repeated k) is holds = gap_stays size other members (Repeated k) is (λ e. cc)
gap_after size other members Unfinished is holds = gap_stays size other members Unfinished is (λ e. cc)
gap_after size other members (AfterEnd k) is holds = gap_stays size other members (AfterEnd k) is (λ e. cc)
gap_after size other members (Absent k) is holds = gap_stays size other members (Absent k) is (λ e. cc)
gap_after size other members WrongNumber is holds = gap_stays size other members WrongNumber is (λ e. cc)

-- ---- the gap of a series is that of what is joined to a first segment

pub first_joined : (number : SegmentNumber) (size : ℕ) (members : List Member) → number ≡ Number 1 → joined number size members ≡ unless_gap (gap_of size members) members
first_joined number size members one = subst (λ (n : SegmentNumber). joined n size members ≡ unless_gap (gap_of size members) members) (sym one) refl

gap_joined : (all : List PlacedRecord) (r : PlacedRecord) (gap : Gap) → r.head.segment.number ≡ Number 1 → gap_of r.place.len (series_of r.head.id (map piece_placed all)) ≡ Some gap
    → joined_places all r ≡ Err gap
gap_joined all r gap one is =
    ap (with_members (map (λ (q : PlacedRecord). q.place) all) r.place)
    (first_joined r.head.segment.number r.place.len (series_of r.head.id (map piece_placed all)) one ∙ ap (λ (o : Option Gap). unless_gap o (series_of r.head.id (map piece_placed all))) is)

pub gap_found : (all : List PlacedRecord) (r : PlacedRecord) (gap : Gap) → r.head.segment.number ≡ Number 1 → joined_places all r ≡ Err gap
    → gap_of r.place.len (series_of r.head.id (map piece_placed all)) ≡ Some gap
gap_found all r gap one is =
    by_gap (gap_of r.place.len (series_of r.head.id (map piece_placed all))) refl
    (sym (ap (with_members (map (λ (q : PlacedRecord). q.place) all) r.place) (first_joined r.head.segment.number r.place.len (series_of r.head.id (map piece_placed all)) one)) ∙ is)
  where
    by_gap : (o : Option Gap) → gap_of r.place.len (series_of r.head.id (map piece_placed all)) ≡ o
        → with_members (map (λ (q : PlacedRecord). q.place) all) r.place (unless_gap o (series_of r.head.id (map piece_placed all))) ≡ Err gap
        → gap_of r.place.len (series_of r.head.id (map piece_placed all)) ≡ Some gap
    by_gap None e f = absurd (cc)
    by_gap (Some found) e f = let same : found ≡ gap = cc in e ∙ ap Some same

-- what is known is what would be found
pub recalled_joined : (parts : Parts) (table : BTreeMap (ℕ × ℕ) Gap) (segment : ℕ) (all : List PlacedRecord) (r : PlacedRecord) (gap : Gap) → AreKnownGaps parts table → parts ≡ kept_in all
    → r.head.segment.number ≡ Number 1 → IsMemberAt (series_of r.head.id (map piece_placed all)) segment → IsRecalled table segment r.place.len gap → joined_places all r ≡ Err gap
recalled_joined parts table segment all r gap right are one member it =
    gap_joined all r gap one
    (gap_after it.at r.place.len (series_of r.head.id (map piece_placed all)) gap (right all are segment it.at gap r.head.id it.there member) it.holds)

-- ---- the table

pub kept_before : (old new : BTreeMap (ℕ × ℕ) Gap) (segment len at : ℕ) (gap : Gap) → (gap ≡ Total → at ≡ len) → IsUnchanged old new → KeepsGap segment len gap old new
kept_before old new segment len at gap holds same =
    record { at = at; holds = holds; each = λ s n. inl (ap (lookup (is_at (compare_keys (s, n)))) same) }

kept_pair : (old new : BTreeMap (ℕ × ℕ) Gap) (segment at : ℕ) (gap : Gap) → Updates compare_keys old new (segment, at) (Some gap) → (s n : ℕ)
    → (known_gap_at new s n ≡ known_gap_at old s n) ⊎ ((s ≡ segment) × (n ≡ at) × (known_gap_at new s n ≡ Some gap))
kept_pair old new segment at gap updates s n = by_test (is_at (compare_keys (segment, at)) (s, n)) refl
  where
    by_test : (here : Bool) → is_at (compare_keys (segment, at)) (s, n) ≡ here
        → (known_gap_at new s n ≡ known_gap_at old s n) ⊎ ((s ≡ segment) × (n ≡ at) × (known_gap_at new s n ≡ Some gap))
    by_test true is =
        let same : (segment, at) ≡ (s, n) = exact_pairs nat_cmp nat_cmp exact_unsigned exact_unsigned (segment, at) (s, n) ((Equal-is (compare_keys (segment, at) (s, n))).0 is) in
        inr (
          sym (ap (λ (x : ℕ × ℕ). x.0) same),
          sym (ap (λ (x : ℕ × ℕ). x.1) same),
          updates.0 (s, n) ∙ ap (λ (b : Bool). cond b (Some gap) (known_gap_at old s n)) is,
        )
    by_test false is = inl (updates.0 (s, n) ∙ ap (λ (b : Bool). cond b (Some gap) (known_gap_at old s n)) is)

pub kept_now : (old new : BTreeMap (ℕ × ℕ) Gap) (segment len at : ℕ) (gap : Gap) → (gap ≡ Total → at ≡ len) → Updates compare_keys old new (segment, at) (Some gap)
    → KeepsGap segment len gap old new
kept_now old new segment len at gap holds updates = record { at = at; holds = holds; each = kept_pair old new segment at gap updates }

pub kept_known : (parts : Parts) (old new : BTreeMap (ℕ × ℕ) Gap) (segment len : ℕ) (gap : Gap) (id : Option (List ℕ)) → AreKnownGaps parts old → KeepsGap segment len gap old new
    → ((all : List PlacedRecord) → parts ≡ kept_in all → IsMemberAt (series_of id (map piece_placed all)) segment)
    → ((all : List PlacedRecord) → parts ≡ kept_in all → gap_of len (series_of id (map piece_placed all)) ≡ Some gap) → AreKnownGaps parts new
kept_known parts old new segment len gap id right kept member found all are s n g other there in_ = elim (kept.each s n) [
  | inl same ↦ right all are s n g other (sym same ∙ there) in_
  | inr set ↦
      let here : Some gap ≡ Some g = sym set.2 ∙ there in
      let it : gap ≡ g = cc in
      let one : other ≡ id = same_id (map piece_placed all) other id segment (subst (IsMemberAt (series_of other (map piece_placed all))) set.0 in_) (member all are) in
      let at : gap_of kept.at (series_of id (map piece_placed all)) ≡ Some gap =
      gap_after len kept.at (series_of id (map piece_placed all)) gap (found all are) (λ total. sym (kept.holds total)) in
      subst (λ (i : Option (List ℕ)). gap_of n (series_of i (map piece_placed all)) ≡ Some g) (sym one)
      (subst (λ (x : Gap). gap_of n (series_of id (map piece_placed all)) ≡ Some x) it
      (subst (λ (k : ℕ). gap_of k (series_of id (map piece_placed all)) ≡ Some gap) (sym set.1) at))
]

-- How a record is cut, as one of its segments says.
use Rattle.std.proofs.Common.{◌≡◌, ℕ, zero, suc, ◌<◌, nat_le, List, [], ◌∷◌, length, get_or, Bool, true, false, not, inl, inr, Option, Some, Result, Ok, Err, if◌then◌else◌, refl, sym, ap, ◌∙◌, arith, true≢false}
use Rattle.std.specs.List.{list_all, slice_get}
use Rattle.std.proofs.lemmas.Bool.{cases_lt}
use Rattle.std.proofs.lemmas.Bool.Decides.{nat_tests}
use Rattle.std.proofs.lemmas.List.FromFn.{get_or-map-range_with_len, length-map-range_with_len}
use Rattle.std.proofs.lemmas.Option.{get_or_from_slice_get, slice_get_within}
use Rattle.warc_field.specs.Area.{Pair}
use Rattle.warc_frame.specs.Reading.{◌>>=◌}
use Rattle.warc_frame.specs.Record.{Record}
use Rattle.warc_record.specs.Blocks.{has_bad_digest}
use Rattle.warc_rewrite.proofs.SplitLemmas.{short_stays}
use Rattle.warc_write.specs.Cutting.{or_whole, records_by, split_or_whole}
use Rattle.warc_write.specs.Refusals.{checks}
use Rattle.warc_write.specs.Splitting.{cut_of, has_room, segment_count, segment_of, segments_of, split_of, splittable}
use Rattle.warc_write.specs.declared.segments.SplitFault.{SplitFault}
use Rattle.warc_write.specs.declared.segments.SplitFault.TheVariants.{BadDigest, Size, TooLong}

-- one record is at the first place alone
alone : (r s : Record) (at : ℕ) → slice_get (r ∷ []) at ≡ Some s → at ≡ 0
alone r s at is = let within = slice_get_within (r ∷ []) at s is in omega (arith, within)

pub only_one : (r s : Record) (at : ℕ) → slice_get (r ∷ []) at ≡ Some s → s ≡ r
only_one r s at is =
    let here = alone r s at is in
    sym (get_or_from_slice_get (r ∷ []) at s r is) ∙ ap (λ n. get_or (r ∷ []) n r) here

-- a segment, by its place
pub segment_there : (r s : Record) (uuid : List ℕ) (n at : ℕ) → slice_get (segments_of r uuid n) at ≡ Some s
    → (at < segment_count n (length r.block)) × (s ≡ segment_of r uuid n at)
segment_there r s uuid n at is =
    let count = segment_count n (length r.block) in
    let size : length (segments_of r uuid n) ≡ count = length-map-range_with_len (segment_of r uuid n) 0 count in
    let within : at < count = omega (arith, slice_get_within (segments_of r uuid n) at s is, size) in
    (within, sym (get_or_from_slice_get (segments_of r uuid n) at s s is) ∙ get_or-map-range_with_len (segment_of r uuid n) 0 count at at s within (omega arith))

pub segments_len : (r : Record) (uuid : List ℕ) (n : ℕ) → length (segments_of r uuid n) ≡ segment_count n (length r.block)
segments_len r uuid n = length-map-range_with_len (segment_of r uuid n) 0 (segment_count n (length r.block))

-- a record with a further segment is cut, by the UUID that its head gives
further_long : (r s : Record) (n at : ℕ) → 0 < at → n < length r.block → slice_get (split_or_whole n r) at ≡ Some s
    → (uuid : List ℕ) × (splittable r.fields n ≡ Ok uuid) × (split_or_whole n r ≡ segments_of r uuid n)
unfolding split_of
further_long r s n at some long is = by_uuid (splittable r.fields n) refl is
  where
    not_alone : {X : Type 0} → slice_get (r ∷ []) at ≡ Some s → X
    not_alone {X} here = absurd (omega (arith, some, alone r s at here))

    by_test : (uuid : List ℕ) → splittable r.fields n ≡ Ok uuid → (short room : Bool) → short ≡ false
        → slice_get (or_whole r (if short then Ok (r ∷ []) else if room then Ok (segments_of r uuid n) else Err TooLong)) at ≡ Some s
        → (u : List ℕ) × (splittable r.fields n ≡ Ok u)
        × (or_whole r (if short then Ok (r ∷ []) else if room then Ok (segments_of r uuid n) else Err TooLong) ≡ segments_of r u n)
    by_test uuid split true room no_short here = absurd (true≢false no_short)
    by_test uuid split false true no_short here = (uuid, split, refl)
    by_test uuid split false false no_short here = not_alone here

    by_digest : (uuid : List ℕ) → splittable r.fields n ≡ Ok uuid → (fine : Bool)
        → slice_get (or_whole r (◌>>=◌ (checks fine BadDigest) (λ _. cut_of r uuid n))) at ≡ Some s
        → (u : List ℕ) × (splittable r.fields n ≡ Ok u)
        × (or_whole r (◌>>=◌ (checks fine BadDigest) (λ _. cut_of r uuid n)) ≡ segments_of r u n)
    by_digest uuid split true here =
        by_test uuid split (nat_le (length r.block) n) (list_all has_room (segments_of r uuid n)) (grind (arith, nat_tests)) here
    by_digest uuid split false here = not_alone here

    by_uuid : (o : Result (List ℕ) SplitFault) → splittable r.fields n ≡ o
        → slice_get (or_whole r (◌>>=◌ o (λ uuid. ◌>>=◌ (checks (not (has_bad_digest r)) BadDigest) (λ _. cut_of r uuid n)))) at ≡ Some s
        → (u : List ℕ) × (splittable r.fields n ≡ Ok u)
        × (or_whole r (◌>>=◌ o (λ uuid. ◌>>=◌ (checks (not (has_bad_digest r)) BadDigest) (λ _. cut_of r uuid n))) ≡ segments_of r u n)
    by_uuid (Ok uuid) split here = by_digest uuid split (not (has_bad_digest r)) here
    by_uuid (Err fault) split here = not_alone here

no_size : (fields : List Pair) → splittable fields 0 ≡ Err Size
unfolding splittable
no_size fields = refl

-- such a record is longer than a segment, and a segment isn't empty
pub further_is_long : (r s : Record) (n at : ℕ) → 0 < at → slice_get (split_or_whole n r) at ≡ Some s → n < length r.block
further_is_long r s n at some is = elim (cases_lt n (length r.block)) [
  | inl lt ↦ lt
  | inr le ↦ absurd (omega (arith, some, alone r s at (ap (λ l. slice_get l at) (sym (short_stays r n le)) ∙ is)))
]

pub further_has_size : (r s : Record) (n at : ℕ) → 0 < at → slice_get (split_or_whole n r) at ≡ Some s → 0 < n
further_has_size r s zero at some is =
    let cut = further_long r s 0 at some (further_is_long r s 0 at some is) is in
    let clash : ◌≡◌ {A = Result (List ℕ) SplitFault} (Err Size) (Ok cut.0) = sym (no_size r.fields) ∙ cut.1 in
    absurd (cc clash)
further_has_size r s (suc n) at some is = omega arith

-- it is cut by the UUID that its head gives
pub further : (r s : Record) (n at : ℕ) (fields : List Pair) (uuid : List ℕ) → fields ≡ r.fields → splittable fields n ≡ Ok uuid
    → 0 < at → slice_get (split_or_whole n r) at ≡ Some s → split_or_whole n r ≡ segments_of r uuid n
further r s n at fields uuid same split some is =
    let cut = further_long r s n at some (further_is_long r s n at some is) is in
    let both : ◌≡◌ {A = Result (List ℕ) SplitFault} (Ok cut.0) (Ok uuid) = sym cut.1 ∙ ap (λ f. splittable f n) (sym same) ∙ split in
    let one : cut.0 ≡ uuid = cc both in
    cut.2 ∙ ap (λ u. segments_of r u n) one

-- its head gives one
pub further_splits : (r s : Record) (n at : ℕ) (fields : List Pair) (fault : SplitFault) → fields ≡ r.fields
    → splittable fields n ≡ Err fault → 0 < at → slice_get (split_or_whole n r) at ≡ Some s → ⊥
further_splits r s n at fields fault same split some is =
    let cut = further_long r s n at some (further_is_long r s n at some is) is in
    let clash : ◌≡◌ {A = Result (List ℕ) SplitFault} (Ok cut.0) (Err fault) = sym cut.1 ∙ ap (λ f. splittable f n) (sym same) ∙ split in
    cc clash

-- what is written, by how it is cut
pub cut_same : (r : Record) (n : ℕ) (given known : Option (List ℕ)) → split_or_whole n r ≡ records_by r n given → given ≡ known
    → split_or_whole n r ≡ records_by r n known
cut_same r n given known is same = is ∙ ap (λ o. records_by r n o) same

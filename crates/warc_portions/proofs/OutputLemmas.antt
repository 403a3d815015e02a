-- What is left of an output at a cursor.
use Rattle.std.proofs.Common.{◌≡◌, ℕ, zero, suc, ◌+◌, ◌<◌, ◌≤◌, nat_le, List, [], ◌∷◌, ◌++◌, length, drop, Bool, true, false, not, inl, inr, Option, Some, None, Result, Ok, Err, if◌then◌else◌, append_assoc, refl, sym, subst, ap, ◌∙◌, arith}
use Rattle.std.specs.List.{cons_option, flat_map, list_all, slice_get}
use Rattle.std.proofs.lemmas.Bool.{cases_lt}
use Rattle.std.proofs.lemmas.List.{drop_all}
use Rattle.std.proofs.lemmas.List.FromFn.{length-map-range_with_len}
use Rattle.std.proofs.lemmas.Option.{slice_get_past, slice_get_within}
use Rattle.warc_frame.specs.Reading.{◌>>=◌}
use Rattle.warc_frame.specs.Record.{Record}
use Rattle.warc_frame.specs.Spelling.{canonical}
use Rattle.warc_frame.proofs.LawLemmas.{head_of_spelled}
use Rattle.warc_portions.specs.Outputs.{EndsAfterPositions, EndsAfterRecords, IsAny, IsFollowed, IsInSplit, PortionsAreAll, SplitBegins, after_record, left_of, left_selected, left_split, split_at, split_some}
use Rattle.warc_portions.specs.Portions.{IsInPlace}
use Rattle.warc_portions.specs.declared.next.Cursor.{Cursor}
use Rattle.warc_reading.specs.Archive.{IsArchiveOf, contents}
use Rattle.warc_reading.specs.Row.{Placed, Row}
use Rattle.warc_reading.proofs.PlaceLemmas.{checkable_archive}
use Rattle.warc_reading.proofs.PlacedLemmas.{content_at, record_at}
use Rattle.warc_reading.proofs.RemainLemmas.{written}
use Rattle.warc_record.specs.Blocks.{has_bad_digest}
use Rattle.warc_rewrite.specs.Forms.{split_text}
use Rattle.warc_rewrite.specs.Selecting.{at_positions, record_bytes, selected_text}
use Rattle.warc_write.specs.Cutting.{or_whole, split_or_whole}
use Rattle.warc_write.specs.Refusals.{checks}
use Rattle.warc_write.specs.Rendering.{canonical_texts}
use Rattle.warc_write.specs.Splitting.{cut_of, has_room, segment_count, segment_of, segments_of, split_of, splittable}
use Rattle.warc_write.specs.declared.segments.SplitFault.{SplitFault}
use Rattle.warc_write.specs.declared.segments.SplitFault.TheVariants.{BadDigest, TooLong}

-- the record of a row, in the bytes
pub at_place : (bytes : List ℕ) (rows : List Row) (is : IsArchiveOf bytes rows) (place : ℕ) (row : Row) → slice_get rows place ≡ Some row
    → (p : Placed) × (slice_get (contents is.are.records) place ≡ Some p.content) × IsInPlace bytes row p
at_place bytes rows is place row here =
    let found = record_at bytes is.are.records rows place row (checkable_archive head_of_spelled bytes rows is rows refl) here in
    let p = found.0 in
    let there = written bytes is.are.records is.are.spelled place p found.1 in (
      p,
      content_at is.are.records place p found.1,
      record {
        whole = record {
          head = found.3;
          range = (omega (arith, there.order, there.end, there.within), omega (arith, is.short));
          block = there.block;
        };
        row_is = found.2;
      },
    )

-- ---- what is left

pub drop_at : {X : Type 0} (xs : List X) (n : ℕ) (x : X) → slice_get xs n ≡ Some x → drop n xs ≡ x ∷ drop (n + 1) xs
drop_at {X} [] n x is = absurd (cc is)
drop_at {X} (y ∷ ys) zero x is = let same : y ≡ x = cc is in ap (λ z. z ∷ ys) same
drop_at {X} (y ∷ ys) (suc n) x is =
    let more : suc (n + 1) ≡ suc n + 1 = omega arith in
    drop_at ys n x is ∙ ap (λ k. x ∷ drop k (y ∷ ys)) more

pub left_record : (text_of : Record → List ℕ) (records : List Record) (place : ℕ) (r : Record) → slice_get records place ≡ Some r
    → flat_map text_of (drop place records) ≡ text_of r ++ flat_map text_of (drop (place + 1) records)
left_record text_of records place r here = ap (flat_map text_of) (drop_at records place r here)

-- nothing is left after the last record
pub left_none : (text_of : Record → List ℕ) (records : List Record) (place : ℕ) → length records ≤ place
    → flat_map text_of (drop place records) ≡ []
left_none text_of records place past = ap (flat_map text_of) (drop_all place records past)

-- the portion of a record
pub followed_by_record : (text_of : Record → List ℕ) (records : List Record) (cursor next : Cursor) (r : Record)
    → slice_get records cursor.place ≡ Some r → next ≡ after_record cursor
    → IsFollowed (left_of text_of records) IsAny cursor (text_of r) next
followed_by_record text_of records cursor next r here is = (
  left_record text_of records cursor.place r here
      ∙ ap (λ (c : Cursor). text_of r ++ flat_map text_of (drop c.place records)) (sym is),
  tt,
)

-- ---- records that are split

-- something is written in the place of each
pub some_split : (n : ℕ) (r : Record) → 0 < length (split_or_whole n r)
unfolding split_of
some_split n r = by_uuid (splittable r.fields n)
  where
    by_test : (uuid : List ℕ) (short room : Bool)
        → 0 < length (or_whole r (if short then Ok (r ∷ []) else if room then Ok (segments_of r uuid n) else Err TooLong))
    by_test uuid true room = omega arith
    by_test uuid false true =
        omega (arith, length-map-range_with_len (segment_of r uuid n) 0 (segment_count n (length r.block)))
    by_test uuid false false = omega arith

    by_digest : (uuid : List ℕ) (fine : Bool) → 0 < length (or_whole r (◌>>=◌ (checks fine BadDigest) (λ _. cut_of r uuid n)))
    by_digest uuid true = by_test uuid (nat_le (length r.block) n) (list_all has_room (segments_of r uuid n))
    by_digest uuid false = omega arith

    by_uuid : (o : Result (List ℕ) SplitFault)
        → 0 < length (or_whole r (◌>>=◌ o (λ uuid. ◌>>=◌ (checks (not (has_bad_digest r)) BadDigest) (λ _. cut_of r uuid n))))
    by_uuid (Ok uuid) = by_digest uuid (not (has_bad_digest r))
    by_uuid (Err fault) = omega arith

split_here : (n : ℕ) (records : List Record) (place : ℕ) (r : Record) → slice_get records place ≡ Some r
    → split_at n records place ≡ split_or_whole n r
split_here n records place r here = ap (split_some n) here

abbrev begin_at : ℕ → Cursor
begin_at place = record { place = place; segment = 0 }

none_past : (xs : List Record) (k : ℕ) → slice_get xs k ≡ None → length xs ≤ k
none_past [] k is = omega arith
none_past (x ∷ xs) zero is = absurd (cc is)
none_past (x ∷ xs) (suc k) is = omega (arith, none_past xs k is)

-- at the beginning of a record all of it is left
pub left_begins : (n : ℕ) (records : List Record) (place : ℕ)
    → flat_map (split_text n) (drop place records) ≡ left_split n records (begin_at place)
left_begins n records place = by (slice_get records place) refl
  where
    by : (o : Option Record) → slice_get records place ≡ o
        → flat_map (split_text n) (drop place records) ≡ left_split n records (begin_at place)
    by (Some r) here =
        left_record (split_text n) records place r here
        ∙ ap (λ l. canonical_texts l ++ flat_map (split_text n) (drop (place + 1) records)) (sym (split_here n records place r here))
    by None here =
        let past : length records ≤ place = none_past records place here in
        left_none (split_text n) records place past
        ∙ sym (left_none (split_text n) records (place + 1) (omega (arith, past)))
        ∙ ap (λ l. canonical_texts l ++ flat_map (split_text n) (drop (place + 1) records)) (sym (ap (split_some n) here))

-- and a segment of it
pub begins_in : (n : ℕ) (records : List Record) (place : ℕ) → IsInSplit n records (begin_at place)
begins_in n records place = λ within. by (slice_get records place) refl within
  where
    by : (o : Option Record) → slice_get records place ≡ o → place < length records → 0 < length (split_at n records place)
    by (Some r) here within = subst (λ (l : List Record). 0 < length l) (sym (split_here n records place r here)) (some_split n r)
    by None here within = absurd (omega (arith, within, none_past records place here))

pub split_begins : SplitBegins
split_begins n records = (sym (left_begins n records 0), begins_in n records 0)

-- after the last record nothing is left
pub split_none : (n : ℕ) (records : List Record) (cursor : Cursor) → length records ≤ cursor.place → left_split n records cursor ≡ []
split_none n records cursor past =
    let none : split_at n records cursor.place ≡ [] = ap (split_some n) (slice_get_past records cursor.place past) in
    ap (λ l. canonical_texts (drop cursor.segment l) ++ flat_map (split_text n) (drop (cursor.place + 1) records)) none
    ∙ ap (λ (l : List Record). canonical_texts l ++ flat_map (split_text n) (drop (cursor.place + 1) records)) (drop_all cursor.segment [] (omega arith))
    ∙ left_none (split_text n) records (cursor.place + 1) (omega (arith, past))

-- the portion of a segment
pub followed_by_segment : (n : ℕ) (records : List Record) (cursor after : Cursor) (r s : Record) (count : ℕ)
    → slice_get records cursor.place ≡ Some r → slice_get (split_or_whole n r) cursor.segment ≡ Some s
    → count ≡ length (split_or_whole n r)
    → (cursor.segment + 1 < count → after ≡ record { place = cursor.place; segment = cursor.segment + 1 })
    → (count ≤ cursor.segment + 1 → after ≡ after_record cursor)
    → IsFollowed (left_split n records) (IsInSplit n records) cursor (canonical s) after
followed_by_segment n records cursor after r s count here at count_is more last =
    elim (cases_lt (cursor.segment + 1) count) [ inl lt ↦ within lt | inr le ↦ ends le ]
  where
    all : List Record
    all = split_or_whole n r

    others : List ℕ
    others = flat_map (split_text n) (drop (cursor.place + 1) records)

    this : left_split n records cursor ≡ canonical s ++ (canonical_texts (drop (cursor.segment + 1) all) ++ others)
    this =
        ap (λ l. canonical_texts (drop cursor.segment l) ++ others) (split_here n records cursor.place r here)
        ∙ ap (λ l. canonical_texts l ++ others) (drop_at all cursor.segment s at)
        ∙ append_assoc (canonical s) (canonical_texts (drop (cursor.segment + 1) all)) others

    within : cursor.segment + 1 < count → IsFollowed (left_split n records) (IsInSplit n records) cursor (canonical s) after
    within lt =
        let next = more lt in
        let same : left_split n records (record { place = cursor.place; segment = cursor.segment + 1 })
        ≡ canonical_texts (drop (cursor.segment + 1) all) ++ others =
        ap (λ l. canonical_texts (drop (cursor.segment + 1) l) ++ others) (split_here n records cursor.place r here) in
        let left = ap (left_split n records) next ∙ same in
        let inside : IsInSplit n records (record { place = cursor.place; segment = cursor.segment + 1 }) =
        λ place. (let size = ap length (split_here n records cursor.place r here) in omega (arith, lt, count_is, size)) in (
          this ∙ ap (λ l. canonical s ++ l) (sym left),
          subst (λ c. IsInSplit n records c) (sym next) inside,
        )

    ends : count ≤ cursor.segment + 1 → IsFollowed (left_split n records) (IsInSplit n records) cursor (canonical s) after
    ends le =
        let next = last le in
        let none : drop (cursor.segment + 1) all ≡ [] = drop_all (cursor.segment + 1) all (omega (arith, le, count_is)) in
        let left : left_split n records after ≡ others = ap (left_split n records) next ∙ sym (left_begins n records (cursor.place + 1)) in (
          this ∙ ap (λ l. canonical s ++ (canonical_texts l ++ others)) none ∙ ap (λ l. canonical s ++ l) (sym left),
          subst (λ c. IsInSplit n records c) (sym next) (begins_in n records (cursor.place + 1)),
        )

-- the segment at a cursor
pub segment_at : (n : ℕ) (records : List Record) (cursor : Cursor) (r : Record) → slice_get records cursor.place ≡ Some r
    → IsInSplit n records cursor → (s : Record) × (slice_get (split_or_whole n r) cursor.segment ≡ Some s)
segment_at n records cursor r here in_ =
    let size = ap length (split_here n records cursor.place r here) in
    let lt : cursor.segment < length (split_or_whole n r) =
    (let low = in_ (slice_get_within records cursor.place r here) in omega (arith, low, size)) in
    there (split_or_whole n r) cursor.segment lt
  where
    there : (xs : List Record) (k : ℕ) → k < length xs → (s : Record) × (slice_get xs k ≡ Some s)
    there [] k lt = absurd (omega (arith, lt))
    there (x ∷ xs) zero lt = (x, refl)
    there (x ∷ xs) (suc k) lt = there xs k (omega (arith, lt))

-- ---- records at positions

-- the portion of one
pub followed_by_position : (rows : List Row) (positions bytes : List ℕ) (cursor next : Cursor) (row : Row) (position : ℕ)
    → slice_get positions cursor.place ≡ Some position → slice_get rows position ≡ Some row → next ≡ after_record cursor
    → IsFollowed (left_selected rows positions bytes) IsAny cursor (record_bytes bytes row) next
followed_by_position rows positions bytes cursor next row position at here is =
    let rest = drop (cursor.place + 1) positions in
    let first : at_positions rows (drop cursor.place positions) ≡ row ∷ at_positions rows rest =
    ap (at_positions rows) (drop_at positions cursor.place position at) ∙ ap (λ o. cons_option o (at_positions rows rest)) here in (
      ap (flat_map (record_bytes bytes)) first
          ∙ ap (λ (c : Cursor). record_bytes bytes row ++ selected_text rows (drop c.place positions) bytes) (sym is),
      tt,
    )

-- ---- the end

pub ends_after_records : EndsAfterRecords
ends_after_records records cursor past = record {
  of_texts = λ text_of. left_none text_of records cursor.place past;
  of_split = λ n. split_none n records cursor past;
}

pub ends_after_positions : EndsAfterPositions
ends_after_positions rows positions bytes cursor past = ap (λ ps. selected_text rows ps bytes) (drop_all cursor.place positions past)

pub portions_are_all : PortionsAreAll
portions_are_all left cursor [] is = is
portions_are_all left cursor (portion ∷ more) is =
    is.0 ∙ ap (λ l. portion.0 ++ l) (portions_are_all left portion.1 more is.1)

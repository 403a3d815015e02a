-- Some records that need no other: each has among them the origin and the segments that it has among all.
use Rattle.std.proofs.Common.{◌≡◌, inl, inr, ℕ, ◌+◌, ◌<◌, Bool, true, false, ◌&&◌, ◌==◌, List, length, get_or, map, Option, Some, None, Err, option_map, slice_get, refl, sym, ◌∙◌, ap, subst, arith, if◌then◌else◌}
use Rattle.std.specs.Prelude.{Contains, nat_le, option_and_then, unwrap_or}
use Rattle.std.proofs.lemmas.Bool.{eqb-true}
use Rattle.std.proofs.lemmas.List.{length-map}
use Rattle.std.proofs.lemmas.Option.{get_or_from_slice_get, slice_get_past, slice_get_within, unwrap_or-slice_get}
use Rattle.warc_record.specs.declared.readings.SegmentNumber.{SegmentNumber}
use Rattle.warc_record.specs.declared.readings.SegmentNumber.TheVariants.{Absent, Number, Bad}
use Rattle.warc_segment.specs.declared.gap.Gap.TheVariants as gaps
use Rattle.warc_record.specs.Kinds.{is_continuation}
use Rattle.warc_record.specs.Texts.{is_same_text}
use Rattle.warc_index.specs.Captures.{Indexed, LatestIsLast, indexed_of}
use Rattle.warc_index.specs.Referents.{ChainLoops, next_of, origin_of}
use Rattle.warc_segment.specs.Joined.{ReadRecord, joined_records, piece_read, with_members}
use Rattle.warc_segment.specs.Gaps.{gap_of, joined, unless_gap}
use Rattle.warc_segment.specs.Series.{Member, Piece, member_of, numbered, series_of}
use Rattle.warc_answer.specs.Answers.{index_of}
use Rattle.warc_rewrite.specs.Closing.{NeedsNoOther}
use Rattle.warc.specs.ClosedLaws.{IsSameRecord}
use Rattle.warc_rewrite.specs.Selecting.{ArePositions, at_positions}
use Rattle.warc.proofs.JoinedPartLemmas.{joined_moved, moved, with_moved}
use Rattle.warc.proofs.NeedLemmas.{member_is}
use Rattle.warc.proofs.PartLemmas.{contained, is_given, is_there, same_from, is_slot_at}
use Rattle.warc_rewrite.proofs.SelectionLaws.{AscendFrom, ascends, at_map}
use Rattle.warc.proofs.WayLemmas.{AreSame, origin_goes}

-- ---- a member at another position

moved_if : (f : ℕ → ℕ) (b : Bool) (m : Member) → option_map (moved f) (if b then Some m else None) ≡ (if b then Some (moved f m) else None)
moved_if f true m = refl
moved_if f false m = refl

numbered_moved : (f : ℕ → ℕ) (i : ℕ) (piece : Piece) (n : SegmentNumber) → option_map (moved f) (numbered i piece n) ≡ numbered (f i) piece n
numbered_moved f i piece Absent = refl
numbered_moved f i piece Bad = refl
numbered_moved f i piece (Number k) =
    moved_if f (nat_le 2 k) (record { position = i; number = k; total = piece.segment.total; size = piece.size })

member_if : (f : ℕ → ℕ) (b : Bool) (i : ℕ) (piece : Piece)
    → option_map (moved f) (if b then numbered i piece piece.segment.number else None) ≡ (if b then numbered (f i) piece piece.segment.number else None)
member_if f true i piece = numbered_moved f i piece piece.segment.number
member_if f false i piece = refl

member_moved : (f : ℕ → ℕ) (id : Option (List ℕ)) (i : ℕ) (piece : Piece) → option_map (moved f) (member_of id (i, piece)) ≡ member_of id (f i, piece)
member_moved f id i piece = member_if f (is_continuation piece.kind && is_same_text id piece.segment.origin) i piece

-- ---- records that need no other

module _ (all : List ReadRecord) (ps : List ℕ) (are : ArePositions (length all) ps) (closed : NeedsNoOther all ps) where
  abbrev part : List ReadRecord
  part = at_positions all ps

  -- the position of the record at a place, and past the end none
  abbrev position_at : ℕ → ℕ
  position_at i = get_or ps i (length all)

  at_position : (i p : ℕ) → IsSameRecord ps i p → position_at i ≡ p
  at_position i p at = get_or_from_slice_get ps i p (length all) at

  record_at : (i : ℕ) → slice_get all (position_at i) ≡ slice_get part i
  record_at i = by_place (slice_get ps i) refl
    where
      by_place : (o : Option ℕ) → slice_get ps i ≡ o → slice_get all (position_at i) ≡ slice_get part i
      by_place (Some p) at = ap (slice_get all) (at_position i p at) ∙ sym (is_there all ps are.below i p at)
      by_place None at =
          let over : position_at i ≡ length all = sym (unwrap_or-slice_get ps i (length all)) ∙ ap (λ (o : Option ℕ). unwrap_or o (length all)) at in
          ap (slice_get all) over ∙ slice_get_past all (length all) (omega arith) ∙ sym (is_slot_at all ps are.below i ∙ ap (option_and_then (slice_get all)) at)

  -- ---- origins

  next_kept : (p q : ℕ) → Contains ps p → next_of (index_of all) p ≡ Some q → Contains ps q
  next_kept p q is next = closed p q is (inl (record { steps = 1; reached = next }))

  as_many : length (index_of all) ≡ length all
  as_many = length-map all (λ (r : ReadRecord). indexed_of r.head)

  are_index : ArePositions (length (index_of all)) ps
  are_index = subst (λ (n : ℕ). ArePositions n ps) (sym as_many) are

  index_same : at_positions (index_of all) ps ≡ index_of part
  index_same = at_map (λ (r : ReadRecord). indexed_of r.head) all ps

  -- the origin is the same record, or is missing for the same reason
  pub same_origin : LatestIsLast → ChainLoops → (i p : ℕ) → IsSameRecord ps i p
      → AreSame ps (origin_of (index_of all) p) (origin_of (index_of part) i)
  same_origin late chains i p at =
      let P : List Indexed → Type 0 = λ l. AreSame ps (origin_of (index_of all) p) (origin_of l i) in
      subst P index_same (origin_goes late (index_of all) ps are_index next_kept chains i p at)

  -- ---- segments

  series_same : (i p : ℕ) (r : ReadRecord) → IsSameRecord ps i p → slice_get all p ≡ Some r → r.head.segment.number ≡ Number 1
      → series_of r.head.id (map piece_read all) ≡ map (moved position_at) (series_of r.head.id (map piece_read part))
  series_same i p r at there one =
      let pieces : List Piece = map piece_read all in
      let many : length pieces ≡ length all = length-map all piece_read in
      let up : AscendFrom 0 ps = ascends 0 ps are.ascending (λ k lt. omega arith) in
      same_from (member_of r.head.id) (moved position_at) pieces pieces ps 0 0 up
      (λ j q at_q. (
      let lt : get_or ps j 0 < length all = are.below j 0 (slice_get_within ps j q at_q) in
      let same : get_or ps j 0 ≡ q = get_or_from_slice_get ps j q 0 at_q in
      omega (arith, lt, same, many)))
      (λ j. (let z : 0 + j ≡ j = omega arith in ap (slice_get pieces) z))
      (λ j q piece at_q. (
      let z : 0 + j ≡ j = omega arith in
      ap (λ n. member_of r.head.id (n, piece)) (sym (at_position j q at_q))
      ∙ sym (member_moved position_at r.head.id j piece)
      ∙ ap (λ n. option_map (moved position_at) (member_of r.head.id (n, piece))) (sym z)))
      (λ j piece m at_j is. closed p (0 + j) (contained ps i p at) (inr (record {
        first = p;
        way = record { steps = 0; reached = refl };
        segment = record {
          first = r;
          there = there;
          number = one;
          member = m;
          listed = is_given (member_of r.head.id) pieces 0 j piece m at_j is;
          position = (member_is r.head.id (0 + j) piece m is).position;
        };
      })))
      ∙ ap (λ l. map (moved position_at) (series_of r.head.id l)) (at_map piece_read all ps)

  abbrev series_in : List ReadRecord → ReadRecord → List Member
  series_in records r = series_of r.head.id (map piece_read records)

  -- the same records of both lists are joined to a record, if the number of its segment is this
  abbrev JoinsAlike : ReadRecord → SegmentNumber → Type 0
  JoinsAlike r n = with_members all r (joined n (length r.block) (series_in all r)) ≡ with_members part r (joined n (length r.block) (series_in part r))

  joins_first : (r : ReadRecord) (k : ℕ) (b : Bool) → (k == 1) ≡ b → (k ≡ 1 → series_in all r ≡ map (moved position_at) (series_in part r)) → JoinsAlike r (Number k)
  joins_first r k false test series =
      ap (λ (c : Bool). with_members all r (if c then unless_gap (gap_of (length r.block) (series_in all r)) (series_in all r) else Err gaps.Number)) test
      ∙ sym (ap (λ (c : Bool). with_members part r (if c then unless_gap (gap_of (length r.block) (series_in part r)) (series_in part r) else Err gaps.Number)) test)
  joins_first r k true test series =
      ap (λ l. with_members all r (joined (Number k) (length r.block) l)) (series (eqb-true k 1 test))
      ∙ ap (with_members all r) (joined_moved position_at (Number k) (length r.block) (series_in part r))
      ∙ with_moved position_at all part r record_at (joined (Number k) (length r.block) (series_in part r))

  joins_alike : (r : ReadRecord) (n : SegmentNumber) → (n ≡ Number 1 → series_in all r ≡ map (moved position_at) (series_in part r)) → JoinsAlike r n
  joins_alike r Absent series = refl
  joins_alike r Bad series = refl
  joins_alike r (Number k) series = joins_first r k (k == 1) refl (λ one. series (ap Number one))

  -- the same records of both lists are joined to a record, or there is the same gap
  pub same_joined : (i p : ℕ) (r : ReadRecord) → IsSameRecord ps i p → slice_get all p ≡ Some r → joined_records all r ≡ joined_records part r
  same_joined i p r at there = joins_alike r r.head.segment.number (series_same i p r at there)

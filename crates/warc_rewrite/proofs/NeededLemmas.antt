-- Marked positions are those of needed records.
use Rattle.std.proofs.Common.{◌≡◌, inl, inr, ℕ, zero, suc, ◌<◌, ◌≤◌, List, [], ◌∷◌, length, map, Option, Some, None, slice_get, refl, sym, ◌∙◌, ap, subst, arith, true≢false}
use Rattle.std.specs.Prelude.{Contains, option_and_then}
use Rattle.std.specs.Prelude.{replicate}
use Rattle.std.proofs.lemmas.Bool.{cases_lt}
use Rattle.std.proofs.lemmas.List.{get_or_past}
use Rattle.std.proofs.lemmas.Option.{slice_get_within}
use Rattle.warc_rewrite.specs.Selecting.{ArePositions}
use Rattle.warc_rewrite.proofs.TakenLemmas.{as_many}
use Rattle.warc_record.specs.Readings.{reading_of}
use Rattle.warc_index.specs.Captures.{Indexed}
use Rattle.warc_index.specs.Referents.{next_of}
use Rattle.warc_index.specs.Walks.{walk}
use Rattle.warc_segment.specs.Joined.{ReadRecord, piece_placed, piece_read}
use Rattle.warc_segment.specs.Series.{IsMemberAt, Piece, series_of}
use Rattle.warc_answer.specs.Answers.{index_of}
use Rattle.warc_answer.specs.Payloads.{read_record}
use Rattle.warc_reading.specs.Archive.{IsArchiveOf}
use Rattle.warc_lookup.specs.Indexed.{indexed_record, placed_record}
use Rattle.warc_reading.specs.Row.{Placed, Row}
use Rattle.warc_rewrite.specs.declared.needs.Mark.{Mark}
use Rattle.warc_rewrite.specs.declared.needs.Mark.TheVariants.{Free, Segment}
use Rattle.warc_rewrite.specs.Closure.{records_read}
use Rattle.warc_rewrite.specs.Closing.{AreWithNeeded, ComesTo, IsNeeded, IsSegmentOf}
use Rattle.warc_rewrite.specs.Marks.{AreMarked, AreTakenOf, AreWhere, HasNoSegment, IsMarked, IsReached, IsSegmentAt, marks_needed, mark_in, pieces_of}

-- ---- the same records, placed and read

pub same_index : (records : List Placed) → index_of (records_read records) ≡ map indexed_record records
same_index [] = refl
same_index (p ∷ ps) = ap (λ l. indexed_record p ∷ l) (same_index ps)

pub same_pieces : (records : List Placed) → map piece_read (records_read records) ≡ pieces_of records
same_pieces [] = refl
same_pieces (p ∷ ps) = ap (λ l. piece_placed (placed_record p) ∷ l) (same_pieces ps)

read_at : (records : List Placed) (i : ℕ) (p : Placed) → slice_get records i ≡ Some p
    → slice_get (records_read records) i ≡ Some (read_record p.content)
read_at [] i p is = absurd (cc)
read_at (x ∷ xs) zero p is = let same : x ≡ p = cc in ap (λ (q : Placed). Some (read_record q.content)) same
read_at (x ∷ xs) (suc i) p is = read_at xs i p is

pub record IsReadOf (records : List Placed) (i : ℕ) (r : ReadRecord) : Type 0 where
  pub placed : Placed
  pub there : slice_get records i ≡ Some placed
  pub same : r ≡ read_record placed.content

pub read_from : (records : List Placed) (i : ℕ) (r : ReadRecord) → slice_get (records_read records) i ≡ Some r → IsReadOf records i r
read_from [] i r is = absurd (cc)
read_from (x ∷ xs) zero r is = let same : r ≡ read_record x.content = cc in record { placed = x; there = refl; same = same }
read_from (x ∷ xs) (suc i) r is =
    let rest : IsReadOf xs i r = read_from xs i r is in record { placed = rest.placed; there = rest.there; same = rest.same }

pub as_many_read : (records : List Placed) → length (records_read records) ≡ length records
as_many_read [] = refl
as_many_read (x ∷ xs) = ap suc (as_many_read xs)

-- ---- segments

pub segment_of : (records : List Placed) (p q : ℕ) → IsSegmentAt records p q → IsSegmentOf (records_read records) p q
segment_of records p q is =
    let listed : IsMemberAt (series_of (reading_of is.first.content.fields).id (map piece_read (records_read records))) q =
    subst (λ (ps : List Piece). IsMemberAt (series_of (reading_of is.first.content.fields).id ps) q) (sym (same_pieces records))
    is.is.1 in
    record {
      first = read_record is.first.content;
      there = read_at records p is.first is.there;
      number = is.is.0;
      member = listed.it;
      listed = listed.listed;
      position = listed.position;
    }

pub segment_at : (records : List Placed) (p q : ℕ) → IsSegmentOf (records_read records) p q → IsSegmentAt records p q
segment_at records p q is =
    let at : IsReadOf records p is.first = read_from records p is.first is.there in
    let here : IsMemberAt (series_of is.first.head.id (map piece_read (records_read records))) q =
    record { it = is.member; listed = is.listed; position = is.position } in
    let there : IsMemberAt (series_of is.first.head.id (pieces_of records)) q =
    subst (λ (ps : List Piece). IsMemberAt (series_of is.first.head.id ps) q) (same_pieces records) here in
    record {
      first = at.placed;
      there = at.there;
      is = (
        ap (λ (r : ReadRecord). r.head.segment.number) (sym at.same) ∙ is.number,
        subst (λ (r : ReadRecord). IsMemberAt (series_of r.head.id (pieces_of records)) q) at.same there,
      );
    }

-- ---- ways

pub walk_from : (records : List Placed) (p k : ℕ)
    → walk (next_of (index_of (records_read records))) p k ≡ walk (next_of (map indexed_record records)) p k
walk_from records p k = ap (λ (all : List Indexed). walk (next_of all) p k) (same_index records)

stays_marked : (next : ℕ → Option ℕ) (positions : List ℕ) (marks : List Mark) → AreMarked next positions marks → (q : ℕ)
    (o : Option ℕ) → ((r : ℕ) → o ≡ Some r → IsMarked marks r) → option_and_then next o ≡ Some q → IsMarked marks q
stays_marked next positions marks are q None before to = absurd (cc)
stays_marked next positions marks are q (Some r) before to = are.closed r q (before r refl) to

way_marked : (next : ℕ → Option ℕ) (positions : List ℕ) (marks : List Mark) → AreMarked next positions marks → (k p q : ℕ)
    → Contains positions p → walk next p k ≡ Some q → IsMarked marks q
way_marked next positions marks are zero p q named way =
    let same : p ≡ q = cc in subst (IsMarked marks) same (are.named p named)
way_marked next positions marks are (suc k) p q named way =
    stays_marked next positions marks are q (walk next p k) (λ r at. way_marked next positions marks are k p r named at) way

-- ---- what is marked is needed

needed_to : (records : List Placed) (positions : List ℕ) (n : ℕ) (base marks : List Mark) → length records ≤ n
    → AreMarked (next_of (map indexed_record records)) positions base → AreTakenOf records n base marks → (q : ℕ)
    → IsMarked marks q → IsNeeded (records_read records) positions q
needed_to records positions n base marks le ways taken q is = elim (taken.only q is) [
  | inl way ↦
      let from : IsReached (next_of (map indexed_record records)) positions q = ways.reached q way in
      record {
        by = from.by;
        named = from.named;
        needs = inl (record { steps = from.steps; reached = walk_from records from.by from.steps ∙ from.way });
      }
  | inr segment ↦
      let from : IsReached (next_of (map indexed_record records)) positions segment.0 = ways.reached segment.0 segment.1 in
      record {
        by = from.by;
        named = from.named;
        needs = inr (record {
          first = segment.0;
          way = record { steps = from.steps; reached = walk_from records from.by from.steps ∙ from.way };
          segment = segment_of records segment.0 q segment.2;
        });
      }
]

first_within : (records : List Placed) (p q : ℕ) → IsSegmentAt records p q → p < length records
first_within records p q is = slice_get_within records p is.first is.there

needed_from : (records : List Placed) (positions : List ℕ) (n : ℕ) (base marks : List Mark) → length records ≤ n
    → AreMarked (next_of (map indexed_record records)) positions base → AreTakenOf records n base marks → (q : ℕ)
    → IsNeeded (records_read records) positions q → IsMarked marks q
needed_from records positions n base marks le ways taken q is =
    let next : ℕ → Option ℕ = next_of (map indexed_record records) in
    let reach : (r : ℕ) → ComesTo (records_read records) is.by r → IsMarked base r =
    (λ r to. way_marked next positions base ways to.steps is.by r is.named (sym (walk_from records is.by to.steps) ∙ to.reached)) in
    elim is.needs [
      | inl way ↦ taken.kept q (reach q way)
      | inr segment ↦
          let at : IsSegmentAt records segment.first q = segment_at records segment.first q segment.segment in
          let within : segment.first < length records = first_within records segment.first q at in
          taken.done segment.first q (omega arith) (reach segment.first segment.way) at
    ]

member_inside : (records : List Placed) (marks : List Mark) (q : ℕ) → IsMarked marks q → q < length marks
member_inside records marks q is = elim (cases_lt q (length marks)) [
  | inl less ↦ less
  | inr past ↦ absurd (true≢false (sym is ∙ ap marks_needed (get_or_past marks q Free past)))
]

pub closed_are : (bytes : List ℕ) (rows : List Row) (positions closed : List ℕ) (base marks : List Mark) (is : IsArchiveOf bytes rows)
    → length marks ≡ length rows
    → AreMarked (next_of (map indexed_record is.are.records)) positions base
    → AreTakenOf is.are.records (length rows) base marks
    → AreWhere (λ p. marks_needed (mark_in marks p)) (length marks) closed
    → AreWithNeeded (records_read is.are.records) positions closed
closed_are bytes rows positions closed base marks is len ways taken where_ =
    let many : length rows ≡ length is.are.records = as_many bytes rows is in
    let read : length (records_read is.are.records) ≡ length is.are.records = as_many_read is.are.records in
    record {
      are = subst (λ (n : ℕ). ArePositions n closed) (omega (arith, len, many, read)) where_.are;
      each = λ q. (
        λ in_. needed_to is.are.records positions (length rows) base marks (omega arith) ways taken q ((where_.each q).0 in_).1,
        λ need.
            let marked : IsMarked marks q = needed_from is.are.records positions (length rows) base marks (omega arith) ways taken q need in
            (where_.each q).1 (member_inside is.are.records marks q marked, marked),
      );
    }

-- ---- at the beginning nothing is marked

free_all : (marks : List Mark) (n q : ℕ) → marks ≡ replicate n Free → mark_in marks q ≡ Free
free_all marks n q is = ap (λ (m : List Mark). mark_in m q) is ∙ by_len n q
  where
    by_len : (n q : ℕ) → mark_in (replicate n Free) q ≡ Free
    by_len zero q = refl
    by_len (suc n) zero = refl
    by_len (suc n) (suc q) = by_len n q

pub none_marked : (next : ℕ → Option ℕ) (marks : List Mark) (n : ℕ) → marks ≡ replicate n Free → AreMarked next [] marks
none_marked next marks n is = record {
  named = λ p at. absurd (omega (arith, at.1));
  reached = λ q marked. absurd (true≢false (sym marked ∙ ap marks_needed (free_all marks n q is)));
  closed = λ q r marked. absurd (true≢false (sym marked ∙ ap marks_needed (free_all marks n q is)));
}

pub none_segment : (marks : List Mark) (n : ℕ) → marks ≡ replicate n Free → HasNoSegment marks
none_segment marks n is q segment =
    let z : Free ≡ Segment = sym (free_all marks n q is) ∙ segment in absurd (cc)

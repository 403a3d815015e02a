-- The records that a good record is split into join to its block.
use Rattle.std.proofs.Common.{◌≡◌, inl, inr, ℕ, zero, suc, ◌+◌, ◌-◌, ◌*◌, ◌^◌, ◌<◌, ◌≤◌, ◌||◌, ◌==◌, nat_le, Bool}
use Rattle.std.proofs.Common.{true, false}
use Rattle.std.proofs.Common.{List, [], ◌∷◌, length, drop, map, sum_by, codes, append-nil}
use Rattle.std.proofs.Common.{Option, Some, None, is_none, is_some, Result, Ok, Err, refl, sym, ap, subst, ◌∙◌, arith}
use Rattle.std.proofs.Common.{eq-eqb, if◌then◌else◌}
use Rattle.std.specs.Prelude.{option_and_then}
use Rattle.std.specs.List.{list_all, range_with_len}
use Rattle.std.proofs.lemmas.Bool.{cases_Bool, ltb-true, or_parts}
use Rattle.std.proofs.lemmas.Bool.Decides.{nat_tests}
use Rattle.std.proofs.lemmas.List.Sums.{sum_by-cons}
use Rattle.sha1.specs.Sha1.{sha1}
use Rattle.warc_field.specs.Area.{Pair, first_value}
use Rattle.warc_value.specs.Digests.{verdict_of}
use Rattle.warc_value.specs.declared.hash.Wanted.TheVariants.{Sha1}
use Rattle.warc_frame.specs.Record.{Record, max_block}
use Rattle.warc_frame.proofs.FramedLemmas.{framed_block}
use Rattle.warc_record.specs.Good.{IsGood}
use Rattle.warc_record.specs.Heads.{head_fault}
use Rattle.warc_record.specs.Ids.{bare_text, id_key, key_of}
use Rattle.warc_record.specs.Kinds.{is_continuation}
use Rattle.warc_record.specs.Readings.{digest_wanted, key_in, kind_of, number_in, segment_number, target_of}
use Rattle.warc_record.specs.declared.readings.SegmentNumber.TheVariants.{Absent}
use Rattle.warc_record.specs.declared.types.Kind.{Kind}
use Rattle.warc_record.specs.declared.types.Kind.TheVariants.{Warcinfo, Response, Resource, Request, Metadata}
use Rattle.warc_record.specs.declared.types.Kind.TheVariants.{Revisit, Conversion, Continuation, Other}
use Rattle.warc_segment.specs.Joined.{ReadRecord, blocks_of, joined_block, piece_read, with_members}
use Rattle.warc_segment.specs.Gaps.{joined}
use Rattle.warc_segment.specs.Series.{member_of, series_of}
use Rattle.warc_write.specs.declared.segments.SegmentPart.{SegmentPart}
use Rattle.warc_write.specs.declared.segments.SplitFault.{SplitFault}
use Rattle.warc_write.specs.declared.segments.SplitFault.TheVariants.{AlreadySegmented, BadDigest, TooLong}
use Rattle.warc_write.specs.declared.segments.SplitFault.TheVariants.{Kind as BadKind}
use Rattle.warc_write.specs.Joining.{JoinsTo, NoBadDigest, SplitJoins, read_of}
use Rattle.warc_value.specs.Digests.{is_bad}
use Rattle.warc_record.specs.Blocks.{has_bad_digest}
use Rattle.warc_write.specs.Splitting.{segment_count, first_fields, has_field, has_room}
use Rattle.warc_write.specs.Splitting.{is_segmented}
use Rattle.warc_write.specs.Splitting.{may_be_split, next_fields, part_of, piece_at, segment_fields, segment_of}
use Rattle.warc_write.specs.Splitting.{segments_of, split_of, splittable, total_at}
use Rattle.warc_write.proofs.PieceLemmas.{count_enough, count_small, count_two, pieces_joined, sizes_joined}
use Rattle.warc_write.proofs.ReadingLemmas.{first_id, first_kind, first_number, first_wanted, member_by, next_kind}
use Rattle.warc_write.proofs.ReadingLemmas.{next_number, next_origin, next_total, next_wanted, own_is_good}
use Rattle.warc_write.proofs.SegmentLemmas.{all_split, never, no_room, not_split, refused_by_digest, refused_by_head}
use Rattle.warc_write.proofs.SegmentLemmas.{splittable_is_good, splittable_size}
use Rattle.warc_write.proofs.SeriesLemmas.{joined_is, member, size_in}
use Rattle.warc_write.proofs.SplitLemmas.{no_kind, no_target, segmented}

-- ---- what may be split

not_continuation : (k : Kind) → may_be_split k ≡ true → is_continuation k ≡ false
not_continuation Warcinfo is = refl
not_continuation Response is = refl
not_continuation Resource is = refl
not_continuation Request is = refl
not_continuation Metadata is = refl
not_continuation Revisit is = refl
not_continuation Conversion is = refl
not_continuation Continuation is = sym is
not_continuation Other is = refl

no_number : (o : Option (List ℕ)) → is_some o ≡ false → o ≡ None
no_number None is = refl
no_number (Some value) is = absurd (cc)

not_numbered : (fields : List Pair) → is_segmented fields ≡ false
    → has_field (codes "WARC-Segment-Number") fields ≡ false
not_numbered fields none =
    let number = has_field (codes "WARC-Segment-Number") fields in
    let origin = has_field (codes "WARC-Segment-Origin-ID") fields in
    let total = has_field (codes "WARC-Segment-Total-Length") fields in
    (or_parts number origin (or_parts (number || origin) total none).0).0

record MaySplit (fields : List Pair) : Type 0 where
  pub kind : is_continuation (kind_of fields) ≡ false
  pub number : first_value (codes "WARC-Segment-Number") fields ≡ None

may_split : (fields : List Pair) (n : ℕ) (uuid : List ℕ) → splittable fields n ≡ Ok uuid → MaySplit fields
may_split fields n uuid is =
    let size = splittable_size fields n uuid is in
    let head : is_none (head_fault fields) ≡ true = ap is_none (splittable_is_good fields n uuid is) in
    elim (cases_Bool (may_be_split (kind_of fields))) [
      | inr bad ↦ absurd (never BadKind uuid (sym (no_kind fields n size head bad) ∙ is))
      | inl kind ↦ elim (cases_Bool (is_some (target_of fields))) [
        | inr bad ↦ absurd (never BadKind uuid (sym (no_target fields n size head kind bad) ∙ is))
        | inl target ↦ elim (cases_Bool (is_segmented fields)) [
          | inl bad ↦ absurd (never AlreadySegmented uuid (sym (segmented fields n size head kind target bad) ∙ is))
          | inr none ↦ record {
            kind = not_continuation (kind_of fields) kind;
            number = no_number (first_value (codes "WARC-Segment-Number") fields) (not_numbered fields none);
          }
        ]
      ]
    ]

-- ---- the digests

segment_wanted : (given : List Pair) (uuid : List ℕ) (part : SegmentPart) (block : List ℕ) → part.digest ≡ sha1 block
    → digest_wanted (segment_fields given uuid part) ≡ Sha1 (sha1 block)
segment_wanted given uuid part block digest = by_number (part.number == 1)
  where
    by_number : (b : Bool)
        → digest_wanted (if b then first_fields given part else next_fields given uuid part) ≡ Sha1 (sha1 block)
    by_number true = first_wanted given part block digest
    by_number false = next_wanted given uuid part part.total block refl digest

segment_digest : (r : Record) (uuid : List ℕ) (n at : ℕ) → has_bad_digest (segment_of r uuid n at) ≡ false
segment_digest r uuid n at =
    let piece = piece_at n r.block at in
    ap (λ w. is_bad (verdict_of w piece))
    (segment_wanted r.fields uuid (part_of n (length r.block) piece at) piece refl)
    ∙ own_is_good piece

no_bad_digest : (r : Record) (uuid : List ℕ) (n : ℕ) (ats : List ℕ) → NoBadDigest (map (segment_of r uuid n) ats)
no_bad_digest r uuid n [] = tt
no_bad_digest r uuid n (at ∷ ats) = (segment_digest r uuid n at, no_bad_digest r uuid n ats)

-- ---- the record alone

alone : (r : Record) → first_value (codes "WARC-Segment-Number") r.fields ≡ None → JoinsTo r.block (r ∷ [])
alone r none =
    let all = map read_of (r ∷ []) in
    let first = read_of r in
    let number : segment_number r.fields ≡ Absent = rw none refl in
    ap (λ k. blocks_of (with_members all first
    (joined k (length r.block) (series_of first.head.id (map piece_read all))))) number
    ∙ ap Ok (append-nil r.block)

-- ---- the segments

total_small : (b : Bool) (len m : ℕ) → (if b then Some len else None) ≡ Some m → len ≤ 2 ^ 48 → m ≤ 2 ^ 48
total_small true len m is small = let same : len ≡ m = cc in omega (arith, same, small)
total_small false len m is small = absurd (cc)

-- the segment at a place is a member of the first one's series
is_member : (r : Record) (uuid : List ℕ) (n k : ℕ) (text id : List ℕ)
    → first_value (codes "WARC-Record-ID") r.fields ≡ Some text
    → id_key text ≡ Some id → 1 ≤ k → k + 1 ≤ 2 ^ 48 → length r.block ≤ 2 ^ 48
    → member_of (Some id) (k, piece_read (read_of (segment_of r uuid n k)))
    ≡ Some (member (total_at n (length r.block)) (size_in (λ at. read_of (segment_of r uuid n at))) k)
is_member r uuid n k text id is_present reads further small short =
    let part = part_of n (length r.block) (piece_at n r.block k) k in
    let test : (k + 1 == 1) ≡ false = grind (arith, nat_tests) in
    let fields : segment_fields r.fields uuid part ≡ next_fields r.fields uuid part =
    ap (λ (b : Bool). if b then first_fields r.fields part else next_fields r.fields uuid part) test in
    member_by k (length (piece_at n r.block k)) (k + 1) id (total_at n (length r.block) k)
    (piece_read (read_of (segment_of r uuid n k)))
    (ap kind_of fields ∙ next_kind r.fields uuid part)
    (ap segment_number fields ∙ next_number r.fields uuid part small)
    (ap (key_in (codes "WARC-Segment-Origin-ID")) fields ∙ next_origin r.fields uuid part text id is_present reads)
    (ap (number_in (codes "WARC-Segment-Total-Length")) fields
    ∙ next_total r.fields uuid part (total_at n (length r.block) k) refl
    (λ m is. total_small (k + 1 == segment_count n (length r.block)) (length r.block) m is short))
    refl
    (omega (arith, further))

mapped_twice : (f : ℕ → Record) (a c : ℕ)
    → map read_of (map f (range_with_len a c)) ≡ map (λ k. read_of (f k)) (range_with_len a c)
mapped_twice f a zero = refl
mapped_twice f a (suc c) = ap (λ l. read_of (f a) ∷ l) (mapped_twice f (a + 1) c)

not_last : (k count : ℕ) → k + 1 < count → (k + 1 == count) ≡ false
not_last k count below = grind (arith, nat_tests)

cut_in : (r : Record) (uuid : List ℕ) (n c : ℕ) (text id : List ℕ) → MaySplit r.fields
    → first_value (codes "WARC-Record-ID") r.fields ≡ Some text
    → id_key text ≡ Some id → segment_count n (length r.block) ≡ suc (suc c) → suc (suc c) ≤ 2 ^ 48 → length r.block ≤ 2 ^ 48
    → length r.block ≤ segment_count n (length r.block) * n
    → JoinsTo r.block (map (segment_of r uuid n) (range_with_len 0 (suc (suc c))))
cut_in r uuid n c text id may is_present reads count few short enough =
    let f = segment_of r uuid n in
    let q : ℕ → ReadRecord = λ k. read_of (f k) in
    let len = length r.block in
    let part = part_of n len (piece_at n r.block 0) 0 in
    let size : ℕ → ℕ = λ k. length (piece_at n r.block k) in
    let end : segment_count n len ≡ 0 + suc (suc c) = omega (arith, count) in
    let none : 0 * n ≡ 0 = omega arith in
    let all : drop (0 * n) r.block ≡ r.block = ap (λ k. drop k r.block) none in
    let last : c + 1 + 1 ≡ segment_count n len = omega (arith, count) in
    let sum_is : len ≡ size 0 + sum_by size (range_with_len 1 (suc c)) =
    sym (sym (sum_by-cons size 0 (range_with_len 1 (suc c)))
    ∙ (sizes_joined n r.block 0 (suc (suc c)) (segment_count n len) end enough ∙ ap length all)) in
    ap (λ l. joined_block l (q 0)) (mapped_twice f 0 (suc (suc c)))
    ∙ (joined_is q id (total_at n len) c len
    (first_number r.fields part may.number)
    (ap (option_and_then id_key) (first_id r.fields part ∙ is_present) ∙ reads)
    (ap is_continuation (first_kind r.fields part) ∙ may.kind)
    (λ k from below. is_member r uuid n k text id is_present reads from (omega (arith, below, few)) short)
    (ap (λ (b : Bool). if b then Some len else None) (eq-eqb (c + 1 + 1) (segment_count n len) last))
    (λ k below. ap (λ (b : Bool). if b then Some len else None)
    (not_last k (segment_count n len) (omega (arith, below, count))))
    sum_is
    ∙ ap Ok (pieces_joined n r.block 0 (suc (suc c)) (segment_count n len) end enough ∙ all))

cut_joins : (r : Record) (n : ℕ) (uuid : List ℕ) → IsGood r → splittable r.fields n ≡ Ok uuid
    → nat_le (length r.block) n ≡ false
    → JoinsTo r.block (segments_of r uuid n)
cut_joins r n uuid good head long =
    let len = length r.block in
    let id_is = good.head.id_is in
    let key = key_of (bare_text id_is.value) in
    let reads : id_key id_is.value ≡ Some key = ap (λ (b : Bool). if b then Some key else None) id_is.reads in
    let some : 0 < n = ltb-true 0 n (splittable_size r.fields n uuid head) in
    let past : n < len = grind (arith, nat_tests) in
    let small : len ≤ max_block = framed_block r good.framed in
    let two = count_two n len some past in
    let few = count_small n len some (omega (arith, past)) in
    let c = segment_count n len - 2 in
    let count : segment_count n len ≡ suc (suc c) = omega (arith, two) in
    subst (λ m. JoinsTo r.block (map (segment_of r uuid n) (range_with_len 0 m))) (sym count)
    (cut_in r uuid n c id_is.value key (may_split r.fields n uuid head) id_is.is_present reads count
    (omega (arith, few, small, two)) (omega (arith, small)) (count_enough n len some))

-- ---- all of it

pub split_joins : SplitJoins
split_joins r n records good is = by_head (splittable r.fields n) refl
  where
    fails : (fault : SplitFault) → split_of r n ≡ Err fault → ⊥
    fails fault e = both fault (sym e ∙ is)
      where
        both : (fault : SplitFault) → ◌≡◌ {A = Result (List Record) SplitFault} (Err fault) (Ok records) → ⊥
        both fault e = cc

    same : (others : List Record) → split_of r n ≡ Ok others → others ≡ records
    same others e = let both : ◌≡◌ {A = Result (List Record) SplitFault} (Ok others) (Ok records) = sym e ∙ is in cc

    by_head : (head : Result (List ℕ) SplitFault) → splittable r.fields n ≡ head
        → JoinsTo r.block records × NoBadDigest records
    by_head (Err fault) head = absurd (fails fault (refused_by_head r n fault head))
    by_head (Ok uuid) head = elim (cases_Bool (has_bad_digest r)) [
      | inl bad ↦ absurd (fails BadDigest (refused_by_digest r n uuid head bad))
      | inr digest ↦ elim (cases_Bool (nat_le (length r.block) n)) [
        | inl short ↦
            subst (λ l. JoinsTo r.block l × NoBadDigest l) (same (r ∷ []) (not_split r n uuid head digest short))
            (alone r (may_split r.fields n uuid head).number, (digest, tt))
        | inr long ↦ elim (cases_Bool (list_all has_room (segments_of r uuid n))) [
          | inr full ↦ absurd (fails TooLong (no_room r n uuid head digest long full))
          | inl room ↦
              subst (λ l. JoinsTo r.block l × NoBadDigest l)
              (same (segments_of r uuid n) (all_split r n uuid head digest long room)) (
                cut_joins r n uuid good head long,
                no_bad_digest r uuid n
                    (range_with_len 0 (segment_count n (length r.block))),
              )
        ]
      ]
    ]

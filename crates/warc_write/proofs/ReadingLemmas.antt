-- What the heads of segments say.
use Rattle.std.proofs.Common.{◌≡◌, inl, inr, ℕ, ◌^◌, ◌≤◌, ◌==◌, nat_le, Bool, true, false, ◌&&◌, List, [], ◌∷◌, ◌++◌}
use Rattle.std.proofs.Common.{length}
use Rattle.std.proofs.Common.{codes, decimal, Option, Some, None, refl, sym, ap, ◌∙◌, arith, if◌then◌else◌}
use Rattle.std.specs.Option.{option_map_or}
use Rattle.std.specs.Str.{bytes_eq}
use Rattle.std.proofs.lemmas.Bool.{cases_Bool}
use Rattle.std.proofs.lemmas.Bool.Decides.{nat_tests}
use Rattle.std.proofs.lemmas.Fmt.{decimal_nonempty}
use Rattle.std.proofs.lemmas.Slice.Eq.{bytes_eq-Decides}
use Rattle.sha1.specs.Sha1.{sha1}
use Rattle.warc_field.specs.Text.{is_blank, same, trimmed}
use Rattle.warc_field.specs.Area.{Pair, first_value}
use Rattle.warc_field.specs.Decimal.{decimal_of}
use Rattle.warc_value.specs.Base32.{base32_of}
use Rattle.warc_value.specs.Digests.{verdict_of, wanted_digest}
use Rattle.warc_value.specs.declared.hash.Wanted.TheVariants.{Sha1, Unchecked}
use Rattle.warc_value.proofs.LawLemmas.{written_digest_is_wanted}
use Rattle.warc_record.specs.declared.types.Kind.TheVariants.{Continuation}
use Rattle.warc_record.specs.declared.readings.SegmentNumber.TheVariants.{Number}
use Rattle.warc_record.specs.Ids.{bare_text, id_key, is_bare_id}
use Rattle.warc_record.specs.Kinds.{is_continuation}
use Rattle.warc_record.specs.Readings.{digest_wanted, key_in, kind_of, number_in}
use Rattle.warc_record.specs.Readings.{segment_number, unless_empty}
use Rattle.warc_record.specs.Texts.{is_same_text}
use Rattle.warc_segment.specs.Series.{Piece, member_of, numbered}
use Rattle.warc_write.specs.declared.segments.SegmentPart.{SegmentPart}
use Rattle.warc_value.specs.Digests.{is_bad}
use Rattle.warc_write.specs.Splitting.{first_fields, kept, next_fields}
use Rattle.warc_write.specs.Written.{digest_text}
use Rattle.warc_write.proofs.KeptLemmas.{first_after, first_hit, first_miss, kept_first, no_digest_kept}
use Rattle.warc_write.proofs.TextLemmas.{decimal_is_read, sha1_fits, sha1_len}

-- ---- texts that are there

pub decimal_there : (n : ℕ) → n ≤ 2 ^ 48 → unless_empty (decimal n) ≡ Some (decimal n)
decimal_there n small =
    let some = decimal_nonempty n (omega (arith, small)) in
    let there : (length (decimal n) == 0) ≡ false = grind (arith, nat_tests) in
    rw there refl

pub text_there : (b : ℕ) (text : List ℕ) → unless_empty (b ∷ text) ≡ Some (b ∷ text)
text_there b text = let there : (length (b ∷ text) == 0) ≡ false = grind (arith, nat_tests) in rw there refl

no_id : (id : List ℕ) → id_key [] ≡ Some id → ⊥
unfolding bare_text trimmed is_blank is_bare_id
no_id id reads = never id reads
  where
    never : (id : List ℕ) → None ≡ Some id → ⊥
    never id e = cc

pub id_there : (text id : List ℕ) → id_key text ≡ Some id → unless_empty text ≡ Some text
id_there [] id reads = absurd (no_id id reads)
id_there (b ∷ text) id reads = text_there b text

-- a written digest is wanted
wants : (digest block : List ℕ) → digest ≡ sha1 block
    → option_map_or wanted_digest (unless_empty (digest_text digest)) Unchecked ≡ Sha1 (sha1 block)
wants digest block is =
    ap (λ o. option_map_or wanted_digest o Unchecked) (text_there 115 (codes "ha1:" ++ base32_of digest))
    ∙ (ap (λ d. wanted_digest (digest_text d)) is
    ∙ written_digest_is_wanted (sha1 block) (sha1_len block) (sha1_fits block))

-- ---- a further segment

pub next_kind : (given : List Pair) (uuid : List ℕ) (part : SegmentPart) → kind_of (next_fields given uuid part) ≡ Continuation
next_kind given uuid part = refl

pub next_number : (given : List Pair) (uuid : List ℕ) (part : SegmentPart) → part.number ≤ 2 ^ 48
    → segment_number (next_fields given uuid part) ≡ Number part.number
next_number given uuid part small = rw (decimal_there part.number small) (rw (decimal_is_read part.number small) refl)

pub next_origin : (given : List Pair) (uuid : List ℕ) (part : SegmentPart) (text id : List ℕ)
    → first_value (codes "WARC-Record-ID") given ≡ Some text → id_key text ≡ Some id
    → key_in (codes "WARC-Segment-Origin-ID") (next_fields given uuid part) ≡ Some id
next_origin given uuid part text id is_present reads = rw is_present (rw (id_there text id reads) reads)

pub next_total : (given : List Pair) (uuid : List ℕ) (part : SegmentPart) (total : Option ℕ) → part.total ≡ total
    → ((n : ℕ) → total ≡ Some n → n ≤ 2 ^ 48)
    → number_in (codes "WARC-Segment-Total-Length") (next_fields given uuid part) ≡ total
next_total given uuid part None is small = rw is refl
next_total given uuid part (Some n) is small = rw is
    (rw (decimal_there n (small n refl)) (decimal_is_read n (small n refl)))

pub next_wanted : (given : List Pair) (uuid : List ℕ) (part : SegmentPart) (total : Option ℕ) (block : List ℕ)
    → part.total ≡ total
    → part.digest ≡ sha1 block → digest_wanted (next_fields given uuid part) ≡ Sha1 (sha1 block)
next_wanted given uuid part None block is digest =
    rw is (wants part.digest block digest)
next_wanted given uuid part (Some n) block is digest =
    rw is (wants part.digest block digest)

-- ---- the first segment

-- where no field of the name is in front, those after count
past : (name : List ℕ) (fields more : List Pair) → first_value name fields ≡ None
    → first_value name (fields ++ more) ≡ first_value name more
past name [] more none = refl
past name (field ∷ fields) more none = elim (cases_Bool (same field.0 name)) [
  | inl hit ↦ let some = first_hit name field fields hit in absurd (both field.1 (sym some ∙ none))
  | inr miss ↦ first_miss name field (fields ++ more) miss
      ∙ past name fields more (sym (first_miss name field fields miss) ∙ none)
]
  where
    both : (value : List ℕ) → Some value ≡ None → ⊥
    both value e = cc

abbrev following : SegmentPart → List Pair
following part = (codes "WARC-Segment-Number", codes "1") ∷ (codes "WARC-Block-Digest", digest_text part.digest) ∷ []

pub first_kind : (given : List Pair) (part : SegmentPart) → kind_of (first_fields given part) ≡ kind_of given
first_kind given part =
    let type = first_after (codes "WARC-Type") (kept part.len given) (following part) refl
    ∙ kept_first part.len (codes "WARC-Type") given refl refl in
    rw type refl

pub first_id : (given : List Pair) (part : SegmentPart)
    → first_value (codes "WARC-Record-ID") (first_fields given part) ≡ first_value (codes "WARC-Record-ID") given
first_id given part =
    first_after (codes "WARC-Record-ID") (kept part.len given) (following part) refl
    ∙ kept_first part.len (codes "WARC-Record-ID") given refl refl

pub first_number : (given : List Pair) (part : SegmentPart) → first_value (codes "WARC-Segment-Number") given ≡ None
    → segment_number (first_fields given part) ≡ Number 1
unfolding decimal_of
first_number given part none =
    let name = codes "WARC-Segment-Number" in
    let number : first_value name (first_fields given part) ≡ Some (codes "1") =
    past name (kept part.len given) (following part) (kept_first part.len name given refl refl ∙ none) in
    rw number refl

pub first_wanted : (given : List Pair) (part : SegmentPart) (block : List ℕ) → part.digest ≡ sha1 block
    → digest_wanted (first_fields given part) ≡ Sha1 (sha1 block)
first_wanted given part block digest =
    let name = codes "WARC-Block-Digest" in
    let value : first_value name (first_fields given part) ≡ Some (digest_text part.digest) =
    past name (kept part.len given) (following part) (no_digest_kept part.len given) in
    rw value (wants part.digest block digest)

-- ---- the digest of its own block is not bad

pub own_is_good : (block : List ℕ) → is_bad (verdict_of (Sha1 (sha1 block)) block) ≡ false
own_is_good block = rw ((bytes_eq-Decides (sha1 block) (sha1 block)).1 refl) refl

-- ---- a member of the series

pub member_by : (k size number : ℕ) (id : List ℕ) (total : Option ℕ) (piece : Piece) → piece.kind ≡ Continuation
    → piece.segment.number ≡ Number number → piece.segment.origin ≡ Some id → piece.segment.total ≡ total
    → piece.size ≡ size
    → 2 ≤ number → member_of (Some id) (k, piece)
    ≡ Some (record { position = k; number = number; total = total; size = size })
member_by k size number id total piece kind number_is origin total_is size_is two =
    let same_id : bytes_eq id id ≡ true = (bytes_eq-Decides id id).1 refl in
    let from_two : nat_le 2 number ≡ true = grind (arith, nat_tests) in
    let in_series : (is_continuation piece.kind && is_same_text (Some id) piece.segment.origin)
    ≡ true = rw (kind, origin) same_id in
    ap (λ (b : Bool). if b then numbered k piece piece.segment.number else None) in_series
    ∙ (ap (numbered k piece) number_is
    ∙ (ap (λ (b : Bool). if b then Some
    (record { position = k; number = number; total = piece.segment.total; size = piece.size }) else None) from_two
    ∙ (λ i. Some (record { position = k; number = number; total = total_is i; size = size_is i }))))

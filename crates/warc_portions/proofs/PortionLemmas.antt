-- What is written of a record whose block is among the bytes.
use Rattle.std.proofs.Common.{◌≡◌, ℕ, ◌+◌, ◌-◌, ◌*◌, ◌^◌, ◌<◌, List, ◌++◌, length, take, drop, min, Bool, Some, Result, Ok, Err, refl, sym, ap, ◌∙◌, arith}
use Rattle.std.specs.Prelude.{IfErr, IfOk, MatchResult}
use Rattle.std.specs.List.{slice_get}
use Rattle.sha1.specs.Sha1.{sha1}
use Rattle.warc_field.specs.Area.{Pair, canonical_fields}
use Rattle.warc_field.specs.Lines.{crlf}
use Rattle.warc_frame.specs.Effects.{HasRange}
use Rattle.warc_frame.specs.Record.{Record, head_text}
use Rattle.warc_frame.specs.Spelling.{canonical}
use Rattle.warc_frame.specs.declared.version.Version.{Version}
use Rattle.warc_frame.specs.declared.version.Version.TheVariants.{V1_1}
use Rattle.warc_portions.specs.Portions.{IsInPlace, IsPortionOf, IsRecordPlace}
use Rattle.warc_portions.specs.declared.portion.Portion.{Portion}
use Rattle.warc_reading.specs.Archive.{IsArchiveOf}
use Rattle.warc_reading.specs.Row.{Placed, Row}
use Rattle.warc_frame.specs.declared.fault.EarlyFault.{EarlyFault}
use Rattle.warc_frame.specs.declared.fault.EarlyFault.TheVariants.{Memory}
use Rattle.warc_rewrite.specs.Forms.{text_as}
use Rattle.warc_rewrite.specs.declared.forms.Form.TheVariants.{Converted}
use Rattle.warc_record.specs.Readings.{digest_wanted}
use Rattle.warc_rewrite.specs.Segments.{IsCuttable}
use Rattle.warc_value.specs.Digests.{is_bad, verdict_of}
use Rattle.warc_rewrite.proofs.SelectLemmas.{has_bytes}
use Rattle.warc_rewrite.proofs.SplitLemmas.{piece_among}
use Rattle.warc_write.specs.Conversion.{converted, converted_fields}
use Rattle.warc_write.specs.Cutting.{part_with}
use Rattle.warc_write.specs.Splitting.{part_of, piece_at, segment_fields, segment_of}
use Rattle.warc_write.specs.declared.segments.SegmentPart.{SegmentPart}

canonical_is : (r : Record) → canonical r ≡ head_text r.version (canonical_fields r.fields) ++ r.block ++ crlf ++ crlf
unfolding canonical
canonical_is r = refl

-- a record of this head and this block
pub portion_text : {A : Type 0} (portion : Portion A) (bytes : List ℕ) (r : Record) (version : Version) (fields : List Pair)
    → portion.head.items ≡ head_text version (canonical_fields fields) → version ≡ r.version → fields ≡ r.fields
    → r.block ≡ take portion.block_len (drop portion.block_start bytes)
    → HasRange portion.block_start portion.block_len bytes → IsPortionOf portion bytes (canonical r)
portion_text {A} portion bytes r version fields head version_is fields_are block range =
    let head_is : portion.head.items ≡ head_text r.version (canonical_fields r.fields) =
    head ∙ ap (λ v. head_text v (canonical_fields fields)) version_is ∙ ap (λ f. head_text r.version (canonical_fields f)) fields_are in
    record {
      range = range;
      is = canonical_is r ∙ ap (λ b. head_text r.version (canonical_fields r.fields) ++ b ++ crlf ++ crlf) block
          ∙ ap (λ h. h ++ take portion.block_len (drop portion.block_start bytes) ++ crlf ++ crlf) (sym head_is);
    }

-- the block of a row's record, at the row's place
block_at : (bytes : List ℕ) (row : Row) (p : Placed) → IsInPlace bytes row p → take row.block_len (drop row.block_start bytes) ≡ p.content.block
block_at bytes row p at =
    ap (λ n. take n (drop row.block_start bytes)) (ap (λ (r : Row). r.block_len) at.row_is)
    ∙ ap (λ n. take (length p.content.block) (drop n bytes)) (ap (λ (r : Row). r.block_start) at.row_is) ∙ at.whole.block

pub len_at : (bytes : List ℕ) (row : Row) (p : Placed) → IsInPlace bytes row p → length p.content.block ≡ row.block_len
len_at bytes row p at = ap (λ (r : Row). r.block_len) (sym at.row_is)

-- a row's record whose block stays as it is
pub copied : {A : Type 0} (portion : Portion A) (bytes : List ℕ) (row : Row) (p : Placed) (version : Version)
    (fields : List Pair) → IsInPlace bytes row p → portion.head.items ≡ head_text version (canonical_fields fields)
    → version ≡ p.content.version → fields ≡ p.content.fields
    → portion.block_start ≡ row.block_start → portion.block_len ≡ row.block_len
    → IsPortionOf portion bytes (canonical p.content)
copied {A} portion bytes row p version fields at head version_is fields_are start len =
    let there : p.content.block ≡ take portion.block_len (drop portion.block_start bytes) =
    sym (block_at bytes row p at) ∙ ap (λ n. take n (drop row.block_start bytes)) (sym len) ∙ ap (λ n. take portion.block_len (drop n bytes)) (sym start) in
    let start_is = ap (λ (r : Row). r.block_start) at.row_is in
    portion_text portion bytes p.content version fields head version_is fields_are there
    (omega (arith, at.whole.range.0, start, start_is, len, len_at bytes row p at), at.whole.range.1)

-- a row's record whose block stays as it is, as a record of WARC 1.1
pub copied_converted : {A : Type 0} (portion : Portion A) (bytes : List ℕ) (row : Row) (p : Placed) (fields : List Pair)
    → IsInPlace bytes row p → portion.head.items ≡ head_text V1_1 (canonical_fields fields)
    → fields ≡ converted_fields p.content.fields
    → portion.block_start ≡ row.block_start → portion.block_len ≡ row.block_len
    → IsPortionOf portion bytes (text_as Converted p.content)
unfolding converted
copied_converted {A} portion bytes row p fields at head fields_are start len =
    let there : p.content.block ≡ take portion.block_len (drop portion.block_start bytes) =
    sym (block_at bytes row p at) ∙ ap (λ n. take n (drop row.block_start bytes)) (sym len) ∙ ap (λ n. take portion.block_len (drop n bytes)) (sym start) in
    let start_is = ap (λ (r : Row). r.block_start) at.row_is in
    portion_text portion bytes (converted p.content) V1_1 fields head refl fields_are there
    (omega (arith, at.whole.range.0, start, start_is, len, len_at bytes row p at), at.whole.range.1)

-- a segment of it
pub segment_is : {A : Type 0} (portion : Portion A) (bytes : List ℕ) (row : Row) (p : Placed) (version : Version)
    (given fields : List Pair) (uuid : List ℕ) (size at : ℕ) (part : SegmentPart) (digest : List ℕ) → IsInPlace bytes row p
    → at * size < row.block_len → portion.head.items ≡ head_text version (canonical_fields fields)
    → version ≡ p.content.version → given ≡ p.content.fields → fields ≡ segment_fields given uuid part
    → portion.block_start ≡ row.block_start + at * size → portion.block_len ≡ min size (row.block_len - at * size)
    → digest ≡ sha1 (take portion.block_len (drop portion.block_start bytes))
    → ((block : List ℕ) → length block ≡ row.block_len → part ≡ part_with size row.block_len (piece_at size block at) at digest)
    → IsPortionOf portion bytes (canonical (segment_of p.content uuid size at))
segment_is {A} portion bytes row p version given fields uuid size at part digest is inside head version_is given_is fields_are start_is len_is digest_is part_is =
    let r = p.content in
    let gone = at * size in
    let len : length r.block ≡ row.block_len = len_at bytes row p is in
    let piece : piece_at size r.block at ≡ take portion.block_len (drop portion.block_start bytes) =
    ap (λ b. piece_at size b at) (sym (block_at bytes row p is)) ∙ piece_among bytes row.block_start row.block_len size gone inside
    ∙ ap (λ k. take k (drop (row.block_start + gone) bytes)) (sym len_is) ∙ ap (λ k. take portion.block_len (drop k bytes)) (sym start_is) in
    let part_same : part ≡ part_of size (length r.block) (piece_at size r.block at) at =
    part_is r.block len ∙ ap (λ d. part_with size row.block_len (piece_at size r.block at) at d) (digest_is ∙ ap sha1 (sym piece))
    ∙ ap (λ l. part_of size l (piece_at size r.block at) at) (sym len) in
    let fields_same : fields ≡ segment_fields r.fields uuid (part_of size (length r.block) (piece_at size r.block at) at) =
    fields_are ∙ ap (λ f. segment_fields f uuid part) given_is ∙ ap (segment_fields r.fields uuid) part_same in
    let row_start = ap (λ (r : Row). r.block_start) is.row_is in
    portion_text portion bytes (segment_of r uuid size at) version fields head version_is fields_same piece
    (omega (arith, is.whole.range.0, start_is, len_is, inside, row_start, len), is.whole.range.1)

-- how the record is cut
pub cuttable : (bytes : List ℕ) (row : Row) (p : Placed) (version : Version) (fields : List Pair) (len size : ℕ) (bad : Bool) (block : List ℕ)
    → IsInPlace bytes row p → version ≡ p.content.version → fields ≡ p.content.fields → len ≡ row.block_len
    → bad ≡ is_bad (verdict_of (digest_wanted fields) block) → block ≡ take row.block_len (drop row.block_start bytes)
    → IsCuttable version fields len size bad p.content
cuttable bytes row p version fields len size bad block at version_is fields_are len_is bad_is block_is = record {
  version_is = sym version_is;
  fields_are = sym fields_are;
  len_is = len_at bytes row p at ∙ sym len_is;
  digest_is = λ lt.
      sym (bad_is ∙ ap (λ b. is_bad (verdict_of (digest_wanted fields) b)) (block_is ∙ block_at bytes row p at)
      ∙ ap (λ f. is_bad (verdict_of (digest_wanted f) p.content.block)) fields_are);
}

-- ---- what a call gives

abbrev pub IsOfHead : {A : Type 0} → Result (Portion A) EarlyFault → Version → List Pair → ℕ → ℕ → Type 0
IsOfHead result version fields start len =
    IfOk result (λ portion. portion.head.items ≡ head_text version (canonical_fields fields))
    × IfOk result (λ portion. portion.block_start ≡ start) × IfOk result (λ portion. portion.block_len ≡ len)
    × IfErr result (λ fault. fault ≡ Memory)

abbrev pub GivesText : {A : Type 0} → Result (Portion A) EarlyFault → List ℕ → List ℕ → Type 0
GivesText result bytes text = MatchResult result (λ portion. IsPortionOf portion bytes text) (λ fault. fault ≡ Memory)

pub gives_copied : {A : Type 0} (result : Result (Portion A) EarlyFault) (version : Version) (fields : List Pair) (start len : ℕ)
    → IsOfHead result version fields start len → (bytes : List ℕ) (row : Row) (p : Placed) → IsInPlace bytes row p → version ≡ p.content.version
    → fields ≡ p.content.fields → start ≡ row.block_start → len ≡ row.block_len → GivesText result bytes (canonical p.content)
gives_copied {A} (Ok portion) version fields start len of_head bytes row p at version_is fields_are start_is len_is =
    copied portion bytes row p version fields at of_head.0 version_is fields_are (of_head.1 ∙ start_is) (of_head.2 ∙ len_is)
gives_copied {A} (Err fault) version fields start len of_head bytes row p at version_is fields_are start_is len_is = of_head.3

pub gives_converted : {A : Type 0} (result : Result (Portion A) EarlyFault) (fields : List Pair) (start len : ℕ)
    → IsOfHead result V1_1 fields start len → (bytes : List ℕ) (row : Row) (p : Placed) → IsInPlace bytes row p
    → fields ≡ converted_fields p.content.fields → start ≡ row.block_start → len ≡ row.block_len
    → GivesText result bytes (text_as Converted p.content)
gives_converted {A} (Ok portion) fields start len of_head bytes row p at fields_are start_is len_is =
    copied_converted portion bytes row p fields at of_head.0 fields_are (of_head.1 ∙ start_is) (of_head.2 ∙ len_is)
gives_converted {A} (Err fault) fields start len of_head bytes row p at fields_are start_is len_is = of_head.3

pub gives_segment : {A : Type 0} (result : Result (Portion A) EarlyFault) (version : Version) (fields : List Pair) (start len : ℕ)
    → IsOfHead result version fields start len → (bytes : List ℕ) (row : Row) (p : Placed) (given : List Pair) (uuid : List ℕ)
    (size at : ℕ) (part : SegmentPart) (digest : List ℕ) → IsInPlace bytes row p → at * size < row.block_len → version ≡ p.content.version
    → given ≡ p.content.fields → fields ≡ segment_fields given uuid part → start ≡ row.block_start + at * size
    → len ≡ min size (row.block_len - at * size) → digest ≡ sha1 (take len (drop start bytes))
    → ((block : List ℕ) → length block ≡ row.block_len → part ≡ part_with size row.block_len (piece_at size block at) at digest)
    → IfOk result (λ portion. IsPortionOf portion bytes (canonical (segment_of p.content uuid size at)))
gives_segment {A} (Ok portion) version fields start len of_head bytes row p given uuid size at part digest is inside version_is given_is
    fields_are start_is len_is digest_is part_is =
    let same : digest ≡ sha1 (take portion.block_len (drop portion.block_start bytes)) =
    digest_is ∙ ap (λ n. sha1 (take n (drop start bytes))) (sym of_head.2) ∙ ap (λ n. sha1 (take portion.block_len (drop n bytes))) (sym of_head.1) in
    segment_is portion bytes row p version given fields uuid size at part digest is inside of_head.0 version_is given_is fields_are
    (of_head.1 ∙ start_is) (of_head.2 ∙ len_is) same part_is
gives_segment {A} (Err fault) version fields start len of_head bytes row p given uuid size at part digest is inside version_is given_is
    fields_are start_is len_is digest_is part_is = tt

-- ---- the bytes of a record

pub place_is : (bytes : List ℕ) (rows : List Row) (position : ℕ) (row : Row) (offset len : ℕ) → IsArchiveOf bytes rows
    → slice_get rows position ≡ Some row → offset ≡ row.offset
    → (row.block_start + row.block_len + 4 < 2 ^ 64 → len ≡ row.block_start + row.block_len + 4 - row.offset)
    → IsRecordPlace bytes row offset len
place_is bytes rows position row offset len is at offset_is len_is =
    let has = has_bytes bytes rows is position row at in
    let exact : len ≡ row.block_start + row.block_len + 4 - row.offset = len_is (omega (arith, has.0, has.1)) in
    rw (offset_is, exact) (record { range = has; is = refl })

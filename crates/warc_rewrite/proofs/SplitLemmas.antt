-- Records that are split into segments, whose pieces are copied from a source.
use Rattle.std.proofs.Common.{◌≡◌, ℕ, ◌+◌, ◌-◌, ◌*◌, ◌<◌, ◌≤◌, List, [], ◌∷◌, ◌++◌, length, map, take, drop, min, Bool, true, false, not, inl, inr, Option, None, Some, IfSome, Result, Ok, Err, refl, sym, ap, ◌∙◌, arith}
use Rattle.std.proofs.lemmas.Grind.{flat_map-append}
use Rattle.std.proofs.lemmas.List.{append-nil, drop-drop, drop-take, length-drop, length-take, length-take-le, take-append-drop, take-take, take_min}
use Rattle.std.proofs.lemmas.List.FromFn.{map-range_with_len_more, take-map-range_with_len}
use Rattle.std.proofs.lemmas.Bool.{cases_lt, le-leb}
use Rattle.std.specs.List.{range_with_len}
use Rattle.sha1.specs.Sha1.{sha1}
use Rattle.warc_field.specs.Area.{Pair, canonical_fields}
use Rattle.warc_field.specs.Lines.{crlf}
use Rattle.warc_frame.specs.Record.{Record, head_text}
use Rattle.warc_frame.specs.Spelling.{canonical}
use Rattle.warc_write.specs.Cutting.{HasParts, or_whole, part_with, records_by, split_or_whole}
use Rattle.warc_write.specs.Rendering.{canonical_texts}
use Rattle.warc_frame.specs.Reading.{◌>>=◌}
use Rattle.warc_write.specs.Refusals.{checks}
use Rattle.warc_write.specs.Splitting.{cut_of, part_of, piece_at, segment_count, segment_fields, segment_of, split_of, splittable}
use Rattle.warc_write.specs.declared.segments.SplitFault.{SplitFault}
use Rattle.warc_write.specs.declared.segments.SplitFault.TheVariants.{BadDigest}
use Rattle.warc_write.specs.declared.segments.SegmentPart.{SegmentPart}
use Rattle.warc_frame.specs.declared.front.Head.{Head}
use Rattle.warc_frame.specs.declared.version.Version.{Version}
use Rattle.warc_value.specs.Digests.{is_bad, verdict_of}
use Rattle.warc_record.specs.Blocks.{has_bad_digest}
use Rattle.warc_record.specs.Readings.{digest_wanted}
use Rattle.warc_reading.specs.Row.{Placed, Row, row_of}
use Rattle.warc_rewrite.specs.Copied.{HasWhole, IsCopy, IsTextWith}
use Rattle.warc_frame.specs.Effects.{ReadsOnly}
use Rattle.warc_frame.specs.Seen.{IsInRange, SeenSource}
use Rattle.warc_rewrite.specs.Forms.{split_text}
use Rattle.warc_rewrite.specs.Segments.{AreSegmentTexts, IsCutOf, IsCuttable, IsSegmentText}
use Rattle.warc_rewrite.specs.declared.forms.Copied.{Copied}
use Rattle.warc_rewrite.specs.declared.segments.Cut.{Cut}
use Rattle.warc_reading.specs.Rereading.{IsHeadReadOf}
use Rattle.warc_rewrite.proofs.EmitLemmas.{Begins, InTurn}
use Rattle.warc_frame.proofs.EffectLemmas.{reads_within}
use Rattle.warc_rewrite.proofs.WholeLemmas.{copy_of}

-- ---- a segment

least : (n m : ℕ) (xs : List ℕ) → take n (take m xs) ≡ take (min n m) xs
least n m xs =
    let within : min n (length (take m xs)) ≤ m = omega (arith, length-take m xs) in
    let same : min n (length (take m xs)) ≡ min (min n m) (length xs) = omega (arith, length-take m xs) in
    sym (take_min n (take m xs)) ∙ take-take (min n (length (take m xs))) m xs within ∙ ap (λ k. take k xs) same ∙ take_min (min n m) xs

-- a piece of a block among the bytes
pub piece_among : (bytes : List ℕ) (start len n gone : ℕ) → gone < len
    → take n (drop gone (take len (drop start bytes))) ≡ take (min n (len - gone)) (drop (start + gone) bytes)
piece_among bytes start len n gone inside =
    let whole : gone + (len - gone) ≡ len = omega (arith, inside) in
    let rest : drop gone (take len (drop start bytes)) ≡ take (len - gone) (drop (start + gone) bytes) =
    ap (λ k. drop gone (take k (drop start bytes))) (sym whole) ∙ drop-take gone (len - gone) (drop start bytes)
    ∙ ap (take (len - gone)) (drop-drop gone start bytes) in
    ap (take n) rest ∙ least n (len - gone) (drop (start + gone) bytes)

same_text : (v w : Version) (f g : List Pair) (b d : List ℕ) → v ≡ w → f ≡ g → b ≡ d
    → head_text v (canonical_fields f) ++ b ++ crlf ++ crlf ≡ head_text w (canonical_fields g) ++ d ++ crlf ++ crlf
same_text v w f g b d version fields block = rw (version, fields, block) refl

canonical_is : (r : Record) → canonical r ≡ head_text r.version (canonical_fields r.fields) ++ r.block ++ crlf ++ crlf
unfolding canonical
canonical_is r = refl

block_len : {A : Type 0} (cut : Cut A) (bytes : List ℕ) (r : Record) → IsCutOf cut bytes r → length r.block ≡ cut.block_len
block_len {A} cut bytes r is =
    ap length (sym is.block) ∙ length-take-le cut.block_len (drop cut.block_start bytes) (omega (arith, length-drop cut.block_start bytes, is.range.0))

-- the copy that is written of a segment
pub segment_copy : {A : Type 0} (cut : Cut A) (copy : Copied A) (part : SegmentPart) (digest : List ℕ) (at : ℕ) (bytes text : List ℕ) → at * cut.size < cut.block_len
    → copy.version ≡ cut.version → copy.fields ≡ segment_fields cut.fields cut.uuid part → copy.block_start ≡ cut.block_start + at * cut.size
    → copy.block_len ≡ min cut.size (cut.block_len - at * cut.size) → digest ≡ sha1 (take copy.block_len (drop copy.block_start bytes))
    → ((block : List ℕ) → length block ≡ cut.block_len → part ≡ part_with cut.size cut.block_len (piece_at cut.size block at) at digest)
    → IsSegmentText cut at bytes text → IsCopy copy bytes text
segment_copy {A} cut copy part digest at bytes text inside version_is fields_are start_is len_is digest_is part_is (r, is, text_is) =
    let gone = at * cut.size in
    let len : length r.block ≡ cut.block_len = block_len cut bytes r is in
    let piece : piece_at cut.size r.block at ≡ take copy.block_len (drop copy.block_start bytes) =
    ap (λ b. piece_at cut.size b at) (sym is.block) ∙ piece_among bytes cut.block_start cut.block_len cut.size gone inside
    ∙ ap (λ k. take k (drop (cut.block_start + gone) bytes)) (sym len_is) ∙ ap (λ k. take copy.block_len (drop k bytes)) (sym start_is) in
    let part_same : part ≡ part_of cut.size (length r.block) (piece_at cut.size r.block at) at =
    part_is r.block len ∙ ap (λ d. part_with cut.size cut.block_len (piece_at cut.size r.block at) at d) (digest_is ∙ ap sha1 (sym piece))
    ∙ ap (λ l. part_of cut.size l (piece_at cut.size r.block at) at) (sym len) in
    let fields : copy.fields ≡ segment_fields r.fields cut.uuid (part_of cut.size (length r.block) (piece_at cut.size r.block at) at) =
    fields_are ∙ ap (λ f. segment_fields f cut.uuid part) is.fields ∙ ap (segment_fields r.fields cut.uuid) part_same in
    record {
      range = (omega (arith, is.range.0, start_is, len_is, inside), is.range.1);
      is = text_is ∙ canonical_is (segment_of r cut.uuid cut.size at) ∙ same_text _ _ _ _ _ _ (sym is.version ∙ sym version_is) (sym fields) piece;
    }

-- ---- segments, one after another

-- the first of them, and one more
pub texts_more : (f : ℕ → Record) (n : ℕ)
    → canonical_texts (map f (range_with_len 0 (n + 1))) ≡ canonical_texts (map f (range_with_len 0 n)) ++ canonical (f n)
texts_more f n = ap canonical_texts (map-range_with_len_more f 0 n n (omega arith)) ∙ flat_map-append canonical (map f (range_with_len 0 n)) (f n ∷ [])
    ∙ ap (λ l. canonical_texts (map f (range_with_len 0 n)) ++ l) (append-nil (canonical (f n)))

-- the first of them, and the others
texts_begin : (f : ℕ → Record) (n count : ℕ) → n ≤ count
    → canonical_texts (map f (range_with_len 0 count)) ≡ canonical_texts (map f (range_with_len 0 n)) ++ canonical_texts (drop n (map f (range_with_len 0 count)))
texts_begin f n count within =
    let all = map f (range_with_len 0 count) in
    ap canonical_texts (sym (take-append-drop n all)) ∙ flat_map-append canonical (take n all) (drop n all)
    ∙ ap (λ l. canonical_texts l ++ canonical_texts (drop n all)) (take-map-range_with_len f 0 count n within)

pub segment_more : {A : Type 0} (cut : Cut A) (at : ℕ) (bytes text : List ℕ) → AreSegmentTexts cut (at + 1) bytes text
    → InTurn (AreSegmentTexts cut at) (IsSegmentText cut at) bytes text
segment_more {A} cut at bytes text (r, is, text_is) =
    let f = segment_of r cut.uuid cut.size in
    (canonical_texts (map f (range_with_len 0 at)), canonical (f at), text_is ∙ texts_more f at, (r, is, refl), (r, is, refl))

pub segments_begin : {A : Type 0} (cut : Cut A) (n count : ℕ) (bytes text : List ℕ) → n ≤ count → AreSegmentTexts cut count bytes text
    → Begins (AreSegmentTexts cut n) bytes text
segments_begin {A} cut n count bytes text within (r, is, text_is) =
    let f = segment_of r cut.uuid cut.size in
    (canonical_texts (map f (range_with_len 0 n)), canonical_texts (drop n (map f (range_with_len 0 count))), text_is ∙ texts_begin f n count within, (r, is, refl))

pub segments_begin_more : {A : Type 0} (cut : Cut A) (at count : ℕ) (bytes text : List ℕ) → at < count → AreSegmentTexts cut count bytes text
    → Begins (InTurn (AreSegmentTexts cut at) (IsSegmentText cut at)) bytes text
segments_begin_more {A} cut at count bytes text below are =
    let (one, more, same, first) = segments_begin cut (at + 1) count bytes text (omega (arith, below)) are in
    (one, more, same, segment_more cut at bytes one first)

pub segments_none : {A : Type 0} (cut : Cut A) (bytes text : List ℕ) → AreSegmentTexts cut 0 bytes text → text ≡ []
segments_none {A} cut bytes text (r, is, text_is) = text_is

-- ---- a row's record

-- a short record stays whole, whatever its digest
pub short_stays : (r : Record) (n : ℕ) → length r.block ≤ n → split_or_whole n r ≡ r ∷ []
unfolding split_of
short_stays r n short = by_uuid (splittable r.fields n)
  where
    by_test : (uuid : List ℕ) → cut_of r uuid n ≡ Ok (r ∷ [])
    by_test uuid = rw (le-leb (length r.block) n short) refl

    by_digest : (uuid : List ℕ) (fine : Bool)
        → or_whole r (◌>>=◌ (checks fine BadDigest) (λ _. cut_of r uuid n)) ≡ r ∷ []
    by_digest uuid true = ap (or_whole r) (by_test uuid)
    by_digest uuid false = refl

    by_uuid : (o : Result (List ℕ) SplitFault)
        → or_whole r (◌>>=◌ o (λ uuid. ◌>>=◌ (checks (not (has_bad_digest r)) BadDigest) (λ _. cut_of r uuid n))) ≡ r ∷ []
    by_uuid (Ok uuid) = by_digest uuid (not (has_bad_digest r))
    by_uuid (Err fault) = refl

-- it is cut as its head and the verdict on a long block say
pub cut_by : (version : Version) (fields : List Pair) (len size : ℕ) (bad : Bool) (r : Record) (uuid : Option (List ℕ))
    → IsCuttable version fields len size bad r → IfSome uuid (λ _. (0 < size) × (size < len))
    → (HasParts version fields len bad r → split_or_whole size r ≡ records_by r size uuid)
    → split_or_whole size r ≡ records_by r size uuid
cut_by version fields len size bad r uuid is long by = elim (cases_lt size len) [
  | inl lt ↦
      by (record { version_is = is.version_is; fields_are = is.fields_are; len_is = is.len_is; digest_is = is.digest_is lt })
  | inr le ↦ stays uuid long (omega (arith, le, is.len_is))
]
  where
    stays : (o : Option (List ℕ)) → IfSome o (λ _. (0 < size) × (size < len)) → length r.block ≤ size
        → split_or_whole size r ≡ records_by r size o
    stays None low short = short_stays r size short
    stays (Some u) low short = absurd (omega (arith, low.1, short, is.len_is))

-- what is known of the verdict on a row's block
abbrev pub IsJudgedFor : {A : Type 0} → ℕ → Row → Head A → List ℕ → Bool → Type 0
IsJudgedFor size row head bytes bad = size < row.block_len
    → bad ≡ is_bad (verdict_of (digest_wanted head.fields) (take row.block_len (drop row.block_start bytes)))

cuttable : {A : Type 0} (size : ℕ) (row : Row) (head : Head A) (bad : Bool) (bytes : List ℕ) (p : Placed)
    → IsHeadReadOf p.content head → row ≡ row_of p → HasWhole bytes p → IsJudgedFor size row head bytes bad
    → IsCuttable head.version head.fields row.block_len size bad p.content
cuttable {A} size row head bad bytes p is row_is whole judged = record {
  version_is = sym is.version;
  fields_are = sym is.fields;
  len_is = ap (λ (r : Row). r.block_len) (sym row_is);
  digest_is = λ lt.
      let block : take row.block_len (drop row.block_start bytes) ≡ p.content.block =
      ap (λ (r : Row). take r.block_len (drop r.block_start bytes)) row_is ∙ whole.block in
      sym (judged lt ∙ ap (λ b. is_bad (verdict_of (digest_wanted head.fields) b)) block
      ∙ ap (λ f. is_bad (verdict_of (digest_wanted f) p.content.block)) is.fields);
}

-- how records of this head are cut
abbrev pub IsCutBy : {A : Type 0} → ℕ → Row → Head A → Bool → Option (List ℕ) → Type 0
IsCutBy size row head bad uuid =
    (r : Record) → IsCuttable head.version head.fields row.block_len size bad r → split_or_whole size r ≡ records_by r size uuid

-- the segments that are written of it
pub segments_of_row : {A : Type 0} (cut : Cut A) (row : Row) (head : Head A) (bad : Bool) (bytes text : List ℕ) → cut.version ≡ head.version → cut.fields ≡ head.fields
    → cut.block_start ≡ row.block_start → cut.block_len ≡ row.block_len → IsCutBy cut.size row head bad (Some cut.uuid)
    → IsJudgedFor cut.size row head bytes bad
    → IsTextWith (split_text cut.size) row head bytes text → AreSegmentTexts cut (segment_count cut.size cut.block_len) bytes text
segments_of_row {A} cut row head bad bytes text version fields start len by judged (is, of_head) =
    let p = is.placed in
    let start_is : cut.block_start ≡ p.block_start = start ∙ ap (λ (r : Row). r.block_start) is.row_is in
    let len_is : cut.block_len ≡ length p.content.block = len ∙ ap (λ (r : Row). r.block_len) is.row_is in
    let records = by p.content (cuttable cut.size row head bad bytes p of_head is.row_is is.whole judged) in (
      p.content,
      record {
        version = version ∙ of_head.version;
        fields = fields ∙ of_head.fields;
        range = (omega (arith, is.whole.range.0, start_is, len_is), is.whole.range.1);
        block = ap (λ n. take n (drop cut.block_start bytes)) len_is ∙ ap (λ n. take (length p.content.block) (drop n bytes)) start_is ∙ is.whole.block;
      },
      is.is ∙ ap canonical_texts records ∙ ap (λ n. canonical_texts (map (segment_of p.content cut.uuid cut.size) (range_with_len 0 (segment_count cut.size n)))) (sym len_is),
    )

-- the copy that is written of it where it is whole
pub whole_of_row : {A : Type 0} (copy : Copied A) (size : ℕ) (row : Row) (head : Head A) (bad : Bool) (bytes text : List ℕ) → copy.version ≡ head.version
    → copy.fields ≡ head.fields → copy.block_start ≡ row.block_start → copy.block_len ≡ row.block_len → IsCutBy size row head bad None
    → IsJudgedFor size row head bytes bad → IsTextWith (split_text size) row head bytes text → IsCopy copy bytes text
whole_of_row {A} copy size row head bad bytes text version fields start len by judged (is, of_head) =
    let p = is.placed in
    let records = by p.content (cuttable size row head bad bytes p of_head is.row_is is.whole judged) in
    copy_of (split_text size) row copy bytes text is (record {
      start = start ∙ ap (λ (r : Row). r.block_start) is.row_is;
      len = len ∙ ap (λ (r : Row). r.block_len) is.row_is;
      text = same_text _ _ _ _ p.content.block p.content.block (version ∙ of_head.version) (fields ∙ of_head.fields) refl ∙ sym (canonical_is p.content)
          ∙ sym (append-nil (canonical p.content)) ∙ ap canonical_texts (sym records);
    })

-- ---- what is read for them

-- a piece of a block
pub reads_piece : (start len gone n most : ℕ) {old new : SeenSource} → gone + n ≤ len → n ≤ most → ReadsOnly (IsInRange (start + gone) n) n old new
    → ReadsOnly (IsInRange start len) most old new
reads_piece start len gone n most {old} {new} within le has =
    reads_within (λ at in_. (omega (arith, in_.0), omega (arith, in_.1, within))) le has

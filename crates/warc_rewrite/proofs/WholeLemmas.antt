-- The records that bytes spell stand among them whole, and the texts that are written of them.
use Rattle.std.proofs.Common.{◌≡◌, ℕ, ◌+◌, ◌^◌, ◌<◌, ◌≤◌, List, [], ◌∷◌, ◌++◌, length, map, take, drop, None, Some, Result, Ok, append_assoc, length-append, refl, sym, ap, subst, ◌∙◌, arith}
use Rattle.std.proofs.Math.Seq.{drop-append_seam, take-append_seam}
use Rattle.std.proofs.lemmas.List.{append-nil, take-append-drop}
use Rattle.std.specs.List.{AllByRecursion, flat_map, slice_get}
use Rattle.warc_field.specs.Area.{Pair, canonical_fields}
use Rattle.warc_field.specs.Lines.{crlf}
use Rattle.warc_frame.specs.Effects.{HasRange, Sends}
use Rattle.warc_frame.specs.Faults.{AllAccepted}
use Rattle.warc_frame.specs.Reading.{Head}
use Rattle.warc_frame.specs.Record.{Record, head_text}
use Rattle.warc_frame.specs.Spelling.{Spells, canonical}
use Rattle.warc_frame.specs.declared.fault.Fault.{Fault}
use Rattle.warc_frame.specs.declared.version.Version.{Version}
use Rattle.warc_quick.specs.Canonical.{IsCanonicalHead}
use Rattle.warc_reading.specs.Rereading.{IsHeadText}
use Rattle.warc_frame.specs.declared.version.Version.TheVariants.{V1_1}
use Rattle.warc_record.specs.Heads.{head_fault}
use Rattle.warc_write.specs.Conversion.{converted, converted_fields}
use Rattle.warc_reading.specs.Archive.{IsArchiveOf, SpellsFrom, contents}
use Rattle.warc_rewrite.specs.Copied.{AreTextsOf, HasWhole, IsClosedBlock, IsCopiedOf, IsCopy, IsSameText, IsTextOf}
use Rattle.warc_frame.specs.Seen.{Seen, SeenSource}
use Rattle.warc_frame.specs.declared.fault.OutFault.{OutFault}
use Rattle.warc_rewrite.specs.Forms.{IsOutputOf, text_as}
use Rattle.warc_reading.specs.Row.{Placed, Row, row_of}
use Rattle.warc_rewrite.specs.declared.forms.Copied.{Copied}
use Rattle.warc_rewrite.specs.declared.forms.Form.{Form}
use Rattle.warc_rewrite.specs.declared.forms.Form.TheVariants.{Canonical, Converted}
use Rattle.warc_rewrite.proofs.EmitLemmas.{Begins, InTurn}
use Rattle.warc_frame.proofs.EffectLemmas.{fails_more}
use Rattle.warc_reading.proofs.GoodLemmas.{accepted}
use Rattle.warc_reading.proofs.PlaceLemmas.{HeadsAreRead, head_here}
use Rattle.warc_reading.proofs.PlacedLemmas.{take_one}

front_len : (head block : List ℕ) → length (((head ++ block) ++ crlf) ++ crlf) ≡ length head + length block + 4
front_len head block = simp length-append (omega arith)

around : (before head block rest : List ℕ) → before ++ ((((head ++ block) ++ crlf) ++ crlf) ++ rest) ≡ (before ++ head) ++ (block ++ (crlf ++ (crlf ++ rest)))
around before head block rest = simp append_assoc

whole_here : HeadsAreRead → (q : ℕ) (p : Placed) (before front rest : List ℕ) → q ≡ length before → Spells p.content front → p.offset ≡ q
    → p.block_start + length p.content.block + 4 ≡ q + length front → head_fault p.content.fields ≡ None → length (before ++ (front ++ rest)) < 2 ^ 64
    → HasWhole (before ++ (front ++ rest)) p
whole_here law q p before front rest q_is one at start good short =
    let head = head_text p.content.version one.area in
    let block = p.content.block in
    let size : length front ≡ length head + length block + 4 = ap length one.text_is ∙ front_len head block in
    let begins : p.block_start ≡ length (before ++ head) = omega (arith, start, size, q_is, length-append before head) in
    let bytes = before ++ (front ++ rest) in
    let parts : bytes ≡ (before ++ head) ++ (block ++ (crlf ++ (crlf ++ rest))) = ap (λ l. before ++ (l ++ rest)) one.text_is ∙ around before head block rest in
    let following : drop p.block_start bytes ≡ block ++ (crlf ++ (crlf ++ rest)) =
    ap (λ n. drop n bytes) begins ∙ ap (drop (length (before ++ head))) parts ∙ drop-append_seam (before ++ head) (block ++ (crlf ++ (crlf ++ rest))) in
    let end : p.block_start + length block ≤ length bytes = omega (arith, start, q_is, length-append before (front ++ rest), length-append front rest) in
    record {
      head = head_here law q p before front rest q_is one at start good;
      range = (end, short);
      block = ap (take (length block)) following ∙ take-append_seam block (crlf ++ (crlf ++ rest));
    }

wholes_from : HeadsAreRead → (q : ℕ) (before : List ℕ) (records : List Placed) (text : List ℕ) → q ≡ length before → SpellsFrom q records text
    → AllAccepted head_fault (contents records) → length (before ++ text) < 2 ^ 64 → AllByRecursion (HasWhole (before ++ text)) records
wholes_from law q before [] text q_is spelled good short = tt
wholes_from law q before (r ∷ rs) text q_is (front, rest, one, at, start, text_is, more) good short =
    let size : q + length front ≡ length (before ++ front) = sym (length-append before front ∙ ap (λ n. n + length front) (sym q_is)) in
    let whole : (before ++ front) ++ rest ≡ before ++ text = append_assoc before front rest ∙ ap (λ t. before ++ t) (sym text_is) in
    let P : List ℕ → Type 0 = λ t. HasWhole (before ++ t) r in
    let Q : List ℕ → Type 0 = λ t. AllByRecursion (HasWhole t) rs in
    let short_front : length (before ++ (front ++ rest)) < 2 ^ 64 = (let R : List ℕ → Type 0 = λ t. length (before ++ t) < 2 ^ 64 in subst R text_is short) in
    let short_whole : length ((before ++ front) ++ rest) < 2 ^ 64 = (let R : List ℕ → Type 0 = λ t. length t < 2 ^ 64 in subst R (sym whole) short) in (
      subst P (sym text_is) (whole_here law q r before front rest q_is one at start good.0 short_front),
      subst Q whole (wholes_from law (q + length front) (before ++ front) rs rest size more good.1 short_whole),
    )

-- the texts of the records of an archive
pub texts_of_archive : HeadsAreRead → (text_of : Record → List ℕ) (bytes : List ℕ) (rows seen : List Row) (is : IsArchiveOf bytes seen) → rows ≡ seen
    → AreTextsOf text_of rows bytes (flat_map text_of (contents is.are.records))
texts_of_archive law text_of bytes rows seen is same = record {
  records = is.are.records;
  whole = wholes_from law 0 [] is.are.records bytes refl is.are.spelled (accepted (contents is.are.records) is.are.good) (omega (arith, is.short));
  rows_are = same ∙ is.are.rows_are;
  is = refl;
}

-- what is sent as the texts of rows is the output of an archive of these rows
pub output_texts : HeadsAreRead → (text_of : Record → List ℕ) (rows seen : List Row) {old new : SeenSource} {before after : Seen}
    {answer : Result (Unit {0}) OutFault} → rows ≡ seen → Sends (AreTextsOf text_of rows) old new before after answer
    → Sends (IsOutputOf text_of seen) old new before after answer
output_texts law text_of rows seen {old} {new} {before} {after} {answer} same sends =
    let are : (bytes text : List ℕ) → IsOutputOf text_of seen bytes text → AreTextsOf text_of rows bytes text =
    λ bytes text it. subst (λ t. AreTextsOf text_of rows bytes t) (sym it.text_is) (texts_of_archive law text_of bytes rows seen it.is same) in
    record {
      out = λ bytes text held it. sends.out bytes text held (are bytes text it);
      cut = λ bytes text held it. sends.cut bytes text held (are bytes text it);
      cause = sends.cause;
      fails = fails_more (λ bytes held it. (it.0, are bytes it.0 it.1)) sends.fails;
    }

-- ---- the texts of rows, one after another

texts_parts_on : (text_of : Record → List ℕ) (bytes : List ℕ) (xs ys : List Row) (text : List ℕ) (records : List Placed) → AllByRecursion (HasWhole bytes) records
    → xs ++ ys ≡ map row_of records → text ≡ flat_map text_of (contents records) → InTurn (AreTextsOf text_of xs) (AreTextsOf text_of ys) bytes text
texts_parts_on text_of bytes [] ys text records whole rows_are is =
    ([], text, refl, record { records = []; whole = tt; rows_are = refl; is = refl }, record { records = records; whole = whole; rows_are = rows_are; is = is })
texts_parts_on text_of bytes (x ∷ xs) ys text [] whole rows_are is = absurd (cc rows_are)
texts_parts_on text_of bytes (x ∷ xs) ys text (p ∷ ps) whole rows_are is =
    let head : x ≡ row_of p = cc rows_are in
    let tail : xs ++ ys ≡ map row_of ps = cc rows_are in
    let (one, two, same, first, second) = texts_parts_on text_of bytes xs ys (flat_map text_of (contents ps)) ps whole.1 tail refl in (
      text_of p.content ++ one,
      two,
      is ∙ ap (λ l. text_of p.content ++ l) same ∙ sym (append_assoc (text_of p.content) one two),
      record {
        records = p ∷ first.records;
        whole = (whole.0, first.whole);
        rows_are = ap (λ r. r ∷ xs) head ∙ ap (λ l. row_of p ∷ l) first.rows_are;
        is = ap (λ l. text_of p.content ++ l) first.is;
      },
      second,
    )

pub texts_parts : (text_of : Record → List ℕ) (bytes : List ℕ) (xs ys : List Row) (text : List ℕ) → AreTextsOf text_of (xs ++ ys) bytes text
    → InTurn (AreTextsOf text_of xs) (AreTextsOf text_of ys) bytes text
texts_parts text_of bytes xs ys text are = texts_parts_on text_of bytes xs ys text are.records are.whole are.rows_are are.is

text_of_one_on : (text_of : Record → List ℕ) (bytes : List ℕ) (row : Row) (text : List ℕ) (records : List Placed) → AllByRecursion (HasWhole bytes) records
    → row ∷ [] ≡ map row_of records → text ≡ flat_map text_of (contents records) → IsTextOf text_of row bytes text
text_of_one_on text_of bytes row text [] whole rows_are is = absurd (cc rows_are)
text_of_one_on text_of bytes row text (p ∷ []) whole rows_are is =
    record { placed = p; whole = whole.0; row_is = cc rows_are; is = is ∙ append-nil (text_of p.content) }
text_of_one_on text_of bytes row text (p ∷ q ∷ ps) whole rows_are is = absurd (cc rows_are)

-- the texts of one more row
pub texts_more : (text_of : Record → List ℕ) (rows : List Row) (i : ℕ) (row : Row) (bytes text : List ℕ) → slice_get rows i ≡ Some row → AreTextsOf text_of (take (i + 1) rows) bytes text
    → InTurn (AreTextsOf text_of (take i rows)) (IsTextOf text_of row) bytes text
texts_more text_of rows i row bytes text is are =
    let P : List Row → Type 0 = λ l. AreTextsOf text_of l bytes text in
    let (one, two, same, first, second) = texts_parts text_of bytes (take i rows) (row ∷ []) text (subst P (take_one rows i row is) are) in
    (one, two, same, first, text_of_one_on text_of bytes row two second.records second.whole second.rows_are second.is)

pub texts_begin : (text_of : Record → List ℕ) (rows : List Row) (n : ℕ) (bytes text : List ℕ) → AreTextsOf text_of rows bytes text → Begins (AreTextsOf text_of (take n rows)) bytes text
texts_begin text_of rows n bytes text are =
    let P : List Row → Type 0 = λ l. AreTextsOf text_of l bytes text in
    let (one, two, same, first, second) = texts_parts text_of bytes (take n rows) (drop n rows) text (subst P (sym (take-append-drop n rows)) are) in
    (one, two, same, first)

pub texts_begin_more : (text_of : Record → List ℕ) (rows : List Row) (i : ℕ) (row : Row) (bytes text : List ℕ) → slice_get rows i ≡ Some row → AreTextsOf text_of rows bytes text
    → Begins (InTurn (AreTextsOf text_of (take i rows)) (IsTextOf text_of row)) bytes text
texts_begin_more text_of rows i row bytes text is are =
    let (one, more, same, first) = texts_begin text_of rows (i + 1) bytes text are in
    (one, more, same, texts_more text_of rows i row bytes one is first)

none_on : (text_of : Record → List ℕ) (text : List ℕ) (records : List Placed) → [] ≡ map row_of records → text ≡ flat_map text_of (contents records) → text ≡ []
none_on text_of text [] rows_are is = is
none_on text_of text (p ∷ ps) rows_are is = absurd (cc rows_are)

pub texts_none : (text_of : Record → List ℕ) (bytes text : List ℕ) → AreTextsOf text_of [] bytes text → text ≡ []
texts_none text_of bytes text are = none_on text_of text are.records are.rows_are are.is

-- ---- a record whose block is copied

closed : (head block : List ℕ) → ((head ++ block) ++ crlf) ++ crlf ≡ head ++ (block ++ (crlf ++ crlf))
closed head block = simp append_assoc

-- its head, its block and what closes it
pub copy_parts : {A : Type 0} (c : Copied A) (bytes text : List ℕ) → IsCopy c bytes text
    → (text ≡ head_text c.version (canonical_fields c.fields) ++ (take c.block_len (drop c.block_start bytes) ++ (crlf ++ crlf)))
copy_parts {A} c bytes text copy = copy.is ∙ closed (head_text c.version (canonical_fields c.fields)) (take c.block_len (drop c.block_start bytes))

abbrev pub IsCopiedHead : {A : Type 0} → Copied A → List ℕ → List ℕ → Type 0
IsCopiedHead {A} c bytes text = text ≡ head_text c.version (canonical_fields c.fields)

pub copy_in_turn : {A : Type 0} (c : Copied A) (bytes text : List ℕ) → IsCopy c bytes text
    → InTurn (IsCopiedHead c) (IsClosedBlock c.block_start c.block_len) bytes text
copy_in_turn {A} c bytes text copy =
    let rest = take c.block_len (drop c.block_start bytes) ++ (crlf ++ crlf) in
    (head_text c.version (canonical_fields c.fields), rest, copy_parts c bytes text copy, refl, (copy.range, refl))

pub copy_begins : {A : Type 0} (c : Copied A) (bytes text : List ℕ) → IsCopy c bytes text → Begins (IsCopiedHead c) bytes text
copy_begins {A} c bytes text copy =
    let rest = take c.block_len (drop c.block_start bytes) ++ (crlf ++ crlf) in
    (head_text c.version (canonical_fields c.fields), rest, copy_parts c bytes text copy, refl)

-- a block, and what closes its record
abbrev pub IsBlock : ℕ → ℕ → List ℕ → List ℕ → Type 0
IsBlock start len bytes text = HasRange start len bytes × (text ≡ take len (drop start bytes))

abbrev pub IsClosing : List ℕ → List ℕ → Type 0
IsClosing bytes text = text ≡ crlf ++ crlf

pub block_in_turn : (start len : ℕ) (bytes text : List ℕ) → IsClosedBlock start len bytes text
    → InTurn (IsBlock start len) IsClosing bytes text
block_in_turn start len bytes text (range, is) = (take len (drop start bytes), crlf ++ crlf, is, (range, refl), refl)

pub block_begins : (start len : ℕ) (bytes text : List ℕ) → IsClosedBlock start len bytes text
    → Begins (IsBlock start len) bytes text
block_begins start len bytes text (range, is) = (take len (drop start bytes), crlf ++ crlf, is, (range, refl))

-- ---- a record that is copied as it is

abbrev pub IsText : List ℕ → List ℕ → List ℕ → Type 0
IsText head bytes text = text ≡ head

pub same_begins : (head : List ℕ) (row : Row) (bytes text : List ℕ) → IsSameText head row bytes text
    → Begins (IsText head) bytes text
same_begins head row bytes text (rest, closed, is) = (head, rest, is, refl)

pub same_head : {x y : Head} → ◌≡◌ {A = Result Head Fault} (Ok x) (Ok y) → x ≡ y
same_head {x} {y} same = cc

-- the text of a canonical head is what its record is written with
head_is_written : (r : Record) (row : Row) (head : List ℕ) → IsHeadText r row head → IsCanonicalHead head row.block_len
    → head ≡ head_text r.version (canonical_fields r.fields)
head_is_written r row head is can =
    let same = same_head (sym can.reads ∙ is) in
    can.text_is
    ∙ ap (λ v. head_text v (canonical_fields can.fields)) (ap (λ (h : Head). h.version) same)
    ∙ ap (λ f. head_text r.version (canonical_fields f)) (ap (λ (h : Head). h.fields) same)

written_parts : (r : Record) → canonical r ≡ head_text r.version (canonical_fields r.fields) ++ (r.block ++ (crlf ++ crlf))
unfolding canonical
written_parts r = closed (head_text r.version (canonical_fields r.fields)) r.block

-- such a record is written as it is
pub written_as_is : (text_of : Record → List ℕ) (row : Row) (head bytes text : List ℕ) (is : IsTextOf text_of row bytes text)
    → text_of is.placed.content ≡ canonical is.placed.content → IsHeadText is.placed.content row head
    → IsCanonicalHead head row.block_len → IsSameText head row bytes text
written_as_is text_of row head bytes text is keeps reads can =
    let p = is.placed in
    let start = ap (λ (r : Row). r.block_start) is.row_is in
    let len = ap (λ (r : Row). r.block_len) is.row_is in
    let block : p.content.block ≡ take row.block_len (drop row.block_start bytes) =
    sym is.whole.block ∙ ap (λ n. take n (drop p.block_start bytes)) (sym len) ∙ ap (λ n. take row.block_len (drop n bytes)) (sym start) in (
      take row.block_len (drop row.block_start bytes) ++ (crlf ++ crlf),
      ((omega (arith, is.whole.range.0, start, len), is.whole.range.1), refl),
      is.is ∙ keeps ∙ written_parts p.content
          ∙ ap (λ h. h ++ (p.content.block ++ (crlf ++ crlf))) (sym (head_is_written p.content row head reads can))
          ∙ ap (λ b. head ++ (b ++ (crlf ++ crlf))) block,
    )

-- the copy that is written of a row's record
pub copy_of : {A : Type 0} (text_of : Record → List ℕ) (row : Row) (c : Copied A) (bytes text : List ℕ) (is : IsTextOf text_of row bytes text) → IsCopiedOf text_of is.placed c → IsCopy c bytes text
copy_of {A} text_of row c bytes text is copied =
    let p = is.placed in
    let block : p.content.block ≡ take c.block_len (drop c.block_start bytes) =
    sym is.whole.block ∙ ap (λ n. take n (drop p.block_start bytes)) (sym copied.len) ∙ ap (λ n. take c.block_len (drop n bytes)) (sym copied.start) in
    record {
      range = (omega (arith, is.whole.range.0, copied.start, copied.len), is.whole.range.1);
      is = is.is ∙ sym copied.text ∙ ap (λ b. head_text c.version (canonical_fields c.fields) ++ b ++ crlf ++ crlf) block;
    }

canonical_text : (p : Placed) (version : Version) (fields : List Pair) → version ≡ p.content.version → fields ≡ p.content.fields
    → head_text version (canonical_fields fields) ++ p.content.block ++ crlf ++ crlf ≡ text_as Canonical p.content
unfolding canonical
canonical_text p version fields version_is fields_are = rw (version_is, fields_are) refl

converted_text : (p : Placed) (version : Version) (fields : List Pair) → version ≡ V1_1 → fields ≡ converted_fields p.content.fields
    → head_text version (canonical_fields fields) ++ p.content.block ++ crlf ++ crlf ≡ text_as Converted p.content
unfolding canonical converted
converted_text p version fields version_is fields_are = rw (version_is, fields_are) refl

pub canonical_copy : {A : Type 0} (form : Form) (p : Placed) (row : Row) (c : Copied A) → form ≡ Canonical → row ≡ row_of p → c.version ≡ p.content.version
    → c.fields ≡ p.content.fields → c.block_start ≡ row.block_start → c.block_len ≡ row.block_len → IsCopiedOf (text_as form) p c
canonical_copy {A} form p row c form_is row_is version fields start len = record {
  start = start ∙ ap (λ (r : Row). r.block_start) row_is;
  len = len ∙ ap (λ (r : Row). r.block_len) row_is;
  text = canonical_text p c.version c.fields version fields ∙ ap (λ f. text_as f p.content) (sym form_is);
}

pub converted_copy : {A : Type 0} (form : Form) (p : Placed) (row : Row) (c : Copied A) → form ≡ Converted → row ≡ row_of p → c.version ≡ V1_1
    → c.fields ≡ converted_fields p.content.fields → c.block_start ≡ row.block_start → c.block_len ≡ row.block_len → IsCopiedOf (text_as form) p c
converted_copy {A} form p row c form_is row_is version fields start len = record {
  start = start ∙ ap (λ (r : Row). r.block_start) row_is;
  len = len ∙ ap (λ (r : Row). r.block_len) row_is;
  text = converted_text p c.version c.fields version fields ∙ ap (λ f. text_as f p.content) (sym form_is);
}

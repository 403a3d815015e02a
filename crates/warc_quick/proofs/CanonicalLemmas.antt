-- A head whose lines are canonical, line by line, and what it says.
use Rattle.std.proofs.Common.{◌≡◌, ℕ, ◌+◌, ◌-◌, List, [], ◌∷◌, ◌++◌, length, take, drop, Some, Result, Ok, append_assoc, refl, sym, ap, ◌∙◌, arith}
use Rattle.std.specs.List.{slice_range}
use Rattle.std.proofs.Math.Seq.{drop-append_seam, take-append_seam}
use Rattle.std.proofs.lemmas.Grind.{flat_map-append}
use Rattle.std.proofs.lemmas.List.{append-nil, take_all}
use Rattle.warc_field.specs.Area.{Pair, area_of, canonical_fields, canonical_line}
use Rattle.warc_field.specs.Lines.{crlf}
use Rattle.warc_field.specs.Text.{AreFields, IsField}
use Rattle.warc_field.proofs.CanonLemmas.{canonical_reads}
use Rattle.warc_frame.specs.Reading.{Head, any_fields, head_of, version_of}
use Rattle.warc_frame.specs.Record.{head_text}
use Rattle.warc_frame.specs.VersionLine.{version_line}
use Rattle.warc_frame.specs.declared.version.Version.{Version}
use Rattle.warc_frame.proofs.CanonicalLemmas.{head_size, version_size}
use Rattle.warc_frame.proofs.ReadLemmas.{head-has}
use Rattle.warc_frame.proofs.SpellLemmas.{version-read}
use Rattle.warc_quick.specs.Canonical.{BeginsCanonically, HasCanonicalLines, IsCanonicalHead}
use Rattle.warc_quick.specs.Quick.{IsQuickHead}
use Rattle.warc_quick.specs.declared.head.QuickHead.{QuickHead}

some_same : {A : Type 0} {x y : A} → Some x ≡ Some y → x ≡ y
some_same {A} {x} {y} same = cc

ok_same : {A E : Type 0} {x y : A} → ◌≡◌ {A = Result A E} (Ok x) (Ok y) → x ≡ y
ok_same {A} {E} {x} {y} same = cc

fields_more : (fields : List Pair) (field : Pair) → AreFields fields → IsField field → AreFields (fields ++ field ∷ [])
fields_more [] field are is = (is, tt)
fields_more (f ∷ fs) field are is = (are.0, fields_more fs field are.1 is)

lines_more : (fields : List Pair) (field : Pair) → canonical_fields (fields ++ field ∷ []) ≡ canonical_fields fields ++ canonical_line field
lines_more fields field =
    flat_map-append canonical_line fields (field ∷ []) ∙ ap (λ l. canonical_fields fields ++ l) (append-nil (canonical_line field))

-- one more canonical line
pub front_more : {text rest more : List ℕ} → BeginsCanonically text rest
    → (field : Pair) × IsField field × (rest ≡ canonical_line field ++ more) → BeginsCanonically text more
front_more {text} {rest} {more} front (field, is, line) = record {
  version = front.version;
  fields = front.fields ++ field ∷ [];
  are = fields_more front.fields field front.are is;
  text_is =
      let front_text = version_line front.version ++ canonical_fields front.fields in
      let longer : version_line front.version ++ canonical_fields (front.fields ++ field ∷ []) ≡ front_text ++ canonical_line field =
      ap (λ l. version_line front.version ++ l) (lines_more front.fields field)
      ∙ sym (append_assoc (version_line front.version) (canonical_fields front.fields) (canonical_line field)) in
      front.text_is ∙ ap (λ l. front_text ++ l) line ∙ sym (append_assoc front_text (canonical_line field) more)
      ∙ sym (ap (λ l. l ++ more) longer);
}

-- the area of a head whose lines these are
area_in : (version : Version) (area : List ℕ) → take (length area) (drop 10 (head_text version area)) ≡ area
area_in version area =
    let line = version_line version in
    let following : drop 10 (head_text version area) ≡ area ++ crlf =
    ap (drop 10) (append_assoc line area crlf) ∙ ap (λ n. drop n (line ++ (area ++ crlf))) (sym (version_size version))
    ∙ drop-append_seam line (area ++ crlf) in
    ap (take (length area)) following ∙ take-append_seam area crlf

-- what is read of such a head is what it is written from
pub canonical_head : (text : List ℕ) (block_len : ℕ) (found : QuickHead) → IsQuickHead text found → found.len ≡ length text
    → found.block_len ≡ block_len → HasCanonicalLines text → IsCanonicalHead text block_len
canonical_head text block_len found quick len block lines =
    let head : Head = record { version = quick.version; fields = quick.fields; len = length text; block_len = block_len } in
    let whole : take found.len text ≡ text = take_all found.len text (omega (arith, len)) in
    let reads : head_of any_fields text ≡ Ok head =
    ap (head_of any_fields) (sym whole) ∙ quick.whole
    ∙ rw (len, block) refl in
    let has = head-has any_fields text head reads in
    let area = canonical_fields lines.fields in
    let version : quick.version ≡ lines.version =
    some_same (sym has.version ∙ ap version_of (lines.text_is ∙ append_assoc (version_line lines.version) area crlf)
    ∙ version-read lines.version (area ++ crlf)) in
    let size : length text ≡ length area + 12 = ap length lines.text_is ∙ head_size lines.version area in
    let cut : slice_range text 10 (length text - 2) ≡ area =
    ap (λ n. take n (drop 10 text)) (let e : length text - 2 - 10 ≡ length area = omega (arith, size) in e)
    ∙ ap (λ t. take (length area) (drop 10 t)) lines.text_is ∙ area_in lines.version area in
    let fields : quick.fields ≡ lines.fields =
    ok_same (sym has.fields ∙ ap area_of cut ∙ canonical_reads lines.fields lines.are) in
    record {
      version = quick.version;
      fields = quick.fields;
      reads = reads;
      good = quick.says.good;
      text_is = lines.text_is ∙ rw (version, fields) refl;
    }

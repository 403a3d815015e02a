-- What is written of an archive is shorter than 2^64.
use Rattle.std.proofs.Common.{◌≡◌, ℕ, ◌+◌, ◌*◌, ◌^◌, ◌<◌, ◌≤◌, Bool, true, false, List, [], ◌∷◌, ◌++◌, length, map, decimal, codes, Option, None, Some, if◌then◌else◌, length-append, ◌∙◌, ap, arith}
use Rattle.std.specs.Prelude.{option_and_then, option_map, unwrap_or}
use Rattle.std.specs.List.{enumerate_from, find, flat_map, join_with_byte}
use Rattle.std.proofs.lemmas.List.{length-map}
use Rattle.warc_field.specs.Area.{Pair, canonical_fields, canonical_line, first_value}
use Rattle.warc_field.specs.Lines.{crlf}
use Rattle.warc_field.specs.Text.{same}
use Rattle.warc_frame.specs.Record.{Record, IsFramed, head_text}
use Rattle.warc_frame.specs.Spelling.{SpellsAll, canonical}
use Rattle.warc_record.specs.FindingLaws.{FindingsAreFew, FindingsAreShort}
use Rattle.warc_record.specs.Good.{IsGood}
use Rattle.warc_record.specs.Ids.{BareTextsAreNoLonger, bare_text}
use Rattle.warc_record.specs.Readings.{unless_empty}
use Rattle.warc_write.specs.Conversion.{ConvertedStaysGood, converted}
use Rattle.warc_reading.specs.Archive.{AreGood, SpellsFrom, contents}
use Rattle.warc.specs.Laws.{OutputsAreCounted}
use Rattle.warc_judged.specs.Listing.{line_of, listing, shown}
use Rattle.warc_reading.specs.Row.{Placed, row_of}
use Rattle.warc_reading.proofs.StreamLemmas.{spells_all}
use Rattle.warc_checking.proofs.SizeLemmas.{area_short, check_short, digits, head_len, line_len, record_len, records_len}

-- a value is no longer than the fields that it is in
value_by : (b : Bool) (f : Pair) (rest : Option Pair) (n : ℕ) → length f.1 ≤ n → length (unwrap_or (option_map (λ (g : Pair). g.1) rest) []) ≤ n
    → length (unwrap_or (option_map (λ (g : Pair). g.1) (if b then Some f else rest)) []) ≤ n
value_by true f rest n here later = here
value_by false f rest n here later = later

value_short : (name : List ℕ) (fields : List Pair) → length (unwrap_or (first_value name fields) []) ≤ length (canonical_fields fields)
value_short name [] = omega arith
value_short name (f ∷ fs) =
    let whole = length-append (canonical_line f) (canonical_fields fs) in
    value_by (same f.0 name) f (find (λ (g : Pair). same g.0 name) fs) (length (canonical_fields (f ∷ fs))) (omega (arith, line_len f, whole)) (omega (arith, line_len f, whole, value_short name fs))

unless_short : (b : Bool) (text : List ℕ) (n : ℕ) → length text ≤ n → length (unwrap_or (if b then None else Some text) []) ≤ n
unless_short true text n le = omega arith
unless_short false text n le = le

bare_by : BareTextsAreNoLonger → (b : Bool) (value : List ℕ) (n : ℕ) → length value ≤ n
    → length (unwrap_or (option_and_then (λ v. unless_empty (bare_text v)) (if b then None else Some value)) []) ≤ n
bare_by shorter true value n le = omega arith
bare_by shorter false value n le = unless_short _ (bare_text value) n (omega (arith, shorter value, le))

bare_of : BareTextsAreNoLonger → (found : Option (List ℕ)) (n : ℕ) → length (unwrap_or found []) ≤ n
    → length (unwrap_or (option_and_then (λ v. unless_empty (bare_text v)) (option_and_then unless_empty found)) []) ≤ n
bare_of shorter None n le = omega arith
bare_of shorter (Some value) n le = bare_by shorter _ value n le

shown_len : (text : List ℕ) → length (shown text) ≤ length text + 1
shown_len [] = omega arith
shown_len (b ∷ bs) = omega arith

seven_len : (a b c d e f g : List ℕ) → length (join_with_byte 9 (a ∷ b ∷ c ∷ d ∷ e ∷ f ∷ g ∷ []) ++ 10 ∷ [])
    ≡ length a + length b + length c + length d + length e + length f + length g + 7
seven_len a b c d e f g = simp length-append (omega arith)

-- a line of the listing
row_short : BareTextsAreNoLonger → (position : ℕ) (p : Placed) → IsFramed p.content → position < 2 ^ 64 → p.offset < 2 ^ 64 → length p.content.block < 2 ^ 64
    → length (line_of position (row_of p)) ≤ 262164
unfolding line_of
row_short shorter position p framed a b c =
    let fields = p.content.fields in
    let target = bare_of shorter (first_value (codes "WARC-Target-URI") fields) _ (value_short (codes "WARC-Target-URI") fields) in
    let row = row_of p in
    omega (
      arith,
      area_short p.content framed,
      digits position a,
      digits p.offset b,
      digits (length p.content.block) c,
      value_short (codes "WARC-Type") fields,
      value_short (codes "WARC-Date") fields,
      value_short (codes "WARC-Record-ID") fields,
      target,
      shown_len row.target,
      seven_len (decimal position) (decimal row.offset) (decimal row.block_len) row.kind row.date row.id (shown row.target),
    )

rows_short : BareTextsAreNoLonger → (n q : ℕ) (ps : List Placed) (text : List ℕ) → SpellsFrom q ps text → n + length ps < 2 ^ 64 → q + length text < 2 ^ 64
    → length (flat_map (λ p. line_of p.0 p.1) (enumerate_from n (map row_of ps))) ≤ 262164 * length ps
rows_short shorter n q [] text is few long = omega arith
rows_short shorter n q (p ∷ ps) text (front, rest, one, at, following, whole, more) few long =
    let size = ap length whole ∙ length-append front rest in
    omega (
      arith,
      length-append (line_of n (row_of p)) (flat_map (λ p. line_of p.0 p.1) (enumerate_from (n + 1) (map row_of ps))),
      row_short shorter n p one.framed (omega (arith, few)) (omega (arith, at, size, long)) (omega (arith, following, size, long)),
      rows_short shorter (n + 1) (q + length front) ps rest more (omega (arith, few)) (omega (arith, size, long)),
    )

-- a record's canonical text
canonical_short : (r : Record) → IsFramed r → length (canonical r) ≤ 65540 + length r.block
unfolding canonical
canonical_short r framed =
    let head = head_text r.version (canonical_fields r.fields) in
    let size : length (head ++ r.block ++ crlf ++ crlf) ≡ length head + length r.block + 4 = simp length-append (omega arith) in
    omega (arith, area_short r framed, head_len r.version (canonical_fields r.fields), size)

written_short : (text_of : Record → List ℕ) → ((r : Record) → IsGood r → length (text_of r) ≤ 65540 + length r.block)
    → (rs : List Record) (text : List ℕ) → SpellsAll rs text → AreGood rs → length (flat_map text_of rs) ≤ 65540 * length rs + length text
written_short text_of each [] text is good = omega arith
written_short text_of each (r ∷ rs) text (front, rest, one, whole, more) (first, good) =
    omega (
      arith,
      each r first,
      record_len r front one,
      written_short text_of each rs rest more good,
      ap length whole,
      length-append front rest,
      length-append (text_of r) (flat_map text_of rs),
    )

converted_short : ConvertedStaysGood → (r : Record) → IsGood r → length (canonical (converted r)) ≤ 65540 + length r.block
unfolding converted
converted_short stays r good = canonical_short (converted r) (stays r good).framed

pub outputs_are_counted : BareTextsAreNoLonger → FindingsAreFew → FindingsAreShort → ConvertedStaysGood → OutputsAreCounted
unfolding listing
outputs_are_counted shorter few short stays bytes rows is =
    let ps = is.are.records in
    let rs = contents ps in
    let spelled : SpellsAll rs bytes = spells_all 0 ps bytes is.are.spelled in
    let count : 16 * length rs ≤ length bytes = records_len rs bytes spelled in
    let same : length rs ≡ length ps = length-map ps (λ p. p.content) in
    let low : length rs ≤ 2 ^ 44 = omega (arith, count, is.short) in
    let lines = rows_short shorter 0 0 ps bytes is.are.spelled (omega (arith, low, same)) (omega (arith, is.short)) in
    let is_listing = ap (λ l. length (flat_map (λ p. line_of p.0 p.1) (enumerate_from 0 l))) is.are.rows_are in (
      omega (arith, is_listing, lines, low, same),
      check_short few short rs is.are.good low,
      omega (arith, is.short, low, written_short canonical (λ r good. canonical_short r good.framed) rs bytes spelled is.are.good),
      omega (arith, is.short, low, written_short (λ r. canonical (converted r)) (converted_short stays) rs bytes spelled is.are.good),
    )

-- How long the fields and records of an archive are, and the lines that `check` writes of it.
use Rattle.std.proofs.Common.{◌≡◌, ℕ, ◌+◌, ◌*◌, ◌^◌, ◌<◌, ◌≤◌, List, [], ◌∷◌, ◌++◌, length, take, map, decimal, codes, Option, None, Some, length-append, refl, ap, arith}
use Rattle.std.specs.Prelude.{unwrap_or}
use Rattle.std.specs.List.{enumerate_from, flat_map, sum_by}
use Rattle.std.proofs.lemmas.Fmt.{length-decimal-le}
use Rattle.std.proofs.lemmas.List.Sums.{sum_by-cons}
use Rattle.std.proofs.lemmas.Grind.{flat_map-append}
use Rattle.warc_field.specs.Area.{Pair, canonical_fields, canonical_line}
use Rattle.warc_field.specs.Lines.{crlf}
use Rattle.warc_frame.specs.Record.{Record, IsFramed, canonical_len, head_text}
use Rattle.warc_frame.specs.Spelling.{Spells, SpellsAll}
use Rattle.warc_frame.specs.VersionLine.{version_line}
use Rattle.warc_frame.specs.declared.version.Version.{Version}
use Rattle.warc_frame.specs.declared.version.Version.TheVariants.{V1_0, V1_1}
use Rattle.warc_record.specs.Blocks.{has_bad_digest}
use Rattle.warc_record.specs.FindingLaws.{FindingsAreFew, FindingsAreShort, reported_len}
use Rattle.warc_record.specs.Findings.{SeenFinding, finding_field, finding_number}
use Rattle.warc_reading.specs.Archive.{AreGood}
use Rattle.warc_checking.specs.Checking.{about_record, field_text, findings_at, findings_after, check_text, is_used, record_key, line_text}

-- a number of 64 bits has at most 20 digits
pub digits : (n : ℕ) → n < 2 ^ 64 → length (decimal n) ≤ 20
digits n low = length-decimal-le 20 n (omega arith) (omega (arith, low)) low

version_len : (v : Version) → length (version_line v) ≡ 10
version_len V1_0 = refl
version_len V1_1 = refl

pub head_len : (v : Version) (area : List ℕ) → length (head_text v area) ≡ length area + 12
head_len v area = omega (arith, version_len v, length-append (version_line v ++ area) crlf, length-append (version_line v) area)

-- the fields of a framed record, written out, and how many they are
pub area_short : (r : Record) → IsFramed r → length (canonical_fields r.fields) ≤ 65524
unfolding canonical_len
area_short r framed = omega (arith, framed.head, head_len r.version (canonical_fields r.fields))

pub line_len : (f : Pair) → length (canonical_line f) ≡ length f.0 + length f.1 + 4
line_len f = simp length-append (omega arith)

pub fields_few : (fields : List Pair) → 4 * length fields ≤ length (canonical_fields fields)
fields_few [] = omega arith
fields_few (f ∷ fs) = omega (arith, line_len f, fields_few fs, length-append (canonical_line f) (canonical_fields fs))

-- a record takes at least 16 bytes: its version line, and three ends of lines
pub record_len : (r : Record) (text : List ℕ) → Spells r text → length r.block + 16 ≤ length text
record_len r text is =
    let head = head_text r.version is.area in
    let size : length (head ++ r.block ++ crlf ++ crlf) ≡ length head + length r.block + 4 = simp length-append (omega arith) in
    omega (arith, ap length is.text_is, size, head_len r.version is.area)

pub records_len : (rs : List Record) (text : List ℕ) → SpellsAll rs text → 16 * length rs ≤ length text
records_len [] text is = omega arith
records_len (r ∷ rs) text (front, rest, one, whole, more) =
    omega (arith, record_len r front one, records_len rs rest more, ap length whole, length-append front rest)

-- a line of `check`
field_len : (name : Option (List ℕ)) → length (field_text name) ≤ length (unwrap_or name []) + 1
field_len None = omega arith
field_len (Some name) = omega arith

line_short : (position : ℕ) (found : SeenFinding) → position < 2 ^ 64 → length (line_text (about_record position found)) ≤ reported_len found + 24
unfolding line_text
line_short position found low =
    let size : (a b c : List ℕ) → length (a ++ codes " N" ++ b ++ c ++ codes "\n") ≡ length a + length b + length c + 3 = λ a b c. simp length-append (omega arith) in
    omega (arith, digits position low, field_len (finding_field found), size (decimal position) (decimal (finding_number found)) (field_text (finding_field found)))

lines_short : (position : ℕ) (founds : List SeenFinding) → position < 2 ^ 64
    → length (flat_map line_text (map (about_record position) founds)) ≤ sum_by reported_len founds + 24 * length founds
lines_short position [] low = omega arith
lines_short position (f ∷ fs) low =
    omega (
      arith,
      line_short position f low,
      lines_short position fs low,
      sum_by-cons reported_len f fs,
      length-append (line_text (about_record position f)) (flat_map line_text (map (about_record position) fs)),
    )

-- the lines of a record
checked_short : FindingsAreFew → FindingsAreShort → (before : List Record) (position : ℕ) (r : Record) → IsFramed r → position < 2 ^ 64
    → length (flat_map line_text (map (about_record position) (findings_after before r))) ≤ 461200
checked_short few short before position r framed low =
    let used = is_used before (record_key r) in
    omega (
      arith,
      area_short r framed,
      fields_few r.fields,
      lines_short position (findings_after before r) low,
      few r.fields (length r.block) (has_bad_digest r) used,
      short r.fields (length r.block) (has_bad_digest r) used,
    )

all_short : FindingsAreFew → FindingsAreShort → (all : List Record) (n : ℕ) (rs : List Record) → AreGood rs → n + length rs < 2 ^ 64
    → length (flat_map line_text (flat_map (λ p. findings_at all p.0 p.1) (enumerate_from n rs))) ≤ 461200 * length rs
all_short few short all n [] good low = omega arith
all_short few short all n (r ∷ rs) (one, good) low =
    let here = findings_at all n r in
    let later = flat_map (λ p. findings_at all p.0 p.1) (enumerate_from (n + 1) rs) in
    omega (
      arith,
      ap length (flat_map-append line_text here later),
      length-append (flat_map line_text here) (flat_map line_text later),
      checked_short few short (take n all) n r one.framed (omega (arith, low)),
      all_short few short all (n + 1) rs good (omega (arith, low)),
    )

none_short : length (check_text []) ≤ 24
unfolding check_text line_text
none_short = let digits_of = digits 12 (omega arith) in simp length-append (omega (arith, digits_of))

pub check_short : FindingsAreFew → FindingsAreShort → (rs : List Record) → AreGood rs → length rs ≤ 2 ^ 44 → length (check_text rs) < 2 ^ 64
unfolding check_text
check_short few short [] good low = omega (arith, none_short)
check_short few short (r ∷ rs) good low = omega (arith, low, all_short few short (r ∷ rs) 0 (r ∷ rs) good (omega (arith, low)))

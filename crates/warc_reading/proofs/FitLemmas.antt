-- Each row of an archive fits an entry of 32 bytes.
use Rattle.std.proofs.Common.{◌≡◌, ℕ, ◌+◌, ◌≤◌, Bool, true, false, List, [], ◌∷◌, ◌++◌, length, map, codes, Option, None, Some, if◌then◌else◌, length-append, refl, sym, ap, subst, ◌∙◌, arith}
use Rattle.std.specs.Prelude.{option_and_then, unwrap_or, ◌==◌}
use Rattle.std.specs.List.{sum_by}
use Rattle.std.proofs.lemmas.List.Sums.{sum_by-cons}
use Rattle.warc_field.specs.Area.{SpellsFields, first_value}
use Rattle.warc_frame.specs.Record.{head_text, max_archive}
use Rattle.warc_frame.specs.Spelling.{Spells, record_text}
use Rattle.warc_frame.specs.VersionLine.{version_line}
use Rattle.warc_record.specs.Ids.{bare_text}
use Rattle.warc_record.specs.Readings.{unless_empty}
use Rattle.warc_record.proofs.LawLemmas.{bare_texts_are_no_longer}
use Rattle.warc_reading.specs.Archive.{SpellsFrom}
use Rattle.warc_reading.specs.Fitting.{Fits, RowsFit}
use Rattle.warc_reading.specs.Row.{Placed, Row, row_of, texts_len}
use Rattle.warc_reading.proofs.LengthLemmas.{AreApart, named_in_area}

-- what is read of a value is no longer
abbrev pub text_len : Option (List ℕ) → ℕ
text_len text = length (unwrap_or text [])

pub unless_by : (b : Bool) (text : List ℕ) → text_len (if b then None else Some text) ≤ length text
unless_by true text = omega arith
unless_by false text = omega arith

pub present_len : (found : Option (List ℕ)) → text_len (option_and_then unless_empty found) ≤ text_len found
present_len None = omega arith
present_len (Some value) = unless_by (length value == 0) value

pub bare_len : (found : Option (List ℕ))
    → text_len (option_and_then (λ v. unless_empty (bare_text v)) found) ≤ text_len found
bare_len None = omega arith
bare_len (Some value) =
    omega (arith, unless_by (length (bare_text value) == 0) (bare_text value), bare_texts_are_no_longer value)

-- the fields of which a row has texts
abbrev row_names : List (List ℕ)
row_names = codes "WARC-Type" ∷ codes "WARC-Date" ∷ codes "WARC-Record-ID" ∷ codes "WARC-Target-URI" ∷ []

row_names_apart : AreApart row_names
row_names_apart = (refl, (refl, (refl, (refl, tt))))

texts_short : (p : Placed) (area : List ℕ) → SpellsFields p.content.fields area → texts_len (row_of p) ≤ length area
texts_short p area is =
    let target = first_value (codes "WARC-Target-URI") p.content.fields in
    omega (
      arith,
      bare_len (option_and_then unless_empty target),
      present_len target,
      named_in_area row_names row_names_apart p.content.fields area is,
    )

-- a record's row, and how long its texts are
module _ (q k : ℕ) (p : Placed) (front : List ℕ) (is : Spells p.content front) (at : p.offset ≡ q) (following : p.block_start + length p.content.block + 4 ≡ q + length front) where
  head_size : length (head_text p.content.version is.area) ≡ length (version_line p.content.version) + length is.area + 2
  head_size = simp length-append (omega arith)

  pub front_size : length front ≡ length (head_text p.content.version is.area) + length p.content.block + 4
  front_size =
      let size : length (record_text p.content is.area) ≡ length (head_text p.content.version is.area) + length p.content.block + 4 =
      simp length-append (omega arith) in
      ap length is.text_is ∙ size

  texts_within : texts_len (row_of p) + 2 ≤ length (head_text p.content.version is.area)
  texts_within = omega (arith, texts_short p is.area is.fields, head_size)

  texts_front : texts_len (row_of p) ≤ length front
  texts_front = omega (arith, texts_within, front_size)

  fits_one : q + length front ≤ max_archive → k ≤ q → Fits k (row_of p)
  fits_one short low = record {
    order = omega (arith, at, following, front_size);
    head = omega (arith, at, following, front_size, is.head);
    offset = omega (arith, at, front_size, short);
    block = omega (arith, front_size, short);
    begin = omega (arith, front_size, short, low);
    kind = omega (arith, texts_within, is.head);
    date = omega (arith, texts_within, is.head);
    id = omega (arith, texts_within, is.head);
    target = omega (arith, texts_within, is.head);
  }

fits_from : (q k : ℕ) (ps : List Placed) (text : List ℕ) (rows more : List Row) (row : Row) → SpellsFrom q ps text → map row_of ps ≡ rows ++ row ∷ more → q + length text ≤ max_archive → k ≤ q
    → Fits (k + sum_by texts_len rows) row
fits_from q k [] text [] more row spelled same short low = absurd (cc same)
fits_from q k [] text (r ∷ rows) more row spelled same short low = absurd (cc same)
fits_from q k (p ∷ ps) text [] more row (front, rest, one, at, following, whole, on) same short low =
    let row_is : row_of p ≡ row = cc same in
    let size = ap length whole ∙ length-append front rest in
    let n : k ≡ k + sum_by texts_len [] = omega arith in
    let P : ℕ → Type 0 = λ m. Fits m row in
    let Q : Row → Type 0 = λ r. Fits k r in
    subst P n (subst Q row_is (fits_one q k p front one at following (omega (arith, size, short)) low))
fits_from q k (p ∷ ps) text (r ∷ rows) more row (front, rest, one, at, following, whole, on) same short low =
    let row_is : row_of p ≡ r = cc same in
    let others : map row_of ps ≡ rows ++ row ∷ more = cc same in
    let size = ap length whole ∙ length-append front rest in
    let texts : texts_len r ≤ length front = omega (arith, texts_front q k p front one at following, ap texts_len row_is) in
    let n : (k + texts_len r) + sum_by texts_len rows ≡ k + sum_by texts_len (r ∷ rows) = omega (arith, sum_by-cons texts_len r rows) in
    let P : ℕ → Type 0 = λ m. Fits m row in
    subst P n (fits_from (q + length front) (k + texts_len r) ps rest rows more row on others (omega (arith, size, short)) (omega (arith, texts, low)))

pub rows_fit : RowsFit
rows_fit bytes rows more row is =
    let n : 0 + sum_by texts_len rows ≡ sum_by texts_len rows = omega arith in
    let P : ℕ → Type 0 = λ m. Fits m row in
    subst P n (fits_from 0 0 is.are.records bytes rows more row is.are.spelled (sym is.are.rows_are) (omega (arith, is.short)) (omega arith))

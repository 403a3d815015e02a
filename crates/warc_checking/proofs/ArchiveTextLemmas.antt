-- What `check` reports of no records, and of some.
use Rattle.std.proofs.Common.{◌≡◌, ℕ, ◌+◌, ◌<◌, List, [], ◌∷◌, Result, length, codes, refl, sym, ap, subst, ◌∙◌, arith}
use Rattle.std.specs.Fmt.{digits}
use Rattle.std.proofs.lemmas.List.{append-nil, length-map}
use Rattle.warc_frame.specs.Device.{Staged}
use Rattle.warc_frame.specs.Seen.{Seen}
use Rattle.warc_frame.specs.declared.fault.OutFault.{OutFault}
use Rattle.warc_reading.specs.Archive.{contents}
use Rattle.warc_checking.specs.Checking.{check_text, findings_of_archive, findings_of_records, line_text, no_records}
use Rattle.warc_reading.specs.Rereading.{AreCheckable}
use Rattle.warc_checking.specs.Lines.{PutsCheck, PutsFindingsOf, PutsLines, records_text}
use Rattle.warc_reading.specs.Row.{Placed, Row, row_of}

none_line : line_text no_records ≡ codes "- N12\n"
unfolding line_text digits
none_line = refl

text_of_none : (records : List Placed) → length records ≡ 0 → check_text (contents records) ≡ codes "- N12\n"
unfolding check_text
text_of_none [] is = append-nil (line_text no_records) ∙ none_line
text_of_none (p ∷ ps) is = let h : length ps + 1 ≡ 0 = omega (arith, is) in absurd (omega (arith, h))

text_of_some : (records : List Placed) → 0 < length records → check_text (contents records) ≡ records_text (contents records)
unfolding check_text
text_of_some [] some = absurd (omega (arith, some))
text_of_some (p ∷ ps) some = refl

number_of_none : (records : List Placed) → length records ≡ 0 → length (findings_of_archive (contents records)) ≡ 1
number_of_none [] is = refl
number_of_none (p ∷ ps) is = let h : length ps + 1 ≡ 0 = omega (arith, is) in absurd (omega (arith, h))

findings_of_some : (records : List Placed) → 0 < length records → findings_of_archive (contents records) ≡ findings_of_records (contents records)
findings_of_some [] some = absurd (omega (arith, some))
findings_of_some (p ∷ ps) some = refl

module _ (bytes : List ℕ) (records : List Placed) (rows : List Row) (can : AreCheckable bytes records rows) where
  as_many : length rows ≡ length records
  as_many = ap length can.rows_are ∙ length-map records row_of

  pub none_text : length rows ≡ 0 → check_text (contents records) ≡ codes "- N12\n"
  none_text is = text_of_none records (sym as_many ∙ is)

  pub none_number : length rows ≡ 0 → length (findings_of_archive (contents records)) ≡ 1
  none_number is = number_of_none records (sym as_many ∙ is)

  pub some_text : 0 < length rows → check_text (contents records) ≡ records_text (contents records)
  some_text lt = text_of_some records (omega (arith, as_many, lt))

  pub some_findings : 0 < length rows → findings_of_archive (contents records) ≡ findings_of_records (contents records)
  some_findings lt = findings_of_some records (omega (arith, as_many, lt))

-- the line that there is no record is what `check` reports of none
pub puts_none : {old new : Seen} {waits waiting : Staged} {answer : Result ℕ OutFault} (bytes : List ℕ) (records : List Placed) (rows : List Row)
    → AreCheckable bytes records rows → length rows ≡ 0 → PutsLines (codes "- N12\n") 1 old new waits waiting answer
    → PutsCheck (contents records) old new waits waiting answer
puts_none {old} {new} {waits} {waiting} {answer} bytes records rows can none puts =
    let P : List ℕ → ℕ → Type 0 = λ text count. PutsLines text count old new waits waiting answer in
    let Q : List ℕ → Type 0 = λ text. P text (length (findings_of_archive (contents records))) in
    subst Q (sym (none_text bytes records rows can none)) (subst (P (codes "- N12\n")) (sym (none_number bytes records rows can none)) puts)

-- the lines of findings are what it reports of some
pub puts_some : {old new : Seen} {waits waiting : Staged} {answer : Result ℕ OutFault} (bytes : List ℕ) (records : List Placed) (rows : List Row)
    → AreCheckable bytes records rows → 0 < length rows → PutsFindingsOf (contents records) old new waits waiting answer
    → PutsCheck (contents records) old new waits waiting answer
puts_some {old} {new} {waits} {waiting} {answer} bytes records rows can some puts =
    let P : List ℕ → ℕ → Type 0 = λ text count. PutsLines text count old new waits waiting answer in
    let Q : List ℕ → Type 0 = λ text. P text (length (findings_of_archive (contents records))) in
    let count = ap (λ l. length l) (sym (some_findings bytes records rows can some)) in
    subst Q (sym (some_text bytes records rows can some)) (subst (P (records_text (contents records))) count puts)

-- The lines of findings, and what a record's row says about it.
use Rattle.std.proofs.Common.{◌≡◌, ℕ, ◌++◌, List, [], ◌∷◌, map, codes, decimal, unwrap_or, append_assoc, sym, ap, ◌∙◌, refl, subst, Result}
use Rattle.std.proofs.lemmas.Grind.{flat_map-append}
use Rattle.std.proofs.lemmas.List.{append-nil, map-append}
use Rattle.std.specs.List.{concat, flat_map}
use Rattle.warc_frame.specs.Device.{Staged}
use Rattle.warc_frame.specs.Effects.{Puts}
use Rattle.warc_frame.specs.Seen.{Seen}
use Rattle.warc_frame.specs.declared.send.SendFault.{SendFault}
use Rattle.warc_record.specs.Findings.{SeenFinding}
use Rattle.warc_record.specs.Good.{SaysAll}
use Rattle.warc_record.specs.Ids.{id_key}
use Rattle.warc_record.specs.Readings.{reading_of}
use Rattle.warc_reading.specs.Row.{Placed, Row, row_of}
use Rattle.warc_checking.specs.Checking.{about_record, record_key, line_text, numbered_line}
use Rattle.warc_checking.specs.Lines.{record_lines}

-- a text is put as an equal one
pub puts_same : {X : Type 0} {old new : Seen} {waits waiting : Staged} {answer : Result X SendFault} {a b : List ℕ} → a ≡ b → Puts old new waits waiting answer a
    → Puts old new waits waiting answer b
puts_same {X} {old} {new} {waits} {waiting} {answer} same puts = let P : List ℕ → Type 0 = λ l. Puts old new waits waiting answer l in subst P same puts

-- the id in a good record's row has its key
pub key_by_row : (p : Placed) (row : Row) → row ≡ row_of p → SaysAll (reading_of p.content.fields) → record_key p.content ≡ id_key row.id
key_by_row p row same says =
    says.id_is ∙ sym says.id_reads ∙ ap id_key (sym (ap (λ o. unwrap_or o []) says.id_text_is)) ∙ sym (ap (λ (r : Row). id_key r.id) same)

six : (a b c d e f : List ℕ) → concat (a ∷ b ∷ c ∷ d ∷ e ∷ f ∷ []) ≡ a ++ b ++ c ++ (d ++ e) ++ f
six a b c d e f = simp (append_assoc, append-nil)

-- the pieces that a line is put together from
pub finding_line : (position number : ℕ) (a c d e : List ℕ) → a ≡ decimal position → c ≡ decimal number
    → concat (a ∷ codes " N" ∷ c ∷ d ∷ e ∷ codes "\n" ∷ []) ≡ numbered_line (decimal position) number (d ++ e)
finding_line position number a c d e is_a is_c = six a (codes " N") c d e (codes "\n") ∙ rw (is_a, is_c) refl

pub text_append : (position : ℕ) (xs ys : List SeenFinding) → record_lines position (xs ++ ys) ≡ record_lines position xs ++ record_lines position ys
text_append position xs ys = ap (flat_map line_text) (map-append (about_record position) xs ys) ∙ flat_map-append line_text (map (about_record position) xs) (map (about_record position) ys)

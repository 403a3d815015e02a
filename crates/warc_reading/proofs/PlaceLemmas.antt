-- The heads of records that bytes spell stand where the records' places say.
use Rattle.std.proofs.Common.{◌≡◌, ℕ, zero, suc, ◌+◌, ◌-◌, ◌≤◌, List, [], ◌∷◌, ◌++◌, length, take, drop, slice_range, Some, None, Ok, append_assoc, length-append, refl, sym, ap, subst, ◌∙◌, arith}
use Rattle.std.proofs.Math.Seq.{drop-append_seam}
use Rattle.std.proofs.lemmas.List.{take-append-le}
use Rattle.std.specs.List.{slice_get}
use Rattle.warc_field.specs.Lines.{crlf}
use Rattle.warc_frame.specs.Faults.{AllAccepted}
use Rattle.warc_frame.specs.Reading.{Judgement, any_fields, head_of}
use Rattle.warc_frame.specs.Record.{Record, head_text, max_archive}
use Rattle.warc_frame.specs.Spelling.{Spells}
use Rattle.warc_record.specs.Heads.{head_fault}
use Rattle.warc_reading.specs.Archive.{AreRowsOf, Contents, IsArchiveOf, SpellsFrom, contents}
use Rattle.warc_reading.specs.Rereading.{AreCheckable, HasHead}
use Rattle.warc_reading.specs.Row.{Placed, Row}
use Rattle.warc_reading.proofs.GoodLemmas.{accepted}
use Rattle.warc_reading.proofs.RemainLemmas.{written}

-- what is known of the head of a record that a text spells
abbrev pub HeadsAreRead : Type 0
HeadsAreRead = (judge : Judgement) (r : Record) (text : List ℕ) (n : ℕ) → Spells r text → judge r.fields ≡ None → n + length r.block + 4 ≡ length text
    → head_of judge (take n text) ≡ Ok (record { version = r.version; fields = r.fields; len = n; block_len = length r.block })

front_len : (head block : List ℕ) → length (head ++ block ++ crlf ++ crlf) ≡ length head + length block + 4
front_len head block = simp length-append (omega arith)

pub head_here : HeadsAreRead → (q : ℕ) (p : Placed) (before front rest : List ℕ) → q ≡ length before → (one : Spells p.content front) → p.offset ≡ q
    → p.block_start + length p.content.block + 4 ≡ q + length front → head_fault p.content.fields ≡ None → HasHead (before ++ (front ++ rest)) p
head_here law q p before front rest q_is one at start good =
    let head = head_text p.content.version one.area in
    let n = length head in
    let size : n + length p.content.block + 4 ≡ length front = sym (ap length one.text_is ∙ front_len head p.content.block) in
    let start_is : p.block_start ≡ p.offset + n = omega (arith, start, size, at) in
    let len : p.block_start - p.offset ≡ n = omega (arith, start_is) in
    let le : n ≤ length front = omega (arith, size) in
    let text : slice_range (before ++ (front ++ rest)) p.offset p.block_start ≡ take n front =
    ap (λ k. take k (drop p.offset (before ++ (front ++ rest)))) len ∙ ap (λ k. take n (drop k (before ++ (front ++ rest)))) (at ∙ q_is)
    ∙ ap (take n) (drop-append_seam before (front ++ rest)) ∙ take-append-le n front rest le in
    record {
      len = n;
      start = start_is;
      within = omega (arith, start_is, at, q_is, le, length-append before (front ++ rest), length-append front rest);
      short = one.head;
      reads = ap (head_of any_fields) text ∙ law any_fields p.content front n one refl size;
      good = good;
    }

heads_from : HeadsAreRead → (q : ℕ) (before : List ℕ) (records : List Placed) (text : List ℕ) → q ≡ length before → SpellsFrom q records text
    → AllAccepted head_fault (contents records) → (i : ℕ) (p : Placed) → slice_get records i ≡ Some p → HasHead (before ++ text) p
heads_from law q before [] text q_is spelled good i p is = absurd (cc is)
heads_from law q before (r ∷ rs) text q_is (front, rest, one, at, start, text_is, more) good zero p is =
    let same : r ≡ p = cc is in
    let P : List ℕ → Type 0 = λ t. HasHead (before ++ t) p in
    let Q : Placed → Type 0 = λ s. HasHead (before ++ (front ++ rest)) s in
    subst P (sym text_is) (subst Q same (head_here law q r before front rest q_is one at start good.0))
heads_from law q before (r ∷ rs) text q_is (front, rest, one, at, start, text_is, more) good (suc i) p is =
    let size : q + length front ≡ length (before ++ front) = sym (length-append before front ∙ ap (λ n. n + length front) (sym q_is)) in
    let whole : (before ++ front) ++ rest ≡ before ++ text = append_assoc before front rest ∙ ap (λ t. before ++ t) (sym text_is) in
    let P : List ℕ → Type 0 = λ t. HasHead t p in
    subst P whole (heads_from law (q + length front) (before ++ front) rs rest size more good.1 i p is)

-- the records of an archive can be checked
checkable : HeadsAreRead → (bytes : List ℕ) (rows : List Row) (are : AreRowsOf bytes rows) → length bytes ≤ max_archive
    → AreCheckable bytes are.records rows
checkable law bytes rows are short = record {
  placed = record { short = short; each = written bytes are.records are.spelled };
  heads = heads_from law 0 [] are.records bytes refl are.spelled (accepted (contents are.records) are.good);
  rows_are = are.rows_are;
}

pub checkable_archive : HeadsAreRead → (bytes : List ℕ) (seen : List Row) (is : IsArchiveOf bytes seen) (rows : List Row) → rows ≡ seen
    → AreCheckable bytes is.are.records rows
checkable_archive law bytes seen is rows same =
    let P : List Row → Type 0 = λ l. AreCheckable bytes is.are.records l in
    subst P (sym same) (checkable law bytes seen is.are is.short)

-- what two equal archives have
pub same_rows : {S : Type 0} {a b : Contents S} → a ≡ b → a.rows ≡ b.rows
same_rows {S} same = ap (λ (c : Contents S). c.rows) same

pub same_source : {S : Type 0} {a b : Contents S} → a ≡ b → a.source ≡ b.source
same_source {S} same = ap (λ (c : Contents S). c.source) same

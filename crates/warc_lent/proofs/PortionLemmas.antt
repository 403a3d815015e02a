-- What is put of a portion, and what is left where none is.
use Rattle.std.proofs.Common.{◌≡◌, ◌∙◌, ℕ, ◌+◌, ◌≤◌, List, [], ◌++◌, length, take, drop, Option, Some, None, true, Ok, Err, inl, inr, append_assoc, refl, sym, ap, subst, arith}
use Rattle.std.specs.List.{slice_get}
use Rattle.std.proofs.lemmas.List.{append-nil, length-append, length-map}
use Rattle.std.proofs.lemmas.Option.{slice_get_cases}
use Rattle.std.proofs.Math.Seq.{drop-append_seam, take-append_seam}
use Rattle.warc_field.specs.Lines.{crlf}
use Rattle.warc_reading.specs.Archive.{IsArchiveOf, contents}
use Rattle.warc_reading.specs.Row.{Row, row_of}
use Rattle.warc_frame.specs.declared.fault.EarlyFault.{EarlyFault}
use Rattle.warc_frame.specs.declared.fault.EarlyFault.TheVariants.{Memory}
use Rattle.warc_rewrite.specs.Selecting.{record_bytes}
use Rattle.warc_portions.specs.Outputs.{EndsAfterRecords, IsAny, IsFollowed, IsNextPortion, Left, NothingIsLeft, left_selected}
use Rattle.warc_portions.specs.Portions.{IsPortionOf, IsRecordPlace}
use Rattle.warc_portions.specs.declared.next.Cursor.{Cursor}
use Rattle.warc_portions.specs.declared.portion.Portion.{Portion}
use Rattle.warc_lent.specs.Buffers.{HoldsFront}
use Rattle.warc_lent.specs.Portions.{IsPortionPut, PutsNext, problem_of_reread}
use Rattle.warc_lent.specs.declared.portions.PortionNumbers.{PortionNumbers}
use Rattle.warc_lent.specs.declared.problem.Problem.TheVariants as problems

-- a head, with what closes its record after it, is the text of its portion
pub portion_put : {A : Type 0} (portion : Portion A) (lent bytes : List ℕ) (numbers : PortionNumbers) (buffer : List ℕ)
    → numbers.before ≡ length portion.head.items → numbers.after ≡ 4 → numbers.offset ≡ portion.block_start
    → numbers.length ≡ portion.block_len → HoldsFront (portion.head.items ++ (crlf ++ crlf)) buffer
    → IsPortionOf portion lent bytes → IsPortionPut lent bytes numbers buffer
portion_put {A} portion lent bytes numbers buffer before after start len front of =
    let head = portion.head.items in
    let span = take portion.block_len (drop portion.block_start lent) in
    let four : length (crlf ++ crlf) ≡ 4 = refl in
    let joined : head ++ span ++ crlf ++ crlf ≡ head ++ span ++ (crlf ++ crlf) = append_assoc (head ++ span) crlf crlf in
    record {
      text = head ++ (crlf ++ crlf);
      length_is = omega (arith, length-append head (crlf ++ crlf), four, before, after);
      front = front;
      range = (omega (arith, of.range.0, start, len), of.range.1);
      is = rw (before, start, len, take-append_seam head (crlf ++ crlf), drop-append_seam head (crlf ++ crlf)) (of.is ∙ joined);
    }

-- it is the next one
pub next_put : {A : Type 0} (left : Left) (MayBe : Cursor → Type 0) (cursor : Cursor) (lent : List ℕ) (portion : Portion A) (next : Cursor)
    (numbers : PortionNumbers) (buffer : List ℕ) → IsNextPortion left MayBe cursor lent (Ok (portion, next)) → numbers.next ≡ next
    → ((bytes : List ℕ) → IsPortionOf portion lent bytes → IsPortionPut lent bytes numbers buffer)
    → PutsNext left MayBe cursor lent (Ok true) numbers buffer
next_put {A} left MayBe cursor lent portion next numbers buffer (text, of, followed) same put =
    (text, put text of, subst (λ c. IsFollowed left MayBe cursor text c) (sym same) followed)

pub next_refused : (fault : EarlyFault) → fault ≡ Memory → problem_of_reread fault ≡ problems.Memory
next_refused fault is = ap problem_of_reread is

past : {X : Type 0} (xs : List X) (i : ℕ) → slice_get xs i ≡ None → length xs ≤ i
past {X} xs i none = elim ((slice_get_cases xs i).1) [
  | inl (x, lt, here, same) ↦ let no : ◌≡◌ {A = Option X} None (Some x) = sym none ∙ here in absurd (cc no)
  | inr (le, same) ↦ le
]

-- after the last record nothing is left
pub none_left : EndsAfterRecords → (bytes : List ℕ) (rows : List Row) (is : IsArchiveOf bytes rows) (cursor : Cursor)
    → slice_get rows cursor.place ≡ None → NothingIsLeft (contents is.are.records) cursor
none_left ends bytes rows is cursor none =
    let records = is.are.records in
    let size : length (contents records) ≡ length records = length-map records (λ p. p.content) in
    let same : length rows ≡ length records = ap length is.are.rows_are ∙ length-map records row_of in
    ends (contents records) cursor (omega (arith, past rows cursor.place none, size, same))

-- the bytes of a selected record, which are where its row says
pub selected_put : (rows : List Row) (positions bytes : List ℕ) (cursor : Cursor) (row : Row) (numbers : PortionNumbers)
    → IsRecordPlace bytes row numbers.offset numbers.length → numbers.before ≡ 0 → numbers.after ≡ 0
    → IsFollowed (left_selected rows positions bytes) IsAny cursor (record_bytes bytes row) numbers.next
    → PutsNext (left_selected rows positions bytes) IsAny cursor bytes (Ok true) numbers []
selected_put rows positions bytes cursor row numbers there before after followed = (
  record_bytes bytes row,
  record {
    text = [];
    length_is = omega (arith, before, after);
    front = refl;
    range = there.range;
    is = rw before (sym there.is ∙ sym (append-nil (take numbers.length (drop numbers.offset bytes))));
  },
  followed,
)

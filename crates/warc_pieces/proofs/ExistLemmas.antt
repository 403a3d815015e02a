-- All bytes have pieces.
use Rattle.std.proofs.Common.{◌≡◌, ℕ, zero, suc, ◌+◌, ◌<◌, ◌≤◌, List, [], ◌∷◌, ◌++◌, length, length-drop, drop, append_assoc, Option, None, Some, Ok, Err, Result, refl, sym, ap, subst, ◌∙◌, arith, ◌⊎◌, ⊎_elim, inl, inr}
use Rattle.std.proofs.lemmas.Bool.{cases_lt}
use Rattle.warc_frame.specs.Faults.{HasFault, ReadsAs}
use Rattle.warc_frame.specs.Reading.{record_of}
use Rattle.warc_frame.specs.Record.{Record}
use Rattle.warc_frame.specs.declared.fault.Fault.{Fault}
use Rattle.warc_frame.proofs.LawLemmas.{reading_is_spelling-read, reading_is_unique-some}
use Rattle.warc_frame.proofs.SpellLemmas.{spells_some}
use Rattle.warc_record.specs.Heads.{head_fault}
use Rattle.warc_record.proofs.GoodLemmas.{good_heads_have_no_fault}
use Rattle.warc_reading.specs.Fronts.{BeginsWithNone}
use Rattle.warc_pieces.specs.Laws.{PiecesExist}
use Rattle.warc_pieces.specs.Pieces.{ArePiecesFrom, BeginsWithOne, IsDamage, IsPiece, IsRun, piece_len, near}
use Rattle.warc_pieces.specs.declared.piece.Piece.{Piece}
use Rattle.warc_pieces.specs.declared.piece.Piece.TheVariants.{Records, Damage}
use Rattle.warc_pieces.proofs.PieceLemmas.{no_bytes}
use Rattle.warc_pieces.proofs.UniqueLemmas.{piece_some}

-- what has a fault begins with no good record
pub no_record : (q : ℕ) (text : List ℕ) (found : Option Fault) → HasFault head_fault q text found → BeginsWithNone text
no_record q text None none = λ r front more whole spelled good. spells_some r front more spelled (sym whole ∙ none)
no_record q text (Some f) (some, g, fails, is) = λ r front more whole spelled good.
    let read : record_of head_fault text ≡ Ok (r, length front) =
    ap (record_of head_fault) whole ∙ reading_is_spelling-read head_fault r front more spelled ((good_heads_have_no_fault r.fields).0 good.head) in
    let both : ◌≡◌ {A = Result (Record × ℕ) Fault} (Err g) (Ok (r, length front)) = sym fails ∙ read in
    cc both

one_by : (q : ℕ) (text : List ℕ) (r : Record) (rs : List Record) (found : Option Fault) → ReadsAs head_fault q text (r ∷ rs) found → BeginsWithOne text
one_by q text r rs found reads =
    let (first, more, one, is, later) = reads.spelled in
    record {
      content = r;
      front = first;
      rest = more ++ reads.rest;
      text_is = reads.text ∙ ap (λ f. f ++ reads.rest) is ∙ append_assoc first more reads.rest;
      spelled = one;
      good = record { framed = one.framed; head = (good_heads_have_no_fault r.fields).1 reads.accepted.0 };
    }

-- a text in which no record is read begins with none
pub none_by : (q : ℕ) (text : List ℕ) (found : Option Fault) → ReadsAs head_fault q text [] found → BeginsWithNone text
none_by q text found reads =
    let whole : reads.rest ≡ text = sym (reads.text ∙ ap (λ f. f ++ reads.rest) reads.spelled) in
    let P : List ℕ → Type 0 = λ t. BeginsWithNone t in
    subst P whole (no_record (q + length reads.front) reads.rest found reads.fault_is)

begins_by : (q : ℕ) (text : List ℕ) (records : List Record) (found : Option Fault) → ReadsAs head_fault q text records found → BeginsWithOne text ⊎ BeginsWithNone text
begins_by q text [] found reads = inr (none_by q text found reads)
begins_by q text (r ∷ rs) found reads = inl (one_by q text r rs found reads)

-- a text begins with a good record, or with none
pub one_or_none : (text : List ℕ) → BeginsWithOne text ⊎ BeginsWithNone text
one_or_none text =
    let (records, found, reads) = reading_is_unique-some head_fault 0 text in
    begins_by 0 text records found reads

-- the least length, not less than `from`, after which a good record begins or the text ends
record IsGap (text : List ℕ) (from len : ℕ) : Type 0 where
  after : from ≤ len
  within : len ≤ length text
  none : (n : ℕ) → n < len → BeginsWithNone (drop n text)
  next : (len ≡ length text) ⊎ BeginsWithOne (drop len text)

none_more : (text : List ℕ) (from : ℕ) → ((n : ℕ) → n < from → BeginsWithNone (drop n text)) → BeginsWithNone (drop from text) → (n : ℕ) → n < from + 1 → BeginsWithNone (drop n text)
none_more text from before here n less = ⊎_elim
    (λ (l : n < from). before n l)
    (λ (l : from ≤ n).
    let same : from ≡ n = omega (arith, l, less) in
    let P : ℕ → Type 0 = λ k. BeginsWithNone (drop k text) in
    subst P same here)
    (cases_lt n from)

gap : (left from : ℕ) (text : List ℕ) → from + left ≡ length text → ((n : ℕ) → n < from → BeginsWithNone (drop n text)) → (len : ℕ) × IsGap text from len
gap zero from text whole before =
    (from, record { after = omega arith; within = omega (arith, whole); none = before; next = inl (omega (arith, whole)) })
gap (suc left) from text whole before = ⊎_elim
    (λ (one : BeginsWithOne (drop from text)). (from, record { after = omega arith; within = omega (arith, whole); none = before; next = inr one }))
    (λ (none : BeginsWithNone (drop from text)).
    let (len, is) = gap left (from + 1) text (omega (arith, whole)) (none_more text from before none) in
    (len, record { after = let low = is.after in omega (arith, low); within = is.within; none = is.none; next = is.next }))
    (one_or_none (drop from text))

-- no byte before the first one
first_none : (text : List ℕ) → BeginsWithNone text → (n : ℕ) → n < 1 → BeginsWithNone (drop n text)
first_none text none n less =
    let same : 0 ≡ n = omega (arith, less) in
    let P : ℕ → Type 0 = λ k. BeginsWithNone (drop k text) in
    subst P same none

some_damage : (at : ℕ) (text : List ℕ) (left : ℕ) (f : Fault) → 1 + left ≡ length text → ReadsAs head_fault at text [] (Some f) → (len : ℕ) × IsDamage at text len f
some_damage at text left f size reads =
    let (len, is) = gap left 1 text size (first_none text (none_by at text (Some f) reads)) in
    let low = is.after in
    (len, record { fault_is = reads; some = omega (arith, low); within = is.within; none = is.none; next = is.next })

piece_by : (at left : ℕ) (text : List ℕ) (records : List Record) (found : Option Fault) → 1 + left ≡ length text → ReadsAs head_fault at text records found → (piece : Piece) × IsPiece at text piece
piece_by at left text [] None size reads =
    let none : text ≡ [] = reads.text ∙ ap (λ f. f ++ reads.rest) reads.spelled ∙ reads.fault_is in
    absurd (omega (arith, size, ap length none))
piece_by at left text [] (Some f) size reads =
    let (len, damage) = some_damage at text left f size reads in
    (Damage at len f, (refl, damage))
piece_by at left text (r ∷ rs) found size reads =
    let run : IsRun at text (length (r ∷ rs)) (length reads.front) found = record { records = r ∷ rs; reads = reads; count_is = refl; len_is = refl } in
    (Records at (length reads.front) (length (r ∷ rs)), (refl, omega arith, found, run))

-- a text that isn't empty has a first piece
pub some_piece : (at left : ℕ) (text : List ℕ) → 1 + left ≡ length text → (piece : Piece) × IsPiece at text piece
some_piece at left text size =
    let (records, found, reads) = reading_is_unique-some head_fault at text in
    piece_by at left text records found size reads

some_pieces : (left at : ℕ) (text : List ℕ) → length text ≤ left → (pieces : List Piece) × ArePiecesFrom at text pieces
some_pieces zero at text few = ([], no_bytes text (omega (arith, few)))
some_pieces (suc left) at [] few = ([], refl)
some_pieces (suc left) at (b ∷ bs) few =
    let text : List ℕ = b ∷ bs in
    let (piece, is) = some_piece at (length bs) text (omega arith) in
    let n = piece_len piece in
    let fewer : length (drop n text) ≤ left = omega (arith, few, length-drop n text, piece_some at text piece is) in
    let (pieces, are) = some_pieces left (at + n) (drop n text) fewer in
    (piece ∷ pieces, (is, are))

pub pieces_exist : PiecesExist
pieces_exist bytes = some_pieces (length (near bytes)) 0 (near bytes) (omega arith)

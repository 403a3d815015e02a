-- The laws of pieces.
use Rattle.std.proofs.Common.{◌≡◌, ◌≢◌, ℕ, ◌+◌, ◌<◌, ◌≤◌, List, [], ◌∷◌, ◌++◌, append_assoc, length, length-drop, drop, Option, None, Some, refl, sym, ap, subst, ◌∙◌, arith, ⊎_elim}
use Rattle.std.specs.List.{AllByRecursion, sum_by}
use Rattle.std.proofs.Math.Seq.{drop-length}
use Rattle.std.proofs.lemmas.List.Sums.{sum_by-cons}
use Rattle.std.proofs.lemmas.Bool.{false≢true, true≢false}
use Rattle.std.proofs.lemmas.List.{append-nil, length-map, take_all}
use Rattle.warc_frame.specs.Faults.{HasFault, ReadsAs}
use Rattle.warc_frame.specs.Record.{Record, max_archive}
use Rattle.warc_frame.specs.declared.fault.Fault.{Fault}
use Rattle.warc_frame.proofs.LawLemmas.{reading_is_unique-some}
use Rattle.warc_record.specs.Heads.{head_fault}
use Rattle.warc_record.proofs.GoodLemmas.{good_heads_have_no_fault}
use Rattle.warc_reading.specs.Archive.{IsArchiveOf, contents}
use Rattle.warc_reading.specs.Fronts.{BeginsWithNone, IsLongestFront}
use Rattle.warc_reading.specs.Row.{Placed, Row, row_of}
use Rattle.warc_reading.proofs.GoodLemmas.{accepted}
use Rattle.warc_reading.proofs.StreamLemmas.{spells_all}
use Rattle.warc_pieces.specs.Laws.{AreApart, ArchiveIsOnePiece, BeginWith, FollowFrom, FrontIsFirstPiece, PiecesAreApart, PiecesAreUnique, PiecesFollow, PiecesHaveBytes, PiecesSum, is_damage, pieces_of_archive}
use Rattle.warc_pieces.specs.Pieces.{ArePiecesFrom, BeginsWithOne, IsDamage, IsPiece, piece_len, near}
use Rattle.warc_pieces.specs.Pieces.{IsRun}
use Rattle.warc_pieces.specs.declared.piece.Piece.{Piece}
use Rattle.warc_pieces.specs.declared.piece.Piece.TheVariants.{Records, Damage}
use Rattle.warc_pieces.proofs.PieceLemmas.{piece_within}
use Rattle.warc_pieces.proofs.UniqueLemmas.{after_run, damage_one, damage_run, empty_run, none_spelled, piece_some, run_one, run_or_damage}

-- ---- pieces cover their text

lens_sum : (at : ℕ) (text : List ℕ) (pieces : List Piece) → ArePiecesFrom at text pieces → sum_by piece_len pieces ≡ length text
lens_sum at text [] is = sym (ap length is)
lens_sum at text (piece ∷ pieces) (one, more) =
    let n = piece_len piece in
    let later = lens_sum (at + n) (drop n text) pieces more in
    let sum : piece_len piece + sum_by piece_len pieces ≡ length text = omega (arith, later, length-drop n text, piece_within at text piece one) in
    sum_by-cons piece_len piece pieces ∙ sum

pub pieces_sum : PiecesSum
pieces_sum bytes pieces are = lens_sum 0 (near bytes) pieces are

follow : (at : ℕ) (text : List ℕ) (pieces : List Piece) → ArePiecesFrom at text pieces → FollowFrom at pieces
follow at text [] is = tt
follow at text (Records offset len count ∷ pieces) ((is, some, found, run), more) = (is, follow (at + len) (drop len text) pieces more)
follow at text (Damage offset len fault ∷ pieces) ((is, damage), more) = (is, follow (at + len) (drop len text) pieces more)

pub pieces_follow : PiecesFollow
pieces_follow bytes pieces are = follow 0 (near bytes) pieces are

have_bytes : (at : ℕ) (text : List ℕ) (pieces : List Piece) → ArePiecesFrom at text pieces → AllByRecursion (λ piece. 0 < piece_len piece) pieces
have_bytes at text [] is = tt
have_bytes at text (piece ∷ pieces) (one, more) =
    (piece_some at text piece one, have_bytes (at + piece_len piece) (drop (piece_len piece) text) pieces more)

pub pieces_have_bytes : PiecesHaveBytes
pieces_have_bytes bytes pieces are = have_bytes 0 (near bytes) pieces are

-- after damage comes no damage
no_damage : (at : ℕ) (text : List ℕ) (l m : ℕ) (f g : Fault) → IsDamage at text l f → IsDamage (at + l) (drop l text) m g → ⊥
no_damage at text l m f g a b = ⊎_elim
    (λ (whole : l ≡ length text). absurd (omega (arith, whole, b.some, b.within, length-drop l text)))
    (λ (one : BeginsWithOne (drop l text)). b.none 0 b.some one.content one.front one.rest one.text_is one.spelled one.good)
    a.next

differ : (at : ℕ) (text : List ℕ) (one next : Piece) → IsPiece at text one → IsPiece (at + piece_len one) (drop (piece_len one) text) next → is_damage one ≢ is_damage next
differ at text (Records o l c) (Records p m d) (is, some, found, run) (at_it, more, other, it) =
    let none = (run_one (at + l) (drop l text) 0 d 0 m found other (after_run at text c l found run) it).0 in
    absurd (omega (arith, none, more))
differ at text (Records o l c) (Damage p m g) is next = false≢true
differ at text (Damage o l f) (Records p m d) is next = true≢false
differ at text (Damage o l f) (Damage p m g) (is, damage) (at_it, next) = absurd (no_damage at text l m f g damage next)

apart : (at : ℕ) (text : List ℕ) (pieces : List Piece) → ArePiecesFrom at text pieces → AreApart pieces
apart at text [] is = tt
apart at text (piece ∷ []) is = tt
apart at text (one ∷ next ∷ pieces) (is, (also, more)) =
    (differ at text one next is also, apart (at + piece_len one) (drop (piece_len one) text) (next ∷ pieces) (also, more))

pub pieces_are_apart : PiecesAreApart
pieces_are_apart bytes pieces are = apart 0 (near bytes) pieces are

-- ---- an archive is one run

-- bytes that have no more than an archive may have are near
pub near_all : (bytes : List ℕ) → length bytes ≤ max_archive → near bytes ≡ bytes
unfolding near
near_all bytes short = take_all max_archive bytes short

pub archive_count : (bytes : List ℕ) (rows : List Row) (is : IsArchiveOf bytes rows) → length rows ≡ length (contents is.are.records)
archive_count bytes rows is =
    ap (λ l. length l) is.are.rows_are ∙ length-map is.are.records row_of ∙ sym (length-map is.are.records (λ (p : Placed). p.content))

-- an archive before other bytes that begin with no record
pub front_run : (at : ℕ) (front rest : List ℕ) (rows : List Row) (found : Option Fault) → IsArchiveOf front rows → HasFault head_fault (at + length front) rest found
    → IsRun at (front ++ rest) (length rows) (length front) found
front_run at front rest rows found is ends = record {
  records = contents is.are.records;
  reads = record {
    front = front;
    rest = rest;
    text = refl;
    spelled = spells_all 0 is.are.records front is.are.spelled;
    accepted = accepted (contents is.are.records) is.are.good;
    fault_is = ends;
  };
  count_is = archive_count front rows is;
  len_is = refl;
}

pub archive_run : (at : ℕ) (bytes : List ℕ) (rows : List Row) → IsArchiveOf bytes rows → IsRun at bytes (length rows) (length bytes) None
archive_run at bytes rows is =
    let R : List ℕ → Type 0 = λ t. IsRun at t (length rows) (length bytes) None in
    subst R (append-nil bytes) (front_run at bytes [] rows None is refl)

-- an archive without records has no bytes
pub no_rows : (bytes : List ℕ) (rows : List Row) → IsArchiveOf bytes rows → length rows ≡ 0 → bytes ≡ []
no_rows bytes rows is none =
    none_spelled (contents is.are.records) bytes (spells_all 0 is.are.records bytes is.are.spelled) (sym (archive_count bytes rows is) ∙ none)

archive_pieces : (bytes : List ℕ) (rows : List Row) → IsArchiveOf bytes rows → ArePiecesFrom 0 bytes (pieces_of_archive (length bytes) (length rows))
archive_pieces bytes [] is = no_rows bytes [] is refl
archive_pieces bytes (row ∷ rows) is = ((refl, omega arith, None, archive_run 0 bytes (row ∷ rows) is), drop-length bytes)

pub archive_is_one_piece : ArchiveIsOnePiece
archive_is_one_piece bytes rows is =
    let P : List ℕ → Type 0 = λ t. ArePiecesFrom 0 t (pieces_of_archive (length bytes) (length rows)) in
    subst P (sym (near_all bytes is.short)) (archive_pieces bytes rows is)

-- ---- the longest front is the first run

none_reads_by : (q : ℕ) (text : List ℕ) (records : List Record) (found : Option Fault) → ReadsAs head_fault q text records found → BeginsWithNone text → HasFault head_fault q text found
none_reads_by q text [] found reads none =
    let whole : reads.rest ≡ text = sym (reads.text ∙ ap (λ f. f ++ reads.rest) reads.spelled) in
    let place : q + length reads.front ≡ q = let size = ap length reads.spelled in omega (arith, size) in
    let P : List ℕ → Type 0 = λ t. HasFault head_fault (q + length reads.front) t found in
    let Q : ℕ → Type 0 = λ k. HasFault head_fault k text found in
    subst Q place (subst P whole reads.fault_is)
none_reads_by q text (r ∷ rs) found reads none =
    let (first, more, one, is, later) = reads.spelled in
    let whole : text ≡ first ++ (more ++ reads.rest) = reads.text ∙ ap (λ f. f ++ reads.rest) is ∙ append_assoc first more reads.rest in
    let good = (good_heads_have_no_fault r.fields).1 reads.accepted.0 in
    absurd (none r first (more ++ reads.rest) whole one (record { framed = one.framed; head = good }))

-- what begins with no good record is empty or has a fault
pub none_reads : (q : ℕ) (text : List ℕ) → BeginsWithNone text → (found : Option Fault) × HasFault head_fault q text found
none_reads q text none =
    let (records, found, reads) = reading_is_unique-some head_fault q text in
    (found, none_reads_by q text records found reads none)

pub longest_run : (at : ℕ) (text : List ℕ) (rows : List Row) (is : IsLongestFront text rows) → (found : Option Fault) × IsRun at text (length rows) (length is.front) found
longest_run at text rows is =
    let (found, ends) = none_reads (at + length is.front) is.rest is.longest in
    let R : List ℕ → Type 0 = λ t. IsRun at t (length rows) (length is.front) found in
    (found, subst R (sym is.bytes_are) (front_run at is.front is.rest rows found is.are ends))

first_piece : (text : List ℕ) (pieces : List Piece) (n count : ℕ) (found : Option Fault) → IsRun 0 text count n found → ArePiecesFrom 0 text pieces → BeginWith pieces n count
first_piece text [] n count found run is =
    let same = run_one 0 text 0 count 0 n None found (empty_run 0 text is) run in
    (same.1, same.0)
first_piece text (Records o l c ∷ pieces) n count found run ((at_it, some, other, it), more) =
    let same = run_one 0 text c count l n other found it run in
    (same.1, same.0)
first_piece text (Damage o l f ∷ pieces) n count found run ((at_it, damage), more) =
    let same = run_one 0 text 0 count 0 n (Some f) found (damage_run 0 text l f damage) run in
    (same.1, same.0)

pub front_is_first_piece : FrontIsFirstPiece
front_is_first_piece bytes rows pieces is are =
    let (found, run) = longest_run 0 (near bytes) rows is in
    first_piece (near bytes) pieces (length is.front) (length rows) found run are

-- ---- a text has one list of pieces

-- it begins with one piece
pub piece_one : (at : ℕ) (text : List ℕ) (p q : Piece) → IsPiece at text p → IsPiece at text q → p ≡ q
piece_one at text (Records o l c) (Records p m d) (is, some, found, run) (at_it, more, other, it) =
    let same = run_one at text c d l m found other run it in
    ap (λ k. Records k l c) (is ∙ sym at_it) ∙ ap (λ k. Records p k c) same.1 ∙ ap (λ k. Records p m k) same.0
piece_one at text (Records o l c) (Damage p m g) (is, some, found, run) (at_it, damage) = absurd (run_or_damage at text c l m found g some run damage)
piece_one at text (Damage o l f) (Records p m d) (is, damage) (at_it, more, other, it) = absurd (run_or_damage at text d m l other f more it damage)
piece_one at text (Damage o l f) (Damage p m g) (is, damage) (at_it, it) =
    let same = damage_one at text l m f g damage it in
    ap (λ k. Damage k l f) (is ∙ sym at_it) ∙ ap (λ k. Damage p k f) same.0 ∙ ap (λ k. Damage p m k) same.1

-- no byte, no piece
pub no_piece : (at : ℕ) (text : List ℕ) (p : Piece) → text ≡ [] → IsPiece at text p → ⊥
no_piece at text p none is =
    let size = ap length none in
    absurd (omega (arith, size, piece_some at text p is, piece_within at text p is))

pub pieces_one : (at : ℕ) (text : List ℕ) (ps qs : List Piece) → ArePiecesFrom at text ps → ArePiecesFrom at text qs → ps ≡ qs
pieces_one at text [] [] one other = refl
pieces_one at text [] (q ∷ qs) one (first, more) = absurd (no_piece at text q one first)
pieces_one at text (p ∷ ps) [] (first, more) other = absurd (no_piece at text p other first)
pieces_one at text (p ∷ ps) (q ∷ qs) (one, more) (other, rest) =
    let same = piece_one at text p q one other in
    let R : Piece → Type 0 = λ x. ArePiecesFrom (at + piece_len x) (drop (piece_len x) text) qs in
    let later = pieces_one (at + piece_len p) (drop (piece_len p) text) ps qs more (subst R (sym same) rest) in
    ap (λ x. x ∷ ps) same ∙ ap (λ xs. q ∷ xs) later

pub pieces_are_unique : PiecesAreUnique
pieces_are_unique bytes one other a b = pieces_one 0 (near bytes) one other a b

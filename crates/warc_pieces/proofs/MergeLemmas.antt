-- The pieces of bytes with an archive put before them.
use Rattle.std.proofs.Common.{◌≡◌, ℕ, ◌+◌, ◌<◌, ◌≤◌, List, [], ◌∷◌, ◌++◌, length, length-append, map, drop, append_assoc, Option, None, Some, refl, sym, ap, subst, ◌∙◌, arith}
use Rattle.std.specs.Prelude.{option_map}
use Rattle.std.proofs.Math.Seq.{drop-append_seam, drop-append-add}
use Rattle.warc_frame.specs.Faults.{AllAccepted, HasFault, ReadsAs, following}
use Rattle.warc_frame.specs.Reading.{Judgement, fault}
use Rattle.warc_frame.specs.Record.{Record, max_archive}
use Rattle.warc_frame.specs.declared.fault.Fault.{Fault}
use Rattle.warc_record.specs.Heads.{head_fault}
use Rattle.warc_reading.specs.Archive.{IsArchiveOf, contents}
use Rattle.warc_reading.specs.Row.{Row}
use Rattle.warc_reading.proofs.GoodLemmas.{accepted}
use Rattle.warc_reading.proofs.StreamLemmas.{spells_all}
use Rattle.warc_pieces.specs.Laws.{ArchivePutBefore, merged, moved, pieces_of_archive}
use Rattle.warc_pieces.specs.Pieces.{ArePiecesFrom, IsDamage, IsPiece, IsRun}
use Rattle.warc_pieces.specs.declared.piece.Piece.{Piece}
use Rattle.warc_pieces.specs.declared.piece.Piece.TheVariants.{Records, Damage}
use Rattle.warc_pieces.proofs.LawLemmas.{archive_count, archive_is_one_piece, near_all, no_rows, pieces_are_unique}
use Rattle.warc_pieces.proofs.UniqueLemmas.{damage_run, empty_run}
use Rattle.warc_pieces.proofs.SalvageLemmas.{spells_both}

-- ---- the same text at a later offset

later_fault : (judge : Judgement) (n q : ℕ) (text : List ℕ) (found : Option Fault) → HasFault judge q text found → HasFault judge (n + q) text (option_map (following n) found)
later_fault judge n q text None is = is
later_fault judge n q text (Some f) (some, g, reads, is) =
    let place : n + (q + g.offset) ≡ (n + q) + g.offset = omega arith in
    (some, g, reads, ap (following n) is ∙ ap (fault g.kind) place)

later_reads : (judge : Judgement) (n q : ℕ) (text : List ℕ) (rs : List Record) (found : Option Fault) → ReadsAs judge q text rs found → ReadsAs judge (n + q) text rs (option_map (following n) found)
later_reads judge n q text rs found reads =
    let place : n + (q + length reads.front) ≡ (n + q) + length reads.front = omega arith in
    let P : ℕ → Type 0 = λ k. HasFault judge k reads.rest (option_map (following n) found) in
    record {
      front = reads.front;
      rest = reads.rest;
      text = reads.text;
      spelled = reads.spelled;
      accepted = reads.accepted;
      fault_is = subst P place (later_fault judge n (q + length reads.front) reads.rest found reads.fault_is);
    }

later_run : (n at : ℕ) (text : List ℕ) (count len : ℕ) (found : Option Fault) → IsRun at text count len found → IsRun (n + at) text count len (option_map (following n) found)
unfolding later_reads
later_run n at text count len found run = record {
  records = run.records;
  reads = later_reads head_fault n at text run.records found run.reads;
  count_is = run.count_is;
  len_is = run.len_is;
}

later_damage : (n at : ℕ) (text : List ℕ) (len : ℕ) (f : Fault) → IsDamage at text len f → IsDamage (n + at) text len (following n f)
later_damage n at text len f damage = record {
  fault_is = later_reads head_fault n at text [] (Some f) damage.fault_is;
  some = damage.some;
  within = damage.within;
  none = damage.none;
  next = damage.next;
}

later_pieces : (n at : ℕ) (text : List ℕ) (pieces : List Piece) → ArePiecesFrom at text pieces → ArePiecesFrom (n + at) text (map (moved n) pieces)
later_pieces n at text [] is = is
later_pieces n at text (Records offset len count ∷ pieces) ((is, some, found, run), more) =
    let P : ℕ → Type 0 = λ k. ArePiecesFrom k (drop len text) (map (moved n) pieces) in
    let place : n + (at + len) ≡ (n + at) + len = omega arith in
    let one : IsPiece (n + at) text (Records (n + offset) len count) = (ap (λ k. n + k) is, some, option_map (following n) found, later_run n at text count len found run) in
    (one, subst P place (later_pieces n (at + len) (drop len text) pieces more))
later_pieces n at text (Damage offset len f ∷ pieces) ((is, damage), more) =
    let P : ℕ → Type 0 = λ k. ArePiecesFrom k (drop len text) (map (moved n) pieces) in
    let place : n + (at + len) ≡ (n + at) + len = omega arith in
    let one : IsPiece (n + at) text (Damage (n + offset) len (following n f)) = (ap (λ k. n + k) is, later_damage n at text len f damage) in
    (one, subst P place (later_pieces n (at + len) (drop len text) pieces more))

-- ---- an archive before a run

accepts_both : (judge : Judgement) (rs ss : List Record) → AllAccepted judge rs → AllAccepted judge ss → AllAccepted judge (rs ++ ss)
accepts_both judge [] ss none all = all
accepts_both judge (r ∷ rs) ss (one, more) all = (one, accepts_both judge rs ss more all)

longer_run : (archive bytes : List ℕ) (rows : List Row) (is : IsArchiveOf archive rows) (count len : ℕ) (found : Option Fault) → IsRun (length archive) bytes count len found
    → IsRun 0 (archive ++ bytes) (length rows + count) (length archive + len) found
longer_run archive bytes rows is count len found run =
    let its = contents is.are.records in
    let front = run.reads.front in
    let all = archive ++ front in
    let place : length archive + length front ≡ 0 + length all = omega (arith, length-append archive front) in
    let P : ℕ → Type 0 = λ k. HasFault head_fault k run.reads.rest found in
    let number : length rows + count ≡ length (its ++ run.records) = omega (arith, archive_count archive rows is, run.count_is, length-append its run.records) in
    let size : length archive + len ≡ length all = omega (arith, run.len_is, length-append archive front) in
    record {
      records = its ++ run.records;
      reads = record {
        front = all;
        rest = run.reads.rest;
        text = ap (λ t. archive ++ t) run.reads.text ∙ sym (append_assoc archive front run.reads.rest);
        spelled = spells_both its run.records archive front (spells_all 0 is.are.records archive is.are.spelled) run.reads.spelled;
        accepted = accepts_both head_fault its run.records (accepted its is.are.good) run.reads.accepted;
        fault_is = subst P place run.reads.fault_is;
      };
      count_is = number;
      len_is = size;
    }

-- an archive before what begins with no record
whole_run : (archive bytes : List ℕ) (rows : List Row) → IsArchiveOf archive rows → (found : Option Fault) → IsRun (length archive) bytes 0 0 found → IsRun 0 (archive ++ bytes) (length rows) (length archive) found
whole_run archive bytes rows is found run =
    let text = archive ++ bytes in
    let count : length rows + 0 ≡ length rows = omega arith in
    let size : length archive + 0 ≡ length archive = omega arith in
    let P : ℕ → Type 0 = λ k. IsRun 0 text k (length archive + 0) found in
    let Q : ℕ → Type 0 = λ k. IsRun 0 text (length rows) k found in
    subst Q size (subst P count (longer_run archive bytes rows is 0 0 found run))

-- ---- an archive before pieces

module _ (archive bytes : List ℕ) (rows : List Row) (is : IsArchiveOf archive rows) (some : 0 < length rows) where
  others_later : (n : ℕ) (pieces : List Piece) → n ≡ length archive + 0 → ArePiecesFrom 0 bytes pieces → ArePiecesFrom n bytes (map (moved (length archive)) pieces)
  others_later n pieces at are =
      let P : ℕ → Type 0 = λ k. ArePiecesFrom k bytes (map (moved (length archive)) pieces) in
      subst P (sym at) (later_pieces (length archive) 0 bytes pieces are)

  before_pieces : (pieces : List Piece) → ArePiecesFrom 0 bytes pieces
      → ArePiecesFrom 0 (archive ++ bytes) (merged (Records 0 (length archive) (length rows) ∷ []) (map (moved (length archive)) pieces))
  before_pieces [] none =
      let run = whole_run archive bytes rows is None (empty_run (length archive) bytes none) in
      ((refl, some, None, run), drop-append_seam archive bytes ∙ none)
  before_pieces (Damage offset len f ∷ pieces) are =
      let n = length archive in
      let damage = later_damage n 0 bytes len f are.0.1 in
      let place : n + 0 ≡ n = omega arith in
      let D : ℕ → Type 0 = λ k. IsDamage k bytes len (following n f) in
      let run = whole_run archive bytes rows is (Some (following n f)) (damage_run n bytes len (following n f) (subst D place damage)) in
      let P : List ℕ → Type 0 = λ t. ArePiecesFrom (0 + n) t (map (moved n) (Damage offset len f ∷ pieces)) in
      let begin : 0 + n ≡ n + 0 = omega arith in
      let rest = others_later (0 + n) (Damage offset len f ∷ pieces) begin are in
      ((refl, some, Some (following n f), run), subst P (sym (drop-append_seam archive bytes)) rest)
  before_pieces (Records offset len count ∷ pieces) are =
      let n = length archive in
      let (here, more, found, run) = are.0 in
      let place : n + 0 ≡ n = omega arith in
      let R : ℕ → Type 0 = λ k. IsRun k bytes count len (option_map (following n) found) in
      let later = subst R place (later_run n 0 bytes count len found run) in
      let both : 0 < length rows + count = omega (arith, some) in
      let P : ℕ → Type 0 = λ k. ArePiecesFrom k (drop len bytes) (map (moved n) pieces) in
      let Q : List ℕ → Type 0 = λ t. ArePiecesFrom (0 + (n + len)) t (map (moved n) pieces) in
      let rest = later_pieces n (0 + len) (drop len bytes) pieces are.1 in
      let sum : n + (0 + len) ≡ 0 + (n + len) = omega arith in (
        (refl, both, option_map (following n) found, longer_run archive bytes rows is count len (option_map (following n) found) later),
        subst Q (sym (drop-append-add archive bytes len)) (subst P sum rest),
      )

before_all : (archive bytes : List ℕ) (rows : List Row) (pieces : List Piece) → IsArchiveOf archive rows → ArePiecesFrom 0 bytes pieces
    → ArePiecesFrom 0 (archive ++ bytes) (merged (pieces_of_archive (length archive) (length rows)) (map (moved (length archive)) pieces))
before_all archive bytes [] pieces is are =
    let none = no_rows archive [] is refl in
    let place : length archive + 0 ≡ 0 = let size = ap length none in omega (arith, size) in
    let P : ℕ → Type 0 = λ k. ArePiecesFrom k bytes (map (moved (length archive)) pieces) in
    let Q : List ℕ → Type 0 = λ t. ArePiecesFrom 0 (t ++ bytes) (map (moved (length archive)) pieces) in
    subst Q (sym none) (subst P place (later_pieces (length archive) 0 bytes pieces are))
before_all archive bytes (row ∷ rows) pieces is are = before_pieces archive bytes (row ∷ rows) is (omega arith) pieces are

pub archive_put_before : ArchivePutBefore
archive_put_before archive bytes rows its others is short one other =
    let low : length bytes ≤ max_archive = omega (arith, short, length-append archive bytes) in
    let same : its ≡ pieces_of_archive (length archive) (length rows) = pieces_are_unique archive its (pieces_of_archive (length archive) (length rows)) one (archive_is_one_piece archive rows is) in
    let B : List ℕ → Type 0 = λ t. ArePiecesFrom 0 t others in
    let all = before_all archive bytes rows others is (subst B (near_all bytes low) other) in
    let P : List ℕ → Type 0 = λ t. ArePiecesFrom 0 t (merged its (map (moved (length archive)) others)) in
    let Q : List Piece → Type 0 = λ l. ArePiecesFrom 0 (archive ++ bytes) (merged l (map (moved (length archive)) others)) in
    subst P (sym (near_all (archive ++ bytes) short)) (subst Q (sym same) all)

-- The bytes of all pieces of records, joined.
use Rattle.std.proofs.Common.{◌≡◌, ℕ, ◌+◌, ◌≤◌, List, [], ◌∷◌, ◌++◌, length, length-append, length-drop, take, drop, append_assoc, map, min, Option, refl, sym, ap, subst, ◌∙◌, arith}
use Rattle.std.specs.List.{sum_by}
use Rattle.std.proofs.Math.Seq.{take-append_seam}
use Rattle.std.proofs.lemmas.List.{drop-append-le, drop-drop, length-map, length-take, take-append-drop, take-append-le}
use Rattle.std.proofs.lemmas.List.Sums.{sum_by-cons}
use Rattle.warc_frame.specs.Record.{Record, head_text, max_archive}
use Rattle.warc_frame.specs.Spelling.{SpellsAll, record_text}
use Rattle.warc_frame.specs.declared.fault.Fault.{Fault}
use Rattle.warc_reading.specs.Archive.{AreGood, IsArchiveOf, SpellsFrom, contents}
use Rattle.warc_reading.specs.Row.{Placed, Row, row_of}
use Rattle.warc_reading.proofs.GoodLemmas.{are_good}
use Rattle.warc_pieces.specs.Laws.{HaveRecords, SalvagedIsAnArchive, count_in, salvaged}
use Rattle.warc_pieces.specs.Pieces.{ArePiecesFrom, IsRun, piece_len, near}
use Rattle.warc_pieces.specs.declared.piece.Piece.{Piece}
use Rattle.warc_pieces.specs.declared.piece.Piece.TheVariants.{Records, Damage}
use Rattle.warc_pieces.proofs.PieceLemmas.{piece_within}

-- ---- records after others

pub spells_both : (rs ss : List Record) (front more : List ℕ) → SpellsAll rs front → SpellsAll ss more → SpellsAll (rs ++ ss) (front ++ more)
spells_both [] ss front more none all =
    let P : List ℕ → Type 0 = λ t. SpellsAll ss (t ++ more) in
    subst P (sym none) all
spells_both (r ∷ rs) ss front more (first, rest, one, is, later) all =
    (first, rest ++ more, one, ap (λ t. t ++ more) is ∙ append_assoc first rest more, spells_both rs ss rest more later all)

good_both : (rs ss : List Record) → AreGood rs → AreGood ss → AreGood (rs ++ ss)
good_both [] ss none all = all
good_both (r ∷ rs) ss (one, more) all = (one, good_both rs ss more all)

-- ---- records at their places

text_len : (r : Record) (area : List ℕ) → length (record_text r area) ≡ length (head_text r.version area) + length r.block + 4
text_len r area = simp length-append (omega arith)

placed_from : (q : ℕ) (rs : List Record) (text : List ℕ) → SpellsAll rs text → (ps : List Placed) × SpellsFrom q ps text × (contents ps ≡ rs)
placed_from q [] text is = ([], is, refl)
placed_from q (r ∷ rs) text (front, rest, one, text_is, more) =
    let (ps, spelled, are) = placed_from (q + length front) rs rest more in
    let head = head_text r.version one.area in
    let size : length front ≡ length head + length r.block + 4 = ap (λ t. length t) one.text_is ∙ text_len r one.area in
    let p : Placed = record { offset = q; block_start = q + length head; content = r } in
    (p ∷ ps, (front, rest, one, refl, omega (arith, size), text_is, spelled), ap (λ l. r ∷ l) are)

-- good records that a short text spells are an archive of as many rows
pub archive_of_records : (rs : List Record) (text : List ℕ) → SpellsAll rs text → AreGood rs → length text ≤ max_archive → (rows : List Row) × (is : IsArchiveOf text rows) × (contents is.are.records ≡ rs) × (length rows ≡ length rs)
archive_of_records rs text spelled good short =
    let (ps, places, are) = placed_from 0 rs text spelled in
    let P : List Record → Type 0 = λ l. AreGood l in
    let count : length (map row_of ps) ≡ length rs = length-map ps row_of ∙ sym (length-map ps (λ (p : Placed). p.content)) ∙ ap (λ l. length l) are in
    (map row_of ps, record { short = short; are = record { records = ps; spelled = places; good = subst P (sym are) good; rows_are = refl } }, are, count)

-- ---- the same bytes of a longer text

part_of_longer : (text more : List ℕ) (at n : ℕ) → at + n ≤ length text → take n (drop at (text ++ more)) ≡ take n (drop at text)
part_of_longer text more at n within =
    let start : at ≤ length text = omega (arith, within) in
    let size : n ≤ length (drop at text) = omega (arith, within, length-drop at text) in
    ap (take n) (drop-append-le at text more start) ∙ take-append-le n (drop at text) more size

next_pieces : (at : ℕ) (text : List ℕ) (piece : Piece) (pieces : List Piece) → ArePiecesFrom (at + piece_len piece) (drop (piece_len piece) (drop at text)) pieces → ArePiecesFrom (at + piece_len piece) (drop (at + piece_len piece) text) pieces
next_pieces at text piece pieces are =
    let P : List ℕ → Type 0 = λ t. ArePiecesFrom (at + piece_len piece) t pieces in
    subst P (drop-drop (piece_len piece) at text) are

salvaged_of_longer : (at : ℕ) (text more : List ℕ) (pieces : List Piece) → at ≤ length text → ArePiecesFrom at (drop at text) pieces → salvaged (text ++ more) pieces ≡ salvaged text pieces
salvaged_of_longer at text more [] low is = refl
salvaged_of_longer at text more (Records offset len count ∷ pieces) low (one, later) =
    let size = piece_within at (drop at text) (Records offset len count) one in
    let within : at + len ≤ length text = omega (arith, low, size, length-drop at text) in
    let there : offset + len ≤ length text = omega (arith, within, one.0) in
    let rest = salvaged_of_longer (at + len) text more pieces within (next_pieces at text (Records offset len count) pieces later) in
    ap (λ t. t ++ salvaged (text ++ more) pieces) (part_of_longer text more offset len there) ∙ ap (λ t. take len (drop offset text) ++ t) rest
salvaged_of_longer at text more (Damage offset len fault ∷ pieces) low (one, later) =
    let size = piece_within at (drop at text) (Damage offset len fault) one in
    let within : at + len ≤ length text = omega (arith, low, size, length-drop at text) in
    salvaged_of_longer (at + len) text more pieces within (next_pieces at text (Damage offset len fault) pieces later)

records_of_longer : (at : ℕ) (text more : List ℕ) (pieces : List Piece) (records : List Record) → at ≤ length text → ArePiecesFrom at (drop at text) pieces → HaveRecords text pieces records → HaveRecords (text ++ more) pieces records
records_of_longer at text more [] records low is none = none
records_of_longer at text more (Records offset len count ∷ pieces) records low (one, later) (here, others, records_are, spelled, count_is, rest) =
    let size = piece_within at (drop at text) (Records offset len count) one in
    let within : at + len ≤ length text = omega (arith, low, size, length-drop at text) in
    let there : offset + len ≤ length text = omega (arith, within, one.0) in
    let P : List ℕ → Type 0 = λ t. SpellsAll here t in
    let all = records_of_longer (at + len) text more pieces others within (next_pieces at text (Records offset len count) pieces later) rest in
    (here, others, records_are, subst P (sym (part_of_longer text more offset len there)) spelled, count_is, all)
records_of_longer at text more (Damage offset len fault ∷ pieces) records low (one, later) has =
    let size = piece_within at (drop at text) (Damage offset len fault) one in
    let within : at + len ≤ length text = omega (arith, low, size, length-drop at text) in
    records_of_longer (at + len) text more pieces records within (next_pieces at text (Damage offset len fault) pieces later) has

-- ---- the records of all runs

-- the records of pieces, which are good and spelled by their joined bytes, up to a limit
record AreSaved (text : List ℕ) (pieces : List Piece) (most : ℕ) : Type 0 where
  records : List Record
  spelled : SpellsAll records (salvaged text pieces)
  good : AreGood records
  these : HaveRecords text pieces records
  count_is : length records ≡ sum_by count_in pieces
  few : length (salvaged text pieces) ≤ most

run_bytes : (at : ℕ) (text : List ℕ) (count len : ℕ) (found : Option Fault) (run : IsRun at text count len found) → take len text ≡ run.reads.front
run_bytes at text count len found run =
    ap (λ n. take n text) run.len_is ∙ ap (take (length run.reads.front)) run.reads.text ∙ take-append_seam run.reads.front run.reads.rest

saved : (at : ℕ) (text : List ℕ) (pieces : List Piece) → at ≤ length text → ArePiecesFrom at (drop at text) pieces → (most : ℕ) × (at + most ≤ length text) × AreSaved text pieces most
saved at text [] low is = (0, omega (arith, low), record { records = []; spelled = refl; good = tt; these = refl; count_is = refl; few = omega arith })
saved at text (Records offset len count ∷ pieces) low (one, later) =
    let piece : Piece = Records offset len count in
    let (is, some, found, run) = one in
    let size = piece_within at (drop at text) piece one in
    let within : at + len ≤ length text = omega (arith, low, size, length-drop at text) in
    let (most, room, rest) = saved (at + len) text pieces within (next_pieces at text piece pieces later) in
    let front : take len (drop offset text) ≡ run.reads.front = ap (λ k. take len (drop k text)) is ∙ run_bytes at (drop at text) count len found run in
    let bytes = salvaged text pieces in
    let P : List ℕ → Type 0 = λ t. SpellsAll run.records t in
    let here : SpellsAll run.records (take len (drop offset text)) = subst P (sym front) run.reads.spelled in
    let both : length run.records + length rest.records ≡ count + sum_by count_in pieces = omega (arith, run.count_is, rest.count_is) in
    let sum : length (take len (drop offset text) ++ bytes) ≤ len + most = omega (arith, length-append (take len (drop offset text)) bytes, ap length front, run.len_is, rest.few) in (
      len + most,
      omega (arith, room),
      record {
        records = run.records ++ rest.records;
        spelled = spells_both run.records rest.records (take len (drop offset text)) bytes here rest.spelled;
        good = good_both run.records rest.records (are_good run.records run.reads.front run.reads.spelled run.reads.accepted) rest.good;
        these = (run.records, rest.records, refl, here, sym run.count_is, rest.these);
        count_is = length-append run.records rest.records ∙ both ∙ sym (sum_by-cons count_in piece pieces);
        few = sum;
      },
    )
saved at text (Damage offset len fault ∷ pieces) low (one, later) =
    let piece : Piece = Damage offset len fault in
    let size = piece_within at (drop at text) piece one in
    let within : at + len ≤ length text = omega (arith, low, size, length-drop at text) in
    let (most, room, rest) = saved (at + len) text pieces within (next_pieces at text piece pieces later) in
    let none : sum_by count_in pieces ≡ 0 + sum_by count_in pieces = omega arith in (
      most,
      omega (arith, room),
      record {
        records = rest.records;
        spelled = rest.spelled;
        good = rest.good;
        these = rest.these;
        count_is = rest.count_is ∙ none ∙ sym (sum_by-cons count_in piece pieces);
        few = rest.few;
      },
    )

least : (a b n : ℕ) → n ≡ min a b → n ≤ a
least a b n is = omega (arith, is)

pub near_short : (bytes : List ℕ) → length (near bytes) ≤ max_archive
unfolding near
near_short bytes = least max_archive (length bytes) (length (take max_archive bytes)) (length-take max_archive bytes)

pub near_front : (bytes : List ℕ) → near bytes ++ drop max_archive bytes ≡ bytes
unfolding near
near_front bytes = take-append-drop max_archive bytes

pub salvaged_is_an_archive : SalvagedIsAnArchive
salvaged_is_an_archive bytes pieces are =
    let text = near bytes in
    let beyond = drop max_archive bytes in
    let (most, room, all) = saved 0 text pieces (omega arith) are in
    let whole : salvaged bytes pieces ≡ salvaged text pieces = ap (λ t. salvaged t pieces) (sym (near_front bytes)) ∙ salvaged_of_longer 0 text beyond pieces (omega arith) are in
    let (rows, is, same, count) = archive_of_records all.records (salvaged text pieces) all.spelled all.good (omega (arith, all.few, room, near_short bytes)) in
    let P : List ℕ → Type 0 = λ t. HaveRecords t pieces all.records in
    let these : HaveRecords bytes pieces all.records = subst P (near_front bytes) (records_of_longer 0 text beyond pieces all.records (omega arith) are all.these) in
    let Q : List Record → Type 0 = λ rs. HaveRecords bytes pieces rs in
    let A : List ℕ → Type 0 = λ t. (rows : List Row) × (is : IsArchiveOf t rows) × HaveRecords bytes pieces (contents is.are.records) × (length rows ≡ sum_by count_in pieces) in
    subst A (sym whole) (rows, is, subst Q (sym same) these, count ∙ all.count_is)

-- What is kept of a record, as numbers and texts for callers in other languages. This project's own notion.
use Rattle.std.specs.Prelude.{◌≡◌, ℕ, Bool, true, false, min, List, length, ◌++◌, Result, Ok, Err}
use Rattle.warc_value.specs.declared.hash.Verdict.{Verdict}
use Rattle.warc_value.specs.declared.hash.Verdict.TheVariants.{Good, Bad, Unchecked}
use Rattle.warc_frame.specs.Count.{capped}
use Rattle.warc_reading.specs.Row.{Row}
use Rattle.warc_replay.specs.declared.fault.TakeFault.{TakeFault}
use Rattle.warc_lent.specs.Buffers.{HoldsFront, KeepsAfter}
use Rattle.warc_lent.specs.Problems.{problem_of_take}
use Rattle.warc_lent.specs.declared.problem.Problem.{Problem}
use Rattle.warc_lent.specs.declared.rows.RowNumbers.{RowNumbers}

abbrev pub verdict_number : Verdict → ℕ
verdict_number Good = 0
verdict_number Bad = 1
verdict_number Unchecked = 2

-- the number of the verdict that is given, or the problem
abbrev pub verdict_answer : Result Verdict TakeFault → Result ℕ Problem
verdict_answer (Ok verdict) = Ok (verdict_number verdict)
verdict_answer (Err fault) = Err (problem_of_take fault)

-- 1 for what is so
abbrev pub flag_of : Bool → ℕ
flag_of true = 1
flag_of false = 0

-- a length that 32 bits hold: no text of a good record is longer
abbrev pub short_length : List ℕ → ℕ
short_length text = min (length text) 4294967295

abbrev pub row_numbers : Row → RowNumbers
row_numbers row = record {
  offset = row.offset;
  block_offset = row.block_start;
  block_length = row.block_len;
  type_length = short_length row.kind;
  date_length = short_length row.date;
  id_length = short_length row.id;
  target_length = short_length row.target;
  is_truncated = flag_of row.is_truncated;
}

-- the texts of a row, one after another
abbrev pub row_texts : Row → List ℕ
row_texts row = row.kind ++ row.date ++ row.id ++ row.target

-- what is put of a row: its numbers, and its texts as far as there is room; the length of these is answered, and what
-- follows them in the buffer stays
pub record IsRowPut (row : Row) (length_answered : ℕ) (numbers : RowNumbers) (old texts : List ℕ) : Type 0 where
  pub numbers_are : numbers ≡ row_numbers row
  pub texts_are : HoldsFront (row_texts row) texts
  pub rest_stays : KeepsAfter (length (row_texts row)) old texts
  pub length_is : length_answered ≡ capped (length (row_texts row))

-- How lines of findings are put to an output. States of the code, but for `PutsLines` and `PutsCheck`, which public
-- contracts cite.
use Rattle.std.specs.Prelude.{◌≡◌, ℕ, ◌++◌, List, length, map, take, Result, Option, IfErr, IfOk, OnOk}
use Rattle.std.specs.List.{enumerate_from, flat_map}
use Rattle.warc_frame.specs.Count.{capped}
use Rattle.warc_frame.specs.Device.{Staged}
use Rattle.warc_frame.specs.Seen.{Seen}
use Rattle.warc_frame.specs.Send.{IsStaged, WentOut, sent_of}
use Rattle.warc_frame.specs.Record.{Record}
use Rattle.warc_frame.specs.declared.fault.OutFault.{OutFault}
use Rattle.warc_record.specs.Findings.{SeenFinding}
use Rattle.warc_checking.specs.Checking.{Line, about_record, check_text, findings_at, findings_of_archive, findings_of_records, line_text}

-- the lines of the findings of the record at a position
abbrev pub record_lines : ℕ → List SeenFinding → List ℕ
record_lines position found = flat_map line_text (map (about_record position) found)

-- the lines of all findings of records
abbrev pub records_text : List Record → List ℕ
records_text records = flat_map line_text (findings_of_records records)

-- the findings of the first n of the records, and their lines
abbrev pub findings_of_first : ℕ → List Record → List Line
findings_of_first n records = flat_map (λ p. findings_at records p.0 p.1) (enumerate_from 0 (take n records))

abbrev pub first_text : ℕ → List Record → List ℕ
first_text n records = flat_map line_text (findings_of_first n records)

-- lines are put after what waits for an output, and counted, up to 2^64 - 1: they wait or went out after it, or a
-- front of it all went out
pub record PutsLines (text : List ℕ) (count : ℕ) (old new : Seen) (waits waiting : Staged) (answer : Result ℕ OutFault)
    : Type 0 where
  pub out : (start : Option (List ℕ)) (output : List ℕ) → IsStaged start output old.reports waits
      → OnOk answer (IsStaged start (output ++ text) new.reports waiting)
  pub cut : (start : Option (List ℕ)) (output : List ℕ) → IsStaged start output old.reports waits
      → IfErr answer (λ e. WentOut start (output ++ text) new.reports (sent_of e))
  pub number : IfOk answer (λ n. n ≡ capped count)

-- the lines of the findings of records, and how many lines there are
abbrev pub PutsFindingsOf : List Record → Seen → Seen → Staged → Staged → Result ℕ OutFault → Type 0
PutsFindingsOf records old new waits waiting answer =
    PutsLines (records_text records) (length (findings_of_records records)) old new waits waiting answer

-- the lines of the findings of records, or the line that there is no record
abbrev pub PutsCheck : List Record → Seen → Seen → Staged → Staged → Result ℕ OutFault → Type 0
PutsCheck records old new waits waiting answer =
    PutsLines (check_text records) (length (findings_of_archive records)) old new waits waiting answer

-- What `check` reports of an archive: the findings of its records in their order, or that it has none. The
-- findings are this project's own profile of ISO 28500:2017, and none of them refuses a record.
use Rattle.std.specs.Prelude.{ℕ, Bool, List, [], ◌∷◌, ◌++◌, length, map, take, codes, decimal, Option, Some, None}
use Rattle.std.specs.List.{enumerate_from, flat_map, list_any}
use Rattle.warc_frame.specs.Record.{Record}
use Rattle.warc_record.specs.Findings.{SeenFinding, Empty, finding_field, findings_of, finding_number}
use Rattle.warc_record.specs.Blocks.{has_bad_digest}
use Rattle.warc_record.specs.Readings.{reading_of}
use Rattle.warc_record.specs.Texts.{is_same_text}

-- a finding, and the position of the record that it is about, if it is about one
pub record Line : Type 0 where
  pub position : Option ℕ
  pub finding : SeenFinding

-- the key of a record's id
abbrev pub record_key : Record → Option (List ℕ)
record_key r = (reading_of r.fields).id

-- one of the records has an id of this key
abbrev pub is_used : List Record → Option (List ℕ) → Bool
is_used records key = list_any (λ r. is_same_text (record_key r) key) records

-- the findings of a record, by those before it
abbrev pub findings_after : List Record → Record → List SeenFinding
findings_after before r = findings_of r.fields (length r.block) (has_bad_digest r) (is_used before (record_key r))

abbrev pub about_record : ℕ → SeenFinding → Line
about_record position found = record { position = Some position; finding = found }

-- the findings of the record at a position
abbrev pub findings_at : List Record → ℕ → Record → List Line
findings_at records position r = map (about_record position) (findings_after (take position records) r)

-- the findings of all records
abbrev pub findings_of_records : List Record → List Line
findings_of_records records = flat_map (λ p. findings_at records p.0 p.1) (enumerate_from 0 records)

-- the finding if there is no record: N12
abbrev pub no_records : Line
no_records = record { position = None; finding = Empty }

-- the findings of an archive of these records
abbrev pub findings_of_archive : List Record → List Line
findings_of_archive [] = no_records ∷ []
findings_of_archive (r ∷ rs) = findings_of_records (r ∷ rs)

-- a position, or `-` for none
abbrev pub position_text : Option ℕ → List ℕ
position_text None = codes "-"
position_text (Some position) = decimal position

-- the name of a field after a space, if there is one
abbrev pub field_text : Option (List ℕ) → List ℕ
field_text None = []
field_text (Some name) = codes " " ++ name

-- the line of a position, a number and the name of a field, ended by LF
abbrev pub numbered_line : List ℕ → ℕ → List ℕ → List ℕ
numbered_line position number field = position ++ codes " N" ++ decimal number ++ field ++ codes "\n"

-- a finding's line
unfoldable pub line_text : Line → List ℕ
line_text l = numbered_line (position_text l.position) (finding_number l.finding) (field_text (finding_field l.finding))

-- all lines
unfoldable pub check_text : List Record → List ℕ
check_text records = flat_map line_text (findings_of_archive records)

-- What is kept of an archive whose records were judged as they were read: with its rows the findings of each record
-- that the record alone shows, which are all but N6.
use Rattle.std.specs.Prelude.{◌≡◌, ℕ, false, List, length, map}
use Rattle.warc_frame.specs.Record.{Record}
use Rattle.warc_record.specs.Blocks.{has_bad_digest}
use Rattle.warc_record.specs.Findings.{SeenFinding, findings_of}
use Rattle.warc_reading.specs.Archive.{Contents, IsArchiveOf, contents}

-- the findings of a record that it alone shows
abbrev pub own_findings : Record → List SeenFinding
own_findings r = findings_of r.fields (length r.block) (has_bad_digest r) false

-- a listing, and with it the findings of each record
pub record Judged (S : Type 0) : Type 0 where
  pub listing : Contents S
  pub findings : List (List SeenFinding)

-- they are the findings of the good records that these bytes spell
pub record IsJudgedOf {S : Type 0} (bytes : List ℕ) (judged : Judged S) : Type 0 where
  pub listed : IsArchiveOf bytes judged.listing.rows
  pub found_is : judged.findings ≡ map own_findings (contents listed.are.records)

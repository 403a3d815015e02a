-- A record: a version, named fields and a block (ISO 28500:2017, which is WARC 1.1: section 4, file and record model;
-- its Content-Length: section 5, named fields). The bounds and the canonical head are this project's own notions.
use Rattle.std.specs.Prelude.{◌≡◌, ℕ, ◌^◌, ◌≤◌, ◌==◌, nat_le, nat_lt, List, ◌++◌, length, Option, Some, None, Result, Ok, Err, option_and_then, if◌then◌else◌}
use Rattle.warc_field.specs.Text.{AreFields}
use Rattle.warc_field.specs.Lines.{crlf}
use Rattle.warc_field.specs.Area.{Pair, first_value, count_of, canonical_fields}
use Rattle.warc_field.specs.Decimal.{decimal_of}
use Rattle.warc_frame.specs.declared.version.Version.{Version}
use Rattle.warc_frame.specs.VersionLine.{version_line}
use Rattle.warc_frame.specs.declared.fault.FaultKind.{FaultKind}
use Rattle.warc_frame.specs.declared.fault.FaultKind.TheVariants.{HeadTooLong, Missing, Repeated, Length}
use Rattle.warc_frame.specs.declared.framed.FramedFault.{FramedFault}
use Rattle.warc_frame.specs.declared.framed.FramedFault.TheVariants.{HeadTooLong as NoRoom, Missing as NoLength, Repeated as Lengths, Length as BadLength}
use Rattle.warc_frame.specs.declared.fault.Mandatory.TheVariants.{ContentLength}
use Rattle.warc_frame.specs.Names.{content_length}

pub record Record : Type 0 where
  pub version : Version
  pub fields : List Pair
  pub block : List ℕ

-- the most bytes of a head, of a block and of an archive
abbrev pub max_head : ℕ
max_head = 65536

abbrev pub max_block : ℕ
max_block = 2 ^ 40

abbrev pub max_archive : ℕ
max_archive = 2 ^ 48

-- the head whose field lines are `area`: all bytes from the version line to the empty line, both included
abbrev pub head_text : Version → List ℕ → List ℕ
head_text version area = version_line version ++ area ++ crlf

-- the length of the head in which each field is written as name, colon, space, value
unfoldable pub canonical_len : Version → List Pair → ℕ
canonical_len version fields = length (head_text version (canonical_fields fields))

-- the number that a value writes, if a block may be so long
abbrev pub block_number : Option (List ℕ) → Option ℕ
block_number value =
    option_and_then (λ n. if nat_le n max_block then Some n else None) (option_and_then decimal_of value)

abbrev pub or_length : Option ℕ → Result ℕ FaultKind
or_length None = Err Length
or_length (Some n) = Ok n

-- the number of the only Content-Length, or what is wrong with it
unfoldable pub block_len : List Pair → Result ℕ FaultKind
block_len fields =
    if count_of content_length fields == 0 then Err (Missing ContentLength)
    else if nat_le 2 (count_of content_length fields) then Err (Repeated ContentLength)
    else or_length (block_number (first_value content_length fields))

-- why a record can't be framed, as the table of refusals names it
abbrev pub fault_kind_of : FramedFault → FaultKind
fault_kind_of NoRoom = HeadTooLong
fault_kind_of NoLength = Missing ContentLength
fault_kind_of Lengths = Repeated ContentLength
fault_kind_of BadLength = Length

-- a record that can be framed: names and values are such, the only Content-Length is the block's, of at most 2^40
-- bytes, and the canonical head is short enough
pub record IsFramed (r : Record) : Type 0 where
  pub fields : AreFields r.fields
  pub number : block_len r.fields ≡ Ok (length r.block)
  pub head : canonical_len r.version r.fields ≤ max_head

abbrev pub with_block : Record → Result ℕ FaultKind → Result Record FaultKind
with_block r (Ok n) = if n == length r.block then Ok r else Err Length
with_block r (Err kind) = Err kind

-- the record, or the first row of the table that keeps it from being framed
unfoldable pub framed_of : Record → Result Record FaultKind
framed_of r =
    if nat_lt max_head (canonical_len r.version r.fields) then Err HeadTooLong
    else with_block r (block_len r.fields)

-- what a call returned is that record, or why it is none
abbrev pub Frames : Result Record FramedFault → Result Record FaultKind → Type 0
Frames (Ok r) framed = framed ≡ Ok r
Frames (Err fault) framed = framed ≡ Err (fault_kind_of fault)

-- What a record's head is when it is read again by its row, which bytes are read, and what ends it. This project's own
-- notion.
use Rattle.std.specs.Prelude.{◌≡◌, ℕ, ◌+◌, ◌-◌, ◌<◌, ◌≤◌, List, length, map, min, slice_get, slice_range, Result, Ok, Err, Some, None}
use Rattle.std.specs.List.{sum_by}
use Rattle.warc_field.specs.Area.{Pair}
use Rattle.warc_frame.specs.Effects.{ReadsOnly}
use Rattle.warc_frame.specs.Reading.{any_fields, head_of}
use Rattle.warc_frame.specs.Record.{Record, max_archive, max_head}
use Rattle.warc_frame.specs.Seen.{SeenSource}
use Rattle.warc_frame.specs.declared.fault.FaultKind.{FaultKind}
use Rattle.warc_frame.specs.declared.fault.FaultKind.TheVariants.{Memory as NoMemory}
use Rattle.warc_frame.specs.declared.front.Head.{Head}
use Rattle.warc_frame.specs.declared.version.Version.{Version}
use Rattle.warc_record.specs.Heads.{head_fault}
use Rattle.warc_reading.specs.Placing.{ArePlacedIn, IsInAnyRow, IsPlacedIn}
use Rattle.warc_reading.specs.Row.{Placed, Row, row_of}
use Rattle.warc_frame.specs.declared.fault.EarlyFault.{EarlyFault}
use Rattle.warc_frame.specs.declared.fault.EarlyFault.TheVariants.{Read, Memory}

-- the record's head is in the bytes where its place says, and it is good
pub record HasHead (bytes : List ℕ) (p : Placed) : Type 0 where
  pub len : ℕ
  pub start : p.block_start ≡ p.offset + len
  pub within : p.block_start ≤ length bytes
  pub short : len ≤ max_head
  pub reads : head_of any_fields (slice_range bytes p.offset p.block_start)
      ≡ Ok (record {
        version = p.content.version;
        fields = p.content.fields;
        len = len;
        block_len = length p.content.block;
      })
  pub good : head_fault p.content.fields ≡ None

-- a buffer has room for the head of a row's record, or for any head
abbrev pub HasRoomFor : Row → List ℕ → Type 0
HasRoomFor row buf = min max_head (row.block_start - row.offset) ≤ length buf

-- the head of each of the records is in the bytes
abbrev pub HaveHeads : List ℕ → List Placed → Type 0
HaveHeads bytes records = (i : ℕ) (p : Placed) → slice_get records i ≡ Some p → HasHead bytes p

-- these are the rows of records that are in the bytes, each with a good head
pub record AreCheckable (bytes : List ℕ) (records : List Placed) (rows : List Row) : Type 0 where
  pub placed : ArePlacedIn bytes records
  pub heads : HaveHeads bytes records
  pub rows_are : rows ≡ map row_of records

-- the rows' records are in the bytes
pub record HasRecordsOf (rows : List Row) (bytes : List ℕ) : Type 0 where
  pub records : List Placed
  pub can : AreCheckable bytes records rows

-- a text is the whole head of this record, of a block as long as a row says
abbrev pub IsHeadText : Record → Row → List ℕ → Type 0
IsHeadText r row text = head_of any_fields text
    ≡ Ok (record { version = r.version; fields = r.fields; len = length text; block_len = row.block_len })

-- a head that was read is this record's
pub record IsHeadReadOf {A : Type 0} (r : Record) (h : Head A) : Type 0 where
  pub version : h.version ≡ r.version
  pub fields : h.fields ≡ r.fields

-- why a head isn't read again, by the outcome of reading it
abbrev pub reread_fault_of : FaultKind → EarlyFault
reread_fault_of NoMemory = Memory
reread_fault_of kind = Read

-- the head of a row's record is in the bytes
pub record HasHeadOf (row : Row) (bytes : List ℕ) : Type 0 where
  pub placed : Placed
  pub has : HasHead bytes placed
  pub row_is : row ≡ row_of placed

-- the head and the block of a row's record are in the bytes of an archive
pub record HasTextOf (row : Row) (bytes : List ℕ) : Type 0 where
  pub placed : Placed
  pub short : length bytes ≤ max_archive
  pub has : HasHead bytes placed
  pub written : IsPlacedIn bytes placed
  pub row_is : row ≡ row_of placed

-- the offset of a byte of the head of one of these rows' records
pub record IsInHead (rows : List Row) (at : ℕ) : Type 0 where
  pub place : ℕ
  pub row : Row
  pub is : slice_get rows place ≡ Some row
  pub from : row.offset ≤ at
  pub to : at < row.block_start

-- how many bytes these heads have
abbrev pub heads_len : List Row → ℕ
heads_len rows = sum_by (λ r. r.block_start - r.offset) rows

-- at most one read for each byte of these heads, and no other byte
abbrev pub ReadsHeads : List Row → SeenSource → SeenSource → Type 0
ReadsHeads rows old new = ReadsOnly (IsInHead rows) (heads_len rows) old new

-- how many bytes the head and the block of a row's record have
abbrev pub row_len : Row → ℕ
row_len row = (row.block_start - row.offset) + row.block_len

-- at most one read for each byte of the heads and the blocks of these rows' records, and no other byte
abbrev pub ReadsRows : List Row → SeenSource → SeenSource → Type 0
ReadsRows rows old new = ReadsOnly (IsInAnyRow rows) (sum_by row_len rows) old new

-- a whole head with these fields, as long as a row says, of a block as long as it says
pub record IsHeadBy (row : Row) (fields : List Pair) : Type 0 where
  pub version : Version
  pub text : List ℕ
  pub size : row.offset + length text ≡ row.block_start
  pub reads : head_of any_fields text
      ≡ Ok (record { version = version; fields = fields; len = length text; block_len = row.block_len })

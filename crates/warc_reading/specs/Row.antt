-- What an archive keeps of a record (WARC 1.1, section 5: the named fields).
use Rattle.std.specs.Prelude.{ℕ, Bool, List, [], ◌+◌, length, unwrap_or}
use Rattle.warc_frame.specs.Record.{Record}
use Rattle.warc_record.specs.Readings.{Reading, reading_of}

-- a record, the offset of its first byte, and the offset of its block's first byte
pub record Placed : Type 0 where
  pub offset : ℕ
  pub block_start : ℕ
  pub content : Record

-- the offsets of a record and of its block, the block's length, whether it is marked as truncated, and the texts of
-- its type, date, id and target, each empty if it is absent
pub record Row : Type 0 where
  pub offset : ℕ
  pub block_start : ℕ
  pub block_len : ℕ
  pub is_truncated : Bool
  pub kind : List ℕ
  pub date : List ℕ
  pub id : List ℕ
  pub target : List ℕ

-- what is kept of a record whose head says this: the texts are empty if there are none
abbrev pub row_with : Placed → Reading → Row
row_with p head = record {
  offset = p.offset;
  block_start = p.block_start;
  block_len = length p.content.block;
  is_truncated = head.truncated;
  kind = unwrap_or head.type_text [];
  date = unwrap_or head.date_text [];
  id = unwrap_or head.id_text [];
  target = unwrap_or head.target [];
}

abbrev pub row_of : Placed → Row
row_of p = row_with p (reading_of p.content.fields)

-- how many bytes the texts of a row have
abbrev pub texts_len : Row → ℕ
texts_len row = length row.kind + length row.date + length row.id + length row.target

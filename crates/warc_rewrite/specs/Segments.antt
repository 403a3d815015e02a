-- The texts of segments whose pieces are copied from a source. States of the code: no public clause cites them.
use Rattle.std.specs.Prelude.{◌≡◌, ℕ, ◌<◌, Bool, List, length, take, drop, map}
use Rattle.std.specs.List.{range_with_len}
use Rattle.warc_field.specs.Area.{Pair}
use Rattle.warc_frame.specs.Effects.{HasRange}
use Rattle.warc_frame.specs.Record.{Record}
use Rattle.warc_frame.specs.Spelling.{canonical}
use Rattle.warc_frame.specs.declared.version.Version.{Version}
use Rattle.warc_record.specs.Blocks.{has_bad_digest}
use Rattle.warc_write.specs.Rendering.{canonical_texts}
use Rattle.warc_write.specs.Splitting.{segment_of}
use Rattle.warc_rewrite.specs.declared.segments.Cut.{Cut}

-- a record of this version and these fields, with a block of this length, and a bad digest or not if the block is
-- longer than a segment: of a shorter one it doesn't matter
pub record IsCuttable (version : Version) (fields : List Pair) (len size : ℕ) (bad : Bool) (r : Record) : Type 0 where
  pub version_is : r.version ≡ version
  pub fields_are : r.fields ≡ fields
  pub len_is : length r.block ≡ len
  pub digest_is : size < len → has_bad_digest r ≡ bad

-- the record that is cut, whose block the bytes have
pub record IsCutOf {A : Type 0} (c : Cut A) (bytes : List ℕ) (r : Record) : Type 0 where
  pub version : c.version ≡ r.version
  pub fields : c.fields ≡ r.fields
  pub range : HasRange c.block_start c.block_len bytes
  pub block : take c.block_len (drop c.block_start bytes) ≡ r.block

-- the text of its segment at a place
abbrev pub IsSegmentText : {A : Type 0} → Cut A → ℕ → List ℕ → List ℕ → Type 0
IsSegmentText c at bytes text = (r : Record) × IsCutOf c bytes r × (text ≡ canonical (segment_of r c.uuid c.size at))

-- the texts of its first `count` segments
abbrev pub AreSegmentTexts : {A : Type 0} → Cut A → ℕ → List ℕ → List ℕ → Type 0
AreSegmentTexts c count bytes text =
    (r : Record) × IsCutOf c bytes r
    × (text ≡ canonical_texts (map (segment_of r c.uuid c.size) (range_with_len 0 count)))

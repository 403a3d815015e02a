-- What a whole head says that names no other record. Which heads are read in place is this project's own choice.
use Rattle.std.specs.Prelude.{◌≡◌, ℕ, List, [], length, None, Ok}
use Rattle.warc_field.specs.Area.{Pair, value_or_empty}
use Rattle.warc_frame.specs.Names.{content_type as type_name}
use Rattle.warc_frame.specs.Reading.{any_fields, head_of}
use Rattle.warc_frame.specs.declared.version.Version.{Version}
use Rattle.warc_record.specs.Heads.{head_fault}
use Rattle.warc_record.specs.Readings.{Reading, reading_of}

-- a text is a whole, good head of a block of this length, which says this, and has this `Content-Type`, empty if it has
-- none
pub record IsWholeHead (text : List ℕ) (block_len : ℕ) (says : Reading) (content_type : List ℕ) : Type 0 where
  pub version : Version
  pub fields : List Pair
  pub reads : head_of any_fields text
      ≡ Ok (record { version = version; fields = fields; len = length text; block_len = block_len })
  pub good : head_fault fields ≡ None
  pub says_is : says ≡ reading_of fields
  pub type_is : content_type ≡ value_or_empty type_name fields

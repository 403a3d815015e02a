-- A head that is written canonically, as this project writes it (ISO 28500:2017, 4).
use Rattle.std.specs.Prelude.{◌≡◌, ℕ, List, ◌++◌, length, None, Ok}
use Rattle.warc_field.specs.Area.{Pair, canonical_fields}
use Rattle.warc_field.specs.Text.{AreFields}
use Rattle.warc_frame.specs.Reading.{any_fields, head_of}
use Rattle.warc_frame.specs.Record.{head_text}
use Rattle.warc_frame.specs.VersionLine.{version_line}
use Rattle.warc_frame.specs.declared.version.Version.{Version}
use Rattle.warc_record.specs.Heads.{head_fault}

-- a text is a whole, good head of a block of this length, and is what its fields are written as
pub record IsCanonicalHead (text : List ℕ) (block_len : ℕ) : Type 0 where
  pub version : Version
  pub fields : List Pair
  pub reads : head_of any_fields text
      ≡ Ok (record { version = version; fields = fields; len = length text; block_len = block_len })
  pub good : head_fault fields ≡ None
  pub text_is : text ≡ head_text version (canonical_fields fields)

-- a text is a version line, canonical lines of fields, and an empty line
pub record HasCanonicalLines (text : List ℕ) : Type 0 where
  pub version : Version
  pub fields : List Pair
  pub are : AreFields fields
  pub text_is : text ≡ head_text version (canonical_fields fields)

-- a text begins with a version line and canonical lines of fields, and this follows
pub record BeginsCanonically (text rest : List ℕ) : Type 0 where
  pub version : Version
  pub fields : List Pair
  pub are : AreFields fields
  pub text_is : text ≡ version_line version ++ canonical_fields fields ++ rest

-- What is known of a record when what is needed of it is kept, and how its block compares with its digest
-- (ISO 28500:2017, 5.8). This project's own notion.
use Rattle.std.specs.Prelude.{◌≡◌, ℕ, List, length, None, Ok}
use Rattle.warc_field.specs.Area.{Pair}
use Rattle.warc_value.specs.Digests.{verdict_of}
use Rattle.warc_value.specs.declared.hash.Verdict.{Verdict}
use Rattle.warc_frame.specs.Reading.{any_fields, head_of}
use Rattle.warc_record.specs.Heads.{head_fault}
use Rattle.warc_record.specs.Readings.{digest_wanted}
use Rattle.warc_quick.specs.Quick.{Says}
use Rattle.warc_quick.specs.declared.plain.QuickRecord.{QuickRecord}
use Rattle.warc_reading.specs.Row.{Placed}

-- these are the fields of a record's head, which is good, and the offset and the length of its block
pub record IsNextOf (p : Placed) (fields : List Pair) (start len : ℕ) : Type 0 where
  pub fields_are : fields ≡ p.content.fields
  pub good : head_fault p.content.fields ≡ None
  pub start_is : start ≡ p.block_start
  pub len_is : len ≡ length p.content.block

-- a record was read in place: what its plain head says, the text of that head, its block, and the offset of the block
pub record IsNextPlain (p : Placed) (found : QuickRecord) (start : ℕ) : Type 0 where
  pub says : Says p.content.fields found.head
  pub start_is : start ≡ p.block_start
  pub len_is : found.head.block_len ≡ length p.content.block
  pub block_is : found.block.now ≡ p.content.block
  pub reads : head_of any_fields found.head_text.now ≡ Ok (record {
    version = p.content.version;
    fields = p.content.fields;
    len = length found.head_text.now;
    block_len = length p.content.block;
  })

-- how a record's block compares with the digest that its head asks for
abbrev pub verdict_on : Placed → Verdict
verdict_on p = verdict_of (digest_wanted p.content.fields) p.content.block

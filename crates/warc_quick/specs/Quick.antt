-- A head that is read in place: the good head at the front of a text, and what it says (ISO 28500:2017, 4 and 5). Which
-- heads are read so is this project's own choice.
use Rattle.std.specs.Prelude.{◌≡◌, ℕ, ◌+◌, ◌≤◌, true, List, [], length, take, None, Ok, IfSome, unwrap_or}
use Rattle.warc_field.specs.Area.{Pair, value_or_empty}
use Rattle.warc_field.specs.Text.{AreFields}
use Rattle.warc_value.specs.Digests.{wanted_digest}
use Rattle.warc_frame.specs.declared.version.Version.{Version}
use Rattle.warc_frame.specs.Names.{warc_block_digest, warc_payload_digest}
use Rattle.warc_frame.specs.Reading.{any_fields, head_of}
use Rattle.warc_frame.specs.Record.{Record, block_len}
use Rattle.warc_frame.specs.Spelling.{Spells}
use Rattle.warc_record.specs.Heads.{head_fault}
use Rattle.warc_record.specs.Readings.{Reading, digest_wanted, no_segment, nothing_named, present_value, reading_of, reference_of, segment_reading, unless_empty}
use Rattle.warc_record.specs.declared.head.HeadTexts.{HeadTexts}
use Rattle.warc_quick.specs.PlainFindings.{AreFindings, all_plain}
use Rattle.warc_quick.specs.declared.head.QuickHead.{QuickHead}
use Rattle.warc_quick.specs.declared.plain.QuickRecord.{QuickRecord}

-- the most bytes of a head that is read in place
abbrev pub max_quick_head : ℕ
max_quick_head = 32768

-- these are the texts that are listed of a head that says this, each empty if it is absent, and its mark
pub record AreTexts (head : Reading) (texts : HeadTexts) : Type 0 where
  pub kind : texts.kind.now ≡ unwrap_or head.type_text []
  pub date : texts.date.now ≡ unwrap_or head.date_text []
  pub id : texts.id.now ≡ unwrap_or head.id_text []
  pub target : texts.target.now ≡ unwrap_or head.target []
  pub truncated : texts.is_truncated ≡ head.truncated

-- fields that name no other record and say nothing of segments
pub record AreAlone (fields : List Pair) : Type 0 where
  pub reference : reference_of fields ≡ nothing_named
  pub segment : segment_reading fields ≡ no_segment

-- these are the fields of a good head, which says this
pub record Says (fields : List Pair) (found : QuickHead) : Type 0 where
  pub values : AreFields fields
  pub good : head_fault fields ≡ None
  pub block : block_len fields ≡ Ok found.block_len
  pub texts : AreTexts (reading_of fields) found.texts
  pub digest : value_or_empty warc_block_digest fields ≡ found.digest.now
  pub wanted : digest_wanted fields ≡ wanted_digest found.digest.now
  pub payload : present_value warc_payload_digest fields ≡ unless_empty found.payload_digest.now
  pub alone : found.is_alone ≡ true → AreAlone fields
  pub findings : IfSome found.findings (λ listed. AreFindings fields found.block_len (all_plain listed))

-- the first bytes of a text are a whole, good head, which says this
pub record IsQuickHead (text : List ℕ) (found : QuickHead) : Type 0 where
  pub version : Version
  pub fields : List Pair
  pub within : found.len ≤ length text
  pub whole : head_of any_fields (take found.len text)
      ≡ Ok (record { version = version; fields = fields; len = found.len; block_len = found.block_len })
  pub says : Says fields found

-- the first bytes of a text spell a record, whose good head says this
pub record IsQuickRecord (text : List ℕ) (found : QuickRecord) : Type 0 where
  pub content : Record
  pub within : found.len ≤ length text
  pub spelled : Spells content (take found.len text)
  pub says : Says content.fields found.head
  pub block : found.head.block_len ≡ length content.block
  pub block_is : found.block.now ≡ content.block
  pub reads : head_of any_fields found.head_text.now ≡ Ok (record {
    version = content.version;
    fields = content.fields;
    len = length found.head_text.now;
    block_len = length content.block;
  })
  pub end : found.head.len + length content.block + 4 ≡ found.len

-- The fields of the standard (ISO 28500:2017, 5) as one table: the name of each, and its place.
use Rattle.std.specs.Prelude.{◌≡◌, ◌<◌, ◌==◌, ℕ, List, Option, Some, None, true, if◌then◌else◌}
use Rattle.warc_field.specs.Text.{is_name, same}
use Rattle.warc_frame.specs.Names.{warc_type, warc_record_id, warc_date, content_length, warc_target_uri}
use Rattle.warc_frame.specs.Names.{warc_concurrent_to, warc_ip_address, warc_refers_to, warc_refers_to_target_uri}
use Rattle.warc_frame.specs.Names.{warc_refers_to_date, warc_filename, warc_profile, warc_warcinfo_id}
use Rattle.warc_frame.specs.Names.{warc_segment_number, warc_segment_origin_id, warc_segment_total_length}
use Rattle.warc_frame.specs.Names.{warc_block_digest, warc_payload_digest, warc_truncated}
use Rattle.warc_frame.specs.Names.{warc_identified_payload_type, content_type}
use Rattle.warc_frame.specs.declared.field_name.FieldName.{FieldName}
use Rattle.warc_frame.specs.declared.field_name.FieldName.TheVariants.{«Type», RecordId, Date, ContentLength}
use Rattle.warc_frame.specs.declared.field_name.FieldName.TheVariants.{TargetUri, ConcurrentTo, IpAddress, RefersTo}
use Rattle.warc_frame.specs.declared.field_name.FieldName.TheVariants.{RefersToTargetUri, RefersToDate, Filename}
use Rattle.warc_frame.specs.declared.field_name.FieldName.TheVariants.{Profile, WarcinfoId, SegmentNumber}
use Rattle.warc_frame.specs.declared.field_name.FieldName.TheVariants.{SegmentOriginId, SegmentTotalLength}
use Rattle.warc_frame.specs.declared.field_name.FieldName.TheVariants.{BlockDigest, PayloadDigest, Truncated}
use Rattle.warc_frame.specs.declared.field_name.FieldName.TheVariants.{IdentifiedPayloadType, ContentType}

-- the name, as the standard writes it
abbrev pub name_text : FieldName → List ℕ
name_text «Type» = warc_type
name_text RecordId = warc_record_id
name_text Date = warc_date
name_text ContentLength = content_length
name_text TargetUri = warc_target_uri
name_text ConcurrentTo = warc_concurrent_to
name_text IpAddress = warc_ip_address
name_text RefersTo = warc_refers_to
name_text RefersToTargetUri = warc_refers_to_target_uri
name_text RefersToDate = warc_refers_to_date
name_text Filename = warc_filename
name_text Profile = warc_profile
name_text WarcinfoId = warc_warcinfo_id
name_text SegmentNumber = warc_segment_number
name_text SegmentOriginId = warc_segment_origin_id
name_text SegmentTotalLength = warc_segment_total_length
name_text BlockDigest = warc_block_digest
name_text PayloadDigest = warc_payload_digest
name_text Truncated = warc_truncated
name_text IdentifiedPayloadType = warc_identified_payload_type
name_text ContentType = content_type

-- its place in a table: first the four that every head has, then the others in the order of the table of field rules
abbrev pub name_place : FieldName → ℕ
name_place «Type» = 0
name_place RecordId = 1
name_place Date = 2
name_place ContentLength = 3
name_place TargetUri = 4
name_place ConcurrentTo = 5
name_place IpAddress = 6
name_place RefersTo = 7
name_place RefersToTargetUri = 8
name_place RefersToDate = 9
name_place Filename = 10
name_place Profile = 11
name_place WarcinfoId = 12
name_place SegmentNumber = 13
name_place SegmentOriginId = 14
name_place SegmentTotalLength = 15
name_place BlockDigest = 16
name_place PayloadDigest = 17
name_place Truncated = 18
name_place IdentifiedPayloadType = 19
name_place ContentType = 20

-- how many there are
abbrev pub name_count : ℕ
name_count = 21

-- what is true of the table: each is a name, no two have one place, each place is below their number, and no text is
-- two of them, in any case
pub record AreFieldNames : Type 0 where
  pub named : (name : FieldName) → is_name (name_text name) ≡ true
  pub places : (a b : FieldName) → name_place a ≡ name_place b → a ≡ b
  pub within : (name : FieldName) → name_place name < name_count
  pub texts : (text : List ℕ) (a b : FieldName) → same text (name_text a) ≡ true → same text (name_text b) ≡ true
      → a ≡ b

-- a state of the code: the only field whose name has this length and this eighth letter, in lower case
abbrev pub name_by : ℕ → ℕ → Option FieldName
name_by len letter =
    if len == 9 then (if letter == 112 then Some «Type» else if letter == 116 then Some Date else None)
    else if len == 12 then (if letter == 45 then Some ContentType else if letter == 111 then Some Profile else None)
    else if len == 13 then Some Filename
    else if len == 14 then
    (if letter == 99 then Some RecordId else if letter == 45 then Some ContentLength
    else if letter == 102 then Some RefersTo else if letter == 117 then Some Truncated else None)
    else if len == 15 then (if letter == 114 then Some TargetUri else if letter == 45 then Some IpAddress else None)
    else if len == 16 then Some WarcinfoId
    else if len == 17 then Some BlockDigest
    else if len == 18 then Some ConcurrentTo
    else if len == 19 then
    (if letter == 102 then Some RefersToDate else if letter == 103 then Some SegmentNumber
    else if letter == 121 then Some PayloadDigest else None)
    else if len == 22 then Some SegmentOriginId
    else if len == 25 then
    (if letter == 102 then Some RefersToTargetUri else if letter == 103 then Some SegmentTotalLength else None)
    else if len == 28 then Some IdentifiedPayloadType
    else None

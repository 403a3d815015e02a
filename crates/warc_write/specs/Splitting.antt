-- Records that are split into segments (ISO 28500:2017, 7; its fields 5.20 to 5.22; UUIDs of version 5 by RFC
-- 9562, 5.5). Which fields a segment has, their order, and the refusals are this project's own.
use Rattle.std.specs.Prelude.{⊤, ℕ, ◌+◌, ◌-◌, ◌*◌, ◌/◌, Bool, true, false, not, ◌||◌, ◌==◌, nat_le, nat_lt}
use Rattle.std.specs.Prelude.{List, [], ◌∷◌, ◌++◌, length, take, drop, map, filter, codes, decimal}
use Rattle.std.specs.Prelude.{Option, Some, None, is_some, is_none, ok_or, Result, Ok, Err, if◌then◌else◌}
use Rattle.std.specs.List.{AllByRecursion, list_all, range_with_len}
use Rattle.sha1.specs.Sha1.{sha1}
use Rattle.uuid.specs.declared.Variant.TheVariants.{RFC4122}
use Rattle.uuid.specs.declared.Version.TheVariants.{Sha1}
use Rattle.uuid.specs.Parts.{with_variant, with_version}
use Rattle.uuid.specs.Text.{parsed_urn}
use Rattle.warc_field.specs.Text.{same}
use Rattle.warc_field.specs.Area.{Pair, first_value, value_or_empty}
use Rattle.warc_frame.specs.Names.{content_length, warc_type, warc_record_id, warc_date, warc_target_uri, warc_segment_number, warc_segment_origin_id, warc_segment_total_length, warc_block_digest}
use Rattle.warc_frame.specs.Reading.{◌>>=◌}
use Rattle.warc_frame.specs.Record.{Record, IsFramed, canonical_len, max_head}
use Rattle.warc_record.specs.declared.types.Kind.{Kind}
use Rattle.warc_record.specs.declared.types.Kind.TheVariants.{Warcinfo, Response, Resource, Request, Metadata}
use Rattle.warc_record.specs.declared.types.Kind.TheVariants.{Revisit}
use Rattle.warc_record.specs.declared.types.Kind.TheVariants.{Conversion, Continuation, Other}
use Rattle.warc_record.specs.Heads.{head_fault}
use Rattle.warc_record.specs.Ids.{bare_text}
use Rattle.warc_record.specs.Blocks.{has_bad_digest}
use Rattle.warc_record.specs.Readings.{kind_of, target_of}
use Rattle.warc_write.specs.declared.segments.SegmentPart.{SegmentPart}
use Rattle.warc_write.specs.declared.segments.SplitFault.{SplitFault}
use Rattle.warc_write.specs.declared.segments.SplitFault.TheVariants.{NotUuid, AlreadySegmented}
use Rattle.warc_write.specs.declared.segments.SplitFault.TheVariants.{Kind as BadKind, Size}
use Rattle.warc_write.specs.declared.segments.SplitFault.TheVariants.{Memory, TooLong, BadDigest}
use Rattle.warc_write.specs.Refusals.{checks}
use Rattle.warc_write.specs.Written.{digest_text, id_text}

-- the kinds that are split
abbrev pub may_be_split : Kind → Bool
may_be_split Response = true
may_be_split Resource = true
may_be_split Request = true
may_be_split Metadata = true
may_be_split Revisit = true
may_be_split Conversion = true
may_be_split Warcinfo = false
may_be_split Continuation = false
may_be_split Other = false

abbrev pub has_field : List ℕ → List Pair → Bool
has_field name fields = is_some (first_value name fields)

-- there is a field of segments
abbrev pub is_segmented : List Pair → Bool
is_segmented fields =
    has_field warc_segment_number fields
    || has_field warc_segment_origin_id fields
    || has_field warc_segment_total_length fields

-- the UUID of a head that may be split into segments of n bytes, or the first refusal, in the order S4, S3, S2, S1
unfoldable pub splittable : List Pair → ℕ → Result (List ℕ) SplitFault
splittable fields n = do
  _ ← checks (nat_lt 0 n) Size
  _ ← checks (is_none (head_fault fields)) BadKind
  _ ← checks (may_be_split (kind_of fields)) BadKind
  _ ← checks (is_some (target_of fields)) BadKind
  _ ← checks (not (is_segmented fields)) AlreadySegmented
  ok_or (parsed_urn (bare_text (value_or_empty warc_record_id fields))) NotUuid

-- the UUID of version 5 of a name in a UUID's namespace
abbrev pub version_5 : List ℕ → List ℕ → List ℕ
version_5 space name = with_version (with_variant (take 16 (sha1 (space ++ name))) RFC4122) Sha1

-- the fields of the first segment: the given ones, in their order, without block digests, the length its own;
-- then its number, and its digest
abbrev pub with_len : ℕ → Pair → Pair
with_len len field = if same field.0 content_length then (field.0, decimal len) else field

abbrev pub is_kept : Pair → Bool
is_kept field = not (same field.0 warc_block_digest)

abbrev pub kept : ℕ → List Pair → List Pair
kept len given = map (with_len len) (filter is_kept given)

abbrev pub first_fields : List Pair → SegmentPart → List Pair
first_fields given part =
    kept part.len given
    ++ (warc_segment_number, codes "1")
    ∷ (warc_block_digest, digest_text part.digest)
    ∷ []

-- the fields of a further segment of the record with these fields and this UUID
abbrev pub origin_fields : List Pair → List ℕ → ℕ → List Pair
origin_fields given uuid number =
    (warc_type, codes "continuation")
    ∷ (warc_record_id, id_text (version_5 uuid (decimal number)))
    ∷ (warc_date, value_or_empty warc_date given)
    ∷ (warc_target_uri, bare_text (value_or_empty warc_target_uri given))
    ∷ (warc_segment_origin_id, value_or_empty warc_record_id given)
    ∷ []

abbrev pub total_fields : Option ℕ → List Pair
total_fields None = []
total_fields (Some total) = (warc_segment_total_length, decimal total) ∷ []

abbrev pub next_fields : List Pair → List ℕ → SegmentPart → List Pair
next_fields given uuid part =
    origin_fields given uuid part.number
    ++ (warc_segment_number, decimal part.number)
    ∷ total_fields part.total
    ++ (warc_block_digest, digest_text part.digest)
    ∷ (content_length, decimal part.len)
    ∷ []

abbrev pub segment_fields : List Pair → List ℕ → SegmentPart → List Pair
segment_fields given uuid part = if part.number == 1 then first_fields given part else next_fields given uuid part

-- how many pieces of n bytes, the last one shorter or equal, a block that isn't empty is cut into, and the
-- piece at a place, counted from 0
abbrev pub segment_count : ℕ → ℕ → ℕ
segment_count n len = (len - 1) / n + 1

abbrev pub piece_at : ℕ → List ℕ → ℕ → List ℕ
piece_at n block at = take n (drop (at * n) block)

-- the segment at a place: the last one alone states the length of the block
abbrev pub total_at : ℕ → ℕ → ℕ → Option ℕ
total_at n len at = if at + 1 == segment_count n len then Some len else None

abbrev pub part_of : ℕ → ℕ → List ℕ → ℕ → SegmentPart
part_of n len piece at =
    record { number = at + 1; total = total_at n len at; len = length piece; digest = sha1 piece }

abbrev pub segment_of : Record → List ℕ → ℕ → ℕ → Record
segment_of r uuid n at =
    let piece = piece_at n r.block at in
    record {
      version = r.version;
      fields = segment_fields r.fields uuid (part_of n (length r.block) piece at);
      block = piece;
    }

abbrev pub segments_of : Record → List ℕ → ℕ → List Record
segments_of r uuid n = map (segment_of r uuid n) (range_with_len 0 (segment_count n (length r.block)))

abbrev pub has_room : Record → Bool
has_room r = nat_le (canonical_len r.version r.fields) max_head

-- each of the records can be framed
abbrev pub AllFramed : List Record → Type 0
AllFramed records = AllByRecursion IsFramed records

-- the record itself if its block has at most n bytes, or else its segments, if each head is short enough
abbrev pub cut_of : Record → List ℕ → ℕ → Result (List Record) SplitFault
cut_of r uuid n =
    if nat_le (length r.block) n then Ok (r ∷ [])
    else if list_all has_room (segments_of r uuid n) then Ok (segments_of r uuid n)
    else Err TooLong

-- the records that a record is split into, or the first refusal, in the order S4, S3, S2, S1, S7, S6
unfoldable pub split_of : Record → ℕ → Result (List Record) SplitFault
split_of r n = do
  uuid ← splittable r.fields n
  _ ← checks (not (has_bad_digest r)) BadDigest
  cut_of r uuid n

-- a fact of each refusal but a failed allocation
abbrev pub UnlessMemory : SplitFault → Type 0 → Type 0
UnlessMemory Memory P = ⊤
UnlessMemory fault P = P

-- the texts of refusals
abbrev pub split_fault_text : SplitFault → List ℕ
split_fault_text NotUuid = codes "S1 NotUuid"
split_fault_text AlreadySegmented = codes "S2 AlreadySegmented"
split_fault_text BadKind = codes "S3 Kind"
split_fault_text Size = codes "S4 Size"
split_fault_text Memory = codes "S5 Memory"
split_fault_text TooLong = codes "S6 TooLong"
split_fault_text BadDigest = codes "S7 BadDigest"

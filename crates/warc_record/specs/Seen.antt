-- What a typed head says, as a reading of fields: a state of the code.
use Rattle.std.specs.Prelude.{ℕ, List, Some, option_map}
use Rattle.warc_value.specs.Dates.{Instant}
use Rattle.warc_value.specs.Digests.{wanted_digest}
use Rattle.warc_record.specs.declared.head.NamedPair.{NamedPair}
use Rattle.warc_record.specs.declared.head.Reference.{Reference}
use Rattle.warc_record.specs.declared.head.Segment.{Segment}
use Rattle.warc_record.specs.declared.head.Typed.{Typed}
use Rattle.warc_record.specs.Readings.{ReferenceReading, SegmentReading, Reading, unless_empty}

abbrev pub pair_said : NamedPair → List ℕ × Instant
pair_said pair = (pair.target.now, pair.moment)

abbrev pub reference_said : Reference → ReferenceReading
reference_said reference = record {
  known_profile = reference.known_profile;
  named_id = reference.named_id;
  named_pair = option_map pair_said reference.named_pair;
}

abbrev pub segment_said : Segment → SegmentReading
segment_said segment = record { number = segment.number; origin = segment.origin; total = segment.total }

-- the texts are as they are written, each empty if it is absent
abbrev pub said : Typed → Reading
said typed = record {
  kind = typed.kind;
  type_text = Some typed.texts.kind.now;
  id_text = Some typed.texts.id.now;
  date_text = Some typed.texts.date.now;
  id = Some typed.id;
  instant = Some typed.moment;
  target = unless_empty typed.texts.target.now;
  reference = reference_said typed.reference;
  segment = segment_said typed.segment;
  wanted = wanted_digest typed.digest.now;
  payload_digest = unless_empty typed.payload_digest.now;
  truncated = typed.texts.is_truncated;
}

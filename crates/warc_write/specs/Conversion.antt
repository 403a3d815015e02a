-- A record of WARC 1.0 rewritten as one of WARC 1.1: of its targets, which 1.0 writes between < and > and
-- 1.1 without, the bare texts stay (ISO 28500:2017, 5.14). All else stays as it is.
use Rattle.std.specs.Prelude.{◌≡◌, List, map, if◌then◌else◌}
use Rattle.warc_field.specs.Text.{same, AreFields}
use Rattle.warc_field.specs.Area.{Pair}
use Rattle.warc_frame.specs.declared.version.Version.TheVariants.{V1_1}
use Rattle.warc_frame.specs.Record.{Record}
use Rattle.warc_frame.specs.Names.{warc_target_uri}
use Rattle.warc_record.specs.Good.{IsGood}
use Rattle.warc_record.specs.Ids.{bare_text}
use Rattle.warc_record.specs.Readings.{reading_of}

-- the value of a target without its brackets; any other field as it is
abbrev pub converted_field : Pair → Pair
converted_field field = if same field.0 warc_target_uri then (field.0, bare_text field.1) else field

abbrev pub converted_fields : List Pair → List Pair
converted_fields fields = map converted_field fields

unfoldable pub converted : Record → Record
converted r = record { version = V1_1; fields = converted_fields r.fields; block = r.block }

-- converting twice gives what converting once gives
abbrev pub ConversionIsIdempotent : Type 0
ConversionIsIdempotent = (r : Record) → AreFields r.fields → converted (converted r) ≡ converted r

-- a converted good record is good
abbrev pub ConvertedStaysGood : Type 0
ConvertedStaysGood = (r : Record) → IsGood r → IsGood (converted r)

-- a converted head says what it said before
abbrev pub ConvertedSaysTheSame : Type 0
ConvertedSaysTheSame = (r : Record) → AreFields r.fields → reading_of (converted r).fields ≡ reading_of r.fields

-- New records (ISO 28500:2017, 6.3, 6.6 and 6.8: resource, metadata and conversion records).
-- Which fields they have, their order, and the refusals are this project's own.
use Rattle.std.specs.Prelude.{◌≡◌, ⊤, ℕ, Bool, not, ◌&&◌, ◌==◌, nat_le, List, [], ◌∷◌, length, codes, decimal}
use Rattle.std.specs.Prelude.{Option, Some, None, ok_or, Result, Ok, Err, if◌then◌else◌}
use Rattle.std.specs.Str.{bytes_eq}
use Rattle.sha1.specs.Sha1.{sha1}
use Rattle.uuid.specs.Text.{parsed}
use Rattle.warc_field.specs.Text.{is_value}
use Rattle.warc_field.specs.Area.{Pair}
use Rattle.warc_frame.specs.Names.{content_length, content_type, warc_type, warc_record_id, warc_date, warc_target_uri, warc_block_digest}
use Rattle.warc_frame.specs.declared.version.Version.TheVariants.{V1_1}
use Rattle.warc_frame.specs.Reading.{◌>>=◌}
use Rattle.warc_frame.specs.Record.{Record, canonical_len, max_block, max_head}
use Rattle.warc_record.specs.declared.types.Kind.{Kind}
use Rattle.warc_record.specs.declared.types.Kind.TheVariants.{Warcinfo, Response, Resource, Request, Metadata}
use Rattle.warc_record.specs.declared.types.Kind.TheVariants.{Revisit, Conversion, Continuation, Other}
use Rattle.warc_record.specs.Heads.{is_date}
use Rattle.warc_record.specs.Ids.{bare_text}
use Rattle.warc_write.specs.declared.made.MakeFault.{MakeFault}
use Rattle.warc_write.specs.declared.made.MakeFault.TheVariants.{Date, Text, TooLong, Memory, Kind as BadKind}
use Rattle.warc_write.specs.Refusals.{checks}
use Rattle.warc_write.specs.Written.{digest_text, id_text}

-- what a record is made of
pub record Plan : Type 0 where
  pub kind : Kind
  pub uri : List ℕ
  pub date : List ℕ
  pub uuid : List ℕ
  pub content_type : List ℕ
  pub block : List ℕ

abbrev pub planned : Kind → List ℕ → List ℕ → List ℕ → List ℕ → List ℕ → Plan
planned kind uri date uuid content_type block =
    record { kind = kind; uri = uri; date = date; uuid = uuid; content_type = content_type; block = block }

-- the type of the three kinds that are made
abbrev pub type_of : Kind → Option (List ℕ)
type_of Resource = Some (codes "resource")
type_of Metadata = Some (codes "metadata")
type_of Conversion = Some (codes "conversion")
type_of Warcinfo = None
type_of Response = None
type_of Request = None
type_of Revisit = None
type_of Continuation = None
type_of Other = None

-- a value that isn't empty
abbrev pub is_one_text : List ℕ → Bool
is_one_text text = is_value text && not (length text == 0)

-- a target: such a value that is its own bare text
abbrev pub is_target : List ℕ → Bool
is_target uri = is_one_text uri && bytes_eq (bare_text uri) uri

-- the fields of a record with this type and id, in their order
abbrev pub made_fields : List ℕ → List ℕ → Plan → List Pair
made_fields type uuid plan =
    (warc_type, type)
    ∷ (warc_record_id, id_text uuid)
    ∷ (warc_date, plan.date)
    ∷ (warc_target_uri, plan.uri)
    ∷ (content_type, plan.content_type)
    ∷ (warc_block_digest, digest_text (sha1 plan.block))
    ∷ (content_length, decimal (length plan.block))
    ∷ []

-- a record of WARC 1.1
abbrev pub record_1_1 : List Pair → List ℕ → Record
record_1_1 fields block = record { version = V1_1; fields = fields; block = block }

-- the block is short enough, and the record if its canonical head is
abbrev pub is_block : List ℕ → Bool
is_block block = nat_le (length block) max_block

abbrev pub fitted : List Pair → List ℕ → Result Record MakeFault
fitted fields block = if nat_le (canonical_len V1_1 fields) max_head then Ok (record_1_1 fields block) else Err TooLong

-- the record, or the first refusal, in the order M5, M1, M2, M3
unfoldable pub made : Plan → Result Record MakeFault
made plan = do
  type ← ok_or (type_of plan.kind) BadKind
  _ ← checks (is_date plan.date) Date
  _ ← checks (is_target plan.uri) Text
  uuid ← ok_or (parsed plan.uuid) Text
  _ ← checks (is_one_text plan.content_type) Text
  _ ← checks (is_block plan.block) TooLong
  fitted (made_fields type uuid plan) plan.block

-- what a call returned is that, unless memory ran out
abbrev pub Makes : Result Record MakeFault → Result Record MakeFault → Type 0
Makes (Ok r) made = made ≡ Ok r
Makes (Err Memory) made = ⊤
Makes (Err fault) made = made ≡ Err fault

-- the texts of refusals
abbrev pub make_fault_text : MakeFault → List ℕ
make_fault_text Date = codes "M1 Date"
make_fault_text Text = codes "M2 Text"
make_fault_text TooLong = codes "M3 TooLong"
make_fault_text Memory = codes "M4 Memory"
make_fault_text BadKind = codes "M5 Kind"

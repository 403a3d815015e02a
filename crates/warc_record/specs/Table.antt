-- The field table: which kinds of record must have a field, which must not, and whether it may occur more
-- than once. It is this project's own profile of ISO 28500:2017, 5 and 6: a finding refuses no record.
use Rattle.std.specs.Prelude.{ℕ, Bool, true, false, List, [], ◌∷◌}
use Rattle.std.specs.List.{list_any}
use Rattle.warc_frame.specs.Names.{content_type, warc_target_uri, warc_concurrent_to, warc_ip_address, warc_refers_to, warc_refers_to_target_uri, warc_refers_to_date, warc_filename, warc_profile, warc_warcinfo_id, warc_segment_number, warc_segment_origin_id, warc_segment_total_length, warc_block_digest, warc_payload_digest, warc_truncated, warc_identified_payload_type}
use Rattle.warc_record.specs.declared.types.Kind.{Kind}
use Rattle.warc_record.specs.declared.types.Kind.TheVariants.{Warcinfo, Response, Resource, Request, Metadata, Revisit, Conversion, Continuation}
use Rattle.warc_record.specs.declared.table.FieldRule.{FieldRule}
use Rattle.warc_record.specs.Kinds.{is_kind}
use Rattle.warc_frame.specs.FieldNames.{name_text}
use Rattle.warc_frame.specs.declared.field_name.FieldName.{FieldName}
use Rattle.warc_frame.specs.declared.field_name.FieldName.TheVariants.{ConcurrentTo}

pub record Rule : Type 0 where
  pub name : List ℕ
  pub required : List Kind
  pub forbidden : List Kind
  pub repeats : Bool

abbrev pub is_among : Kind → List Kind → Bool
is_among kind kinds = list_any (is_kind kind) kinds

-- a field that occurs at most once, by its name, the kinds that require it and the kinds that forbid it
abbrev pub rule : List ℕ → List Kind → List Kind → Rule
rule name required forbidden = record { name = name; required = required; forbidden = forbidden; repeats = false }

abbrev pub all_but_revisit : List Kind
all_but_revisit = Warcinfo ∷ Response ∷ Resource ∷ Request ∷ Metadata ∷ Conversion ∷ Continuation ∷ []

abbrev pub all_but_warcinfo : List Kind
all_but_warcinfo = Response ∷ Resource ∷ Request ∷ Metadata ∷ Revisit ∷ Conversion ∷ Continuation ∷ []

abbrev pub all_but_continuation : List Kind
all_but_continuation = Warcinfo ∷ Response ∷ Resource ∷ Request ∷ Metadata ∷ Revisit ∷ Conversion ∷ []

unfoldable pub rules : List Rule
rules =
    rule warc_target_uri (Response ∷ Resource ∷ Request ∷ Revisit ∷ Conversion ∷ Continuation ∷ [])
    (Warcinfo ∷ [])
    ∷ record {
      name = warc_concurrent_to;
      required = [];
      forbidden = Warcinfo ∷ Conversion ∷ Continuation ∷ [];
      repeats = true;
    }
    ∷ rule warc_ip_address [] (Warcinfo ∷ Conversion ∷ Continuation ∷ [])
    ∷ rule warc_refers_to [] (Warcinfo ∷ Response ∷ Resource ∷ Request ∷ Continuation ∷ [])
    ∷ rule warc_refers_to_target_uri [] all_but_revisit
    ∷ rule warc_refers_to_date [] all_but_revisit
    ∷ rule warc_filename [] all_but_warcinfo
    ∷ rule warc_profile (Revisit ∷ []) []
    ∷ rule warc_warcinfo_id [] (Warcinfo ∷ [])
    ∷ rule warc_segment_number (Continuation ∷ []) []
    ∷ rule warc_segment_origin_id (Continuation ∷ []) all_but_continuation
    ∷ rule warc_segment_total_length [] all_but_continuation
    ∷ rule warc_block_digest [] []
    ∷ rule warc_payload_digest [] []
    ∷ rule warc_truncated [] []
    ∷ rule warc_identified_payload_type [] []
    ∷ rule content_type [] []
    ∷ []

-- the one name that the table lets occur more than once
abbrev pub may_repeat : FieldName → Bool
may_repeat ConcurrentTo = true
may_repeat _ = false

-- a row of the table in code
abbrev pub rule_seen : FieldRule → Rule
rule_seen row = record {
  name = name_text row.field;
  required = row.required.now;
  forbidden = row.forbidden.now;
  repeats = may_repeat row.field;
}

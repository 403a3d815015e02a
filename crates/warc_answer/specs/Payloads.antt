-- The payload of an origin (ISO 28500:2017, 6.3 and 6.4; 7 for its segments), or why there is none. Which digests are
-- judged, which targets name HTTP, and the order of the reasons are this project's own.
use Rattle.std.specs.Prelude.{◌≡◌, ℕ, Bool, true, false, ◌&&◌, ◌||◌, List, take, codes, Option, Some, None, Result, Ok, Err}
use Rattle.std.specs.Bool.{MatchBool}
use Rattle.std.specs.List.{flat_map, list_any}
use Rattle.std.specs.Option.{option_map_or}
use Rattle.std.specs.Str.{str_eq_ignore_ascii_case}
use Rattle.warc_value.specs.Digests.{is_bad, verdict_of}
use Rattle.warc_frame.specs.Record.{Record}
use Rattle.warc_record.specs.declared.types.Kind.{Kind}
use Rattle.warc_record.specs.declared.types.Kind.TheVariants.{Response}
use Rattle.warc_record.specs.Readings.{Reading, reading_of}
use Rattle.warc_payload.specs.Head.{HasNoHead}
use Rattle.warc_payload.specs.Payload.{GivesBody, GivesCodedBody}
use Rattle.warc_segment.specs.Joined.{ReadRecord}
use Rattle.warc_segment.specs.declared.gap.Gap.{Gap}
use Rattle.warc_answer.specs.declared.answer.Reason.{Reason}
use Rattle.warc_answer.specs.declared.answer.Reason.TheVariants.{NotFound, Segments, BadDigest, BadHead, Coded}

-- a record by what its head says, and its block: an answer rests on nothing else
abbrev pub read_record : Record → ReadRecord
read_record r = record { head = reading_of r.fields; block = r.block }

-- the blocks of the records that are joined, one after another
abbrev pub whole_block : List ReadRecord → List ℕ
whole_block joined = flat_map (λ r. r.block) joined

-- the record's own block isn't what its digest says
abbrev pub has_bad_block : ReadRecord → Bool
has_bad_block r = is_bad (verdict_of r.head.wanted r.block)

-- a URI of HTTP
abbrev pub is_http : List ℕ → Bool
is_http uri =
    str_eq_ignore_ascii_case (take 5 uri) (codes "http:") || str_eq_ignore_ascii_case (take 6 uri) (codes "https:")

-- a response, whose block is what a server sent
abbrev pub is_response : Kind → Bool
is_response Response = true
is_response _ = false

-- the block begins with the head of an HTTP response
abbrev pub is_http_response : Reading → Bool
is_http_response head = is_response head.kind && option_map_or is_http head.target false

-- what is given of an origin: the status of an HTTP response or none, and bytes
pub record Payload : Type 0 where
  pub status : Option ℕ
  pub bytes : List ℕ

-- what the block of an HTTP response gives after its head
abbrev pub IsAfterHead : List ℕ → Result Payload Reason → Type 0
IsAfterHead block (Ok payload) = (status : ℕ) × (payload.status ≡ Some status) × GivesBody block status payload.bytes
IsAfterHead block (Err Coded) = GivesCodedBody block
IsAfterHead block (Err BadHead) = HasNoHead block
IsAfterHead block (Err BadDigest) = ⊥
IsAfterHead block (Err (NotFound unfound)) = ⊥
IsAfterHead block (Err (Segments gap)) = ⊥

-- the payload of an origin, by the records that are joined to it or their gap: the first reason that fits, or the body
abbrev pub IsPayload : ReadRecord → Result (List ReadRecord) Gap → Result Payload Reason → Type 0
IsPayload origin (Err gap) payload = payload ≡ Err (Segments gap)
IsPayload origin (Ok joined) payload =
    MatchBool (list_any has_bad_block joined) (payload ≡ Err BadDigest)
    (MatchBool (is_http_response origin.head) (IsAfterHead (whole_block joined) payload)
    (payload ≡ Ok (record { status = None; bytes = whole_block joined })))

-- What a replay of a list of records gives for a URI as of a moment: a body and what is said of it, or the first reason
-- on the way. An older capture is never given in place of the chosen one. This project's own notion.
use Rattle.std.specs.Prelude.{◌≡◌, ℕ, Bool, false, List, length, map, slice_get, Option, Some, None, Result, Ok, Err}
use Rattle.std.specs.List.{list_any}
use Rattle.std.specs.Option.{option_map_or}
use Rattle.std.specs.Result.{result_ok}
use Rattle.warc_value.specs.Dates.{Instant}
use Rattle.warc_frame.specs.Record.{Record}
use Rattle.warc_index.specs.Captures.{Indexed, indexed_of, chosen_of}
use Rattle.warc_index.specs.Referents.{ok_then, origin_of}
use Rattle.warc_index.specs.declared.unfound.Unfound.{Unfound}
use Rattle.warc_segment.specs.Joined.{ReadRecord, joined_records}
use Rattle.warc_segment.specs.declared.gap.Gap.{Gap}
use Rattle.warc_answer.specs.Payloads.{read_record, Payload, IsPayload}
use Rattle.warc_answer.specs.declared.answer.Answer.{Answer}
use Rattle.warc_answer.specs.declared.answer.Path.{Path}
use Rattle.warc_answer.specs.declared.answer.Reason.{Reason}
use Rattle.warc_answer.specs.declared.answer.Reason.TheVariants.{NotFound}

-- what an index keeps of records
abbrev pub index_of : List ReadRecord → List Indexed
index_of all = map (λ r. indexed_of r.head) all

-- from a capture to its origin
abbrev pub path_from : List Indexed → ℕ → Result Path Unfound
path_from all chosen = ok_then (λ given. Ok (record { chosen = chosen; given = given })) (origin_of all chosen)

-- from the chosen capture of a target to its origin
abbrev pub path_of : List Indexed → List ℕ → Instant → Result Path Unfound
path_of all uri moment = ok_then (path_from all) (chosen_of all uri moment)

-- a body, and what is said of it
pub record Given : Type 0 where
  pub answer : Answer
  pub body : List ℕ

-- a record that is joined is marked as truncated
abbrev pub is_truncated : Result (List ReadRecord) Gap → Bool
is_truncated joined = option_map_or (λ rs. list_any (λ r. r.head.truncated) rs) (result_ok joined) false

-- a payload at the end of a path, and what is said of it
abbrev pub given_by : Path → Bool → Result Payload Reason → Result Given Reason
given_by path truncated (Err why) = Err why
given_by path truncated (Ok payload) = Ok (record {
  answer = record {
    chosen = path.chosen;
    given = path.given;
    status = payload.status;
    truncated = truncated;
    length = length payload.bytes;
  };
  body = payload.bytes;
})

-- what an origin gives, by the records that are joined to it or their gap
abbrev pub IsGivenBy : Path → ReadRecord → Result (List ReadRecord) Gap → Result Given Reason → Type 0
IsGivenBy path origin joined outcome =
    (payload : Result Payload Reason) × IsPayload origin joined payload
    × (outcome ≡ given_by path (is_truncated joined) payload)

-- what the record at a position gives; where there is none, nothing
abbrev pub IsGivenAt : List ReadRecord → Path → Option ReadRecord → Result Given Reason → Type 0
IsGivenAt all path None outcome = ⊥
IsGivenAt all path (Some origin) outcome = IsGivenBy path origin (joined_records all origin) outcome

-- what is given at the end of a path, or why there is no path
abbrev pub IsGivenOn : List ReadRecord → Result Path Unfound → Result Given Reason → Type 0
IsGivenOn all (Err unfound) outcome = outcome ≡ Err (NotFound unfound)
IsGivenOn all (Ok path) outcome = IsGivenAt all path (slice_get all path.given) outcome

-- the path among records for a URI as of a moment
unfoldable pub path_for : List Record → List ℕ → Instant → Result Path Unfound
path_for records uri moment = path_of (index_of (map read_record records)) uri moment

-- the path from the record at a position
unfoldable pub path_at : List Record → ℕ → Result Path Unfound
path_at records position = path_from (index_of (map read_record records)) position

-- what records give at the end of a path, or why there is no path
unfoldable pub IsAnswerOn : List Record → Result Path Unfound → Result Given Reason → Type 0
IsAnswerOn records found outcome = IsGivenOn (map read_record records) found outcome

-- what a replay of records gives for a URI as of a moment
abbrev pub IsAnswer : List Record → List ℕ → Instant → Result Given Reason → Type 0
IsAnswer records uri moment outcome = IsAnswerOn records (path_for records uri moment) outcome

-- What is stored of an origin, coded or not, and what is said of it. This project's own notion.
use Rattle.std.specs.Prelude.{◌≡◌, ℕ, Bool, false, List, [], length, drop, map, slice_get, Option, Some, None, Result, Ok, Err, ⊤}
use Rattle.std.specs.Bool.{MatchBool}
use Rattle.std.specs.List.{list_any}
use Rattle.std.specs.Option.{option_map_or}
use Rattle.httparse.specs.Grammar.{ResponseHead, print_response, status_code}
use Rattle.warc_field.specs.Area.{Pair, value_or_empty}
use Rattle.warc_frame.specs.Names.{content_type}
use Rattle.warc_frame.specs.Record.{Record}
use Rattle.warc_record.specs.Readings.{reading_of}
use Rattle.warc_payload.specs.Coding.{is_coded}
use Rattle.warc_payload.specs.Head.{BeginsWithHead, HasNoHead}
use Rattle.warc_payload.specs.Texts.{AreHeadTexts, media_type}
use Rattle.warc_index.specs.declared.unfound.Unfound.{Unfound}
use Rattle.warc_segment.specs.Joined.{ReadRecord, joined_records}
use Rattle.warc_segment.specs.declared.gap.Gap.{Gap}
use Rattle.warc_answer.specs.Answers.{IsAnswerOn, is_truncated}
use Rattle.warc_answer.specs.Payloads.{has_bad_block, is_http_response, read_record, whole_block}
use Rattle.warc_answer.specs.Replays.{given}
use Rattle.warc_answer.specs.declared.answer.Answer.{Answer}
use Rattle.warc_answer.specs.declared.answer.Path.{Path}
use Rattle.warc_answer.specs.declared.answer.Reason.{Reason}
use Rattle.warc_answer.specs.declared.answer.Reason.TheVariants.{NotFound, Segments, BadDigest, BadHead, Coded}

-- what is said of what is stored: the status of the HTTP response, the media type, the fields that say that it is coded
-- and whether any does, whether a record is truncated, how many of the joined bytes come before it, and its length
pub record StoredBody : Type 0 where
  pub status : Option ℕ
  pub media_type : List ℕ
  pub codings : List ℕ
  pub coded : Bool
  pub truncated : Bool
  pub head_len : ℕ
  pub length : ℕ

-- the value of the record's own `Content-Type`, empty where it has none
abbrev pub own_type : List Pair → List ℕ
own_type fields = value_or_empty content_type fields

-- the joined blocks of an HTTP response are this head, and then what is stored
pub record IsStoredAfter (block : List ℕ) (s : StoredBody) : Type 0 where
  pub head : ResponseHead
  pub front : BeginsWithHead block head (drop s.head_len block)
  pub head_len_is : s.head_len ≡ length (print_response head)
  pub status_is : s.status ≡ Some (status_code head)
  pub coded_is : s.coded ≡ is_coded head
  pub texts : AreHeadTexts head s.media_type s.codings

-- all of the joined blocks of another origin is stored
pub record IsAllOf (fields : List Pair) (s : StoredBody) : Type 0 where
  pub status_is : s.status ≡ None
  pub media_type_is : s.media_type ≡ media_type (own_type fields)
  pub codings_are : s.codings ≡ []
  pub coded_is : s.coded ≡ false
  pub head_len_is : s.head_len ≡ 0

-- what is stored in the joined blocks of an origin with these fields, an HTTP response or another record
abbrev pub IsStoredIn : Bool → List Pair → List ℕ → Result StoredBody Reason → Type 0
IsStoredIn http fields block (Ok s) = MatchBool http (IsStoredAfter block s) (IsAllOf fields s)
IsStoredIn http fields block (Err BadHead) = MatchBool http (HasNoHead block) ⊥
IsStoredIn http fields block (Err BadDigest) = ⊥
IsStoredIn http fields block (Err Coded) = ⊥
IsStoredIn http fields block (Err (NotFound unfound)) = ⊥
IsStoredIn http fields block (Err (Segments gap)) = ⊥

-- it has the mark and the length of the records that are joined
abbrev pub AreMeasures : List ReadRecord → Result StoredBody Reason → Type 0
AreMeasures joined (Ok s) =
    (s.truncated ≡ is_truncated (Ok joined)) × (s.length ≡ length (drop s.head_len (whole_block joined)))
AreMeasures joined (Err why) = ⊤

-- what is stored of an origin, by the records that are joined to it or their gap: the first reason that fits, or a body
abbrev pub IsStoredBy : Record → Result (List ReadRecord) Gap → Result StoredBody Reason → Type 0
IsStoredBy content (Err gap) stored = stored ≡ Err (Segments gap)
IsStoredBy content (Ok joined) stored = MatchBool (list_any has_bad_block joined) (stored ≡ Err BadDigest)
    (IsStoredIn (is_http_response (reading_of content.fields)) content.fields (whole_block joined) stored
    × AreMeasures joined stored)

-- the records that are joined to one
abbrev pub joined_to : List Record → Record → Result (List ReadRecord) Gap
joined_to records content = joined_records (map read_record records) (read_record content)

-- what is stored of the origin at a position
pub record IsStoredAt (records : List Record) (position : ℕ) (stored : Result StoredBody Reason) : Type 0 where
  pub content : Record
  pub there : slice_get records position ≡ Some content
  pub is : IsStoredBy content (joined_to records content) stored

-- what is stored at the end of a path, or why there is no path
abbrev pub IsStoredOn : List Record → Result Path Unfound → Result StoredBody Reason → Type 0
IsStoredOn records (Err unfound) stored = stored ≡ Err (NotFound unfound)
IsStoredOn records (Ok path) stored = IsStoredAt records path.given stored

-- the joined blocks of the record at a position, none where they don't join
abbrev pub joined_text : Result (List ReadRecord) Gap → List ℕ
joined_text (Ok joined) = whole_block joined
joined_text (Err gap) = []

abbrev pub joined_text_at : List Record → ℕ → List ℕ
joined_text_at records position =
    option_map_or (λ content. joined_text (joined_to records content)) (slice_get records position) []

-- the answer that a replay gives of what is stored, where it isn't coded
abbrev pub answer_with : Path → StoredBody → Answer
answer_with path s = record {
  chosen = path.chosen;
  given = path.given;
  status = s.status;
  truncated = s.truncated;
  length = s.length;
}

-- a replay on the path answers what is stored: the same reason, `Coded` for a coded body, or the body with what is said
-- of it
abbrev pub AnswersStored : List Record → Path → Result StoredBody Reason → Type 0
AnswersStored records path (Err why) = IsAnswerOn records (Ok path) (Err why)
AnswersStored records path (Ok s) = MatchBool s.coded (IsAnswerOn records (Ok path) (Err Coded))
    (IsAnswerOn records (Ok path) (given (answer_with path s) (drop s.head_len (joined_text_at records path.given))))

abbrev pub StoredIsAnswered : Type 0
StoredIsAnswered = (records : List Record) (path : Path) (stored : Result StoredBody Reason)
    → IsStoredAt records path.given stored → AnswersStored records path stored

-- Where a body is in a source: the answer of a replay, without its bytes. This project's own notion.
use Rattle.std.specs.Prelude.{ℕ, ◌+◌, ◌≤◌, List, length, take, drop, All, Option, Result, Ok, Err}
use Rattle.std.specs.List.{flat_map}
use Rattle.warc_frame.specs.Record.{Record}
use Rattle.warc_index.specs.declared.unfound.Unfound.{Unfound}
use Rattle.warc_answer.specs.Answers.{IsAnswerOn}
use Rattle.warc_answer.specs.Replays.{IsReplayOn, given}
use Rattle.warc_answer.specs.declared.answer.Answer.{Answer}
use Rattle.warc_answer.specs.declared.answer.Path.{Path}
use Rattle.warc_answer.specs.declared.answer.ReplayFault.{ReplayFault}
use Rattle.warc_answer.specs.declared.located.Span.{Span}

-- the bytes of a span
abbrev pub span_bytes : List ℕ → Span → List ℕ
span_bytes bytes s = take s.len (drop s.start bytes)

-- the bytes of spans, one after another
abbrev pub spans_text : List Span → List ℕ → List ℕ
spans_text spans bytes = flat_map (span_bytes bytes) spans

-- each span ends before the bytes do
abbrev pub AreInside : List Span → List ℕ → Type 0
AreInside spans bytes = All (λ s. s.start + s.len ≤ length bytes) spans

-- what is said of a body, and the spans whose bytes it is
pub record Location : Type 0 where
  pub answer : Answer
  pub spans : List Span

-- The bytes at the spans are the body of the answer, and lie within the source. A refusal is one that a replay gives
-- before anything goes out.
abbrev pub IsLocatedOn : List ℕ → List Record → Result Path Unfound → Result Location ReplayFault → Type 0
IsLocatedOn bytes records found (Ok body) =
    IsAnswerOn records found (given body.answer (spans_text body.spans bytes)) × AreInside body.spans bytes
IsLocatedOn bytes records found (Err fault) =
    (reports : Option (List ℕ)) → IsReplayOn records found (Err fault) reports reports

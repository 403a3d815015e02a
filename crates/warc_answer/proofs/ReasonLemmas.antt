-- What is found on the way to an answer makes it.
use Rattle.std.proofs.Common.{◌≡◌, List, map, Option, Result, Err, slice_get, refl, sym, subst}
use Rattle.warc_frame.specs.Record.{Record}
use Rattle.warc_index.specs.declared.unfound.Unfound.{Unfound}
use Rattle.warc_segment.specs.Joined.{ReadRecord, joined_records}
use Rattle.warc_segment.specs.declared.gap.Gap.{Gap}
use Rattle.warc_answer.specs.Answers.{Given, IsGivenBy, IsGivenAt, IsGivenOn, IsAnswerOn}
use Rattle.warc_answer.specs.Laws.{IsFound, ReasonsAreAnswers}
use Rattle.warc_answer.specs.Payloads.{read_record}
use Rattle.warc_answer.specs.declared.answer.Path.{Path}
use Rattle.warc_answer.specs.declared.answer.Reason.{Reason}
use Rattle.warc_answer.specs.declared.answer.Reason.TheVariants.{NotFound, Segments}

-- what an origin that is found gives is the answer
pub answer_of : (records : List Record) (way : Result Path Unfound) (path : Path) (origin : ReadRecord)
    (joined : Result (List ReadRecord) Gap) (outcome : Result Given Reason)
    → IsFound (map read_record records) way path origin joined → IsGivenBy path origin joined outcome
    → IsAnswerOn records way outcome
unfolding IsAnswerOn
answer_of records way path origin joined outcome found is =
    let all : List ReadRecord = map read_record records in
    let by : IsGivenBy path origin (joined_records all origin) outcome =
    subst (λ (j : Result (List ReadRecord) Gap). IsGivenBy path origin j outcome) (sym found.joined_is) is in
    let at : IsGivenAt all path (slice_get all path.given) outcome =
    subst (λ (o : Option ReadRecord). IsGivenAt all path o outcome) (sym found.is_present) by in
    subst (λ (p : Result Path Unfound). IsGivenOn all p outcome) (sym found.path_is) at

unfound_answer : (records : List Record) (way : Result Path Unfound) (unfound : Unfound) → way ≡ Err unfound
    → IsAnswerOn records way (Err (NotFound unfound))
unfolding IsAnswerOn
unfound_answer records way unfound e =
    subst (λ (p : Result Path Unfound). IsGivenOn (map read_record records) p (Err (NotFound unfound))) (sym e) refl

pub reasons_are_answers : ReasonsAreAnswers
reasons_are_answers records way = (
  unfound_answer records way,
  λ path origin gap found. answer_of records way path origin (Err gap) (Err (Segments gap)) found
      (Err (Segments gap), refl, refl),
)

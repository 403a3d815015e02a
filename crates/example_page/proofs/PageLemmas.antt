-- What a caller proves of the calls that it makes.
use Rattle.std.proofs.Common.{◌≡◌, ℕ, List, [], Some, Ok, sym, subst}
use Rattle.std.specs.Io.KnownBytes.{append_known}
use Rattle.warc_value.specs.Dates.{Instant}
use Rattle.warc_frame.specs.Device.{Stored}
use Rattle.warc_answer.specs.Answers.{IsAnswer}
use Rattle.warc_answer.specs.Replays.{IsReplay, given}
use Rattle.warc_answer.specs.declared.answer.Answer.{Answer}
use Rattle.warc_reading.proofs.StreamLemmas.{spells_all}
use Rattle.warc_reading.specs.Archive.{contents}
use Rattle.warc_lookup.specs.Indexed.{Archived, IsIndexed}
use Rattle.example_page.specs.Page.{IsPageOf}

pub known_bytes : (one other : List ℕ) → Some one ≡ Some other → one ≡ other
known_bytes one other same = cc same

-- a sink that was empty reports what went out
sent : (new text : List ℕ) → Some new ≡ append_known (Some []) text → new ≡ text
sent new text reported = cc reported

-- a replay that answers writes the page into an empty sink
pub page_of : (bytes uri : List ℕ) (moment : Instant) (archive : Archived Stored) (is : IsIndexed bytes archive)
    (answer : Answer) (old new : List ℕ) → old ≡ []
    → IsReplay (contents is.listed.are.records) uri moment (Ok answer) (Some old) (Some new)
    → IsPageOf bytes uri moment new
page_of bytes uri moment archive is answer old new empty (body, answers, reported) =
    let records = contents is.listed.are.records in
    let Answers : List ℕ → Type 0 = λ page. IsAnswer records uri moment (given answer page) in
    let Reported : List ℕ → Type 0 = λ was. Some new ≡ append_known (Some was) body in record {
      records = records;
      spelled = spells_all 0 is.listed.are.records bytes is.listed.are.spelled;
      good = is.listed.are.good;
      answer = answer;
      answers = subst Answers (sym (sent new body (subst Reported empty reported))) answers;
    }

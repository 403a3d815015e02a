-- The page that the bytes of an archive hold.
use Rattle.std.specs.Prelude.{ℕ, List}
use Rattle.warc_value.specs.Dates.{Instant}
use Rattle.warc_frame.specs.Record.{Record}
use Rattle.warc_frame.specs.Spelling.{SpellsAll}
use Rattle.warc_answer.specs.Answers.{IsAnswer}
use Rattle.warc_answer.specs.Replays.{given}
use Rattle.warc_answer.specs.declared.answer.Answer.{Answer}
use Rattle.warc_reading.specs.Archive.{AreGood}

-- the bytes spell good records, and for the URI and the moment these answer with this page
pub record IsPageOf (bytes uri : List ℕ) (moment : Instant) (page : List ℕ) : Type 0 where
  pub records : List Record
  pub spelled : SpellsAll records bytes
  pub good : AreGood records
  pub answer : Answer
  pub answers : IsAnswer records uri moment (given answer page)

-- What a search for the next good record finds.
use Rattle.std.specs.Prelude.{◌≡◌, ℕ, zero, suc, ◌<◌, ◌≤◌, ◌⊎◌, List, codes, length, take, drop, Option, None, Some, Result, Ok, Err, if◌then◌else◌}
use Rattle.memchr.specs.Find.{Nowhere, NoneBefore, OccursAt, occurs_at}
use Rattle.warc_frame.specs.declared.fault.Fault.{Fault}
use Rattle.warc_reading.specs.Fronts.{BeginsWithNone}
use Rattle.warc_pieces.specs.Judging.{MissesBy}
use Rattle.warc_pieces.specs.Pieces.{BeginsWithOne, near}
use Rattle.warc_pieces.specs.Window.{Shown, reached}

-- the least offset from `from` on at which a good record is whole, or the end of the bytes
pub record IsNextRecord (bytes : List ℕ) (from found : ℕ) : Type 0 where
  pub after : from ≤ found
  pub within : found ≤ length (near bytes)
  pub none : (q : ℕ) → from ≤ q → q < found → BeginsWithNone (drop q (near bytes))
  pub next : (found ≡ length (near bytes)) ⊎ BeginsWithOne (drop found (near bytes))

-- A search stopped at an offset: a read failed, or memory ran out for the head there. From `from` to that offset no
-- good record begins that is whole before the fault's.
pub record IsSearchStopped (bytes : List ℕ) (from : ℕ) (f : Fault) : Type 0 where
  pub at : ℕ
  pub after : from ≤ at
  pub none : (q : ℕ) → from ≤ q → q < at → BeginsWithNone (drop q (take f.offset (near bytes)))
  pub misses : MissesBy f.kind at bytes f

-- the next good record, or why the search for it stopped
abbrev pub FindsNext : List ℕ → ℕ → Result ℕ Fault → Type 0
FindsNext bytes from (Ok found) = IsNextRecord bytes from found
FindsNext bytes from (Err f) = IsSearchStopped bytes from f

-- where a search ended
abbrev pub search_end : Result ℕ Fault → ℕ
search_end (Ok found) = found
search_end (Err f) = f.offset

-- the bytes that each version line begins with
abbrev pub line_start : List ℕ
line_start = codes "WARC/1."

-- at how many of the first n offsets of a text a version line begins
unfoldable pub lines_in : List ℕ → ℕ → ℕ
lines_in text zero = 0
lines_in text (suc n) = if occurs_at text line_start n then suc (lines_in text n) else lines_in text n

-- no version line begins at the offsets from one to another
abbrev pub NoLine : List ℕ → ℕ → ℕ → Type 0
NoLine text from to = Nowhere (OccursAt text line_start) from to

-- the next version line from an offset on; or there is none, and the window shows the last bytes; or a read failed
abbrev pub FindsLine : List ℕ → ℕ → Shown → Result (Option ℕ) Fault → Type 0
FindsLine bytes from now (Ok (Some at)) = NoneBefore (OccursAt (near bytes) line_start) from (length (near bytes)) at
    × OccursAt (near bytes) line_start at
FindsLine bytes from now (Ok None) = (reached now ≡ length (near bytes))
    × NoLine (near bytes) from (length (near bytes))
FindsLine bytes from now (Err f) = (from ≤ f.offset) × (f.offset ≤ length (near bytes))
    × NoLine (take f.offset (near bytes)) from f.offset

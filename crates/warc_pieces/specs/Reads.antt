-- What the calls of a window do. A state of the code.
use Rattle.std.specs.Prelude.{◌≡◌, ℕ, ◌+◌, ◌-◌, ◌*◌, ◌<◌, ◌≤◌, ◌&&◌, max, nat_le, Bool, true, false, List, drop, length, Result, Ok, Err, if◌then◌else◌}
use Rattle.warc_frame.specs.Count.{raised}
use Rattle.warc_frame.specs.Record.{max_archive, max_head}
use Rattle.warc_frame.specs.Seen.{AsksOnly, SeenSource}
use Rattle.warc_frame.specs.declared.fault.Fault.{Fault}
use Rattle.warc_pieces.specs.Window.{ReadsBy, Shown, reached}

-- the bytes that a window shows are those of its buffer from a place to another one
pub record IsWindow (buf : List ℕ) (start end begin : ℕ) : Type 0 where
  pub order : start ≤ end
  pub within : end ≤ length buf
  pub room : length buf ≡ 4 * max_head
  pub limit : begin + (end - start) ≤ max_archive

-- what a window shows from an offset on
abbrev pub from_on : ℕ → Shown → Shown
from_on at w = record {
  bytes = drop (at - w.begin) w.bytes;
  begin = at;
  is_last = nat_le at (reached w) && w.is_last;
}

-- a window goes no further than it did, or than the offset where it goes on
abbrev pub IsNoFurther : Shown → Shown → ℕ → Type 0
IsNoFurther w now at = reached now ≡ max at (reached w)

-- a read by which a window shows more, from an offset on, or the source ends with what it shows
abbrev pub goes_on_by : Shown → Shown → ℕ → Bool → Type 0
goes_on_by w now at true = (reached w < reached now) × (at < reached now)
goes_on_by w now at false = (now.is_last ≡ true) × IsNoFurther w now at

-- how many reads weren't for a byte that a window has gone on
abbrev pub reads_beside : Result Bool Fault → ℕ
reads_beside (Ok true) = 0
reads_beside (Ok false) = 1
reads_beside (Err f) = 1

-- a source was read at most `most` times, the last of which failed or not, and was asked for no byte from offset 2^48
-- on
pub record ReadsNear (most : ℕ) (is_failed : Bool) (old new : SeenSource) : Type 0 where
  pub kept : new.holds ≡ old.holds
  pub watched : new.watches ≡ old.watches
  pub cause : new.faults ≡ (if is_failed then raised old.faults else old.faults)
  pub near : AsksOnly (λ q. q < max_archive) old new
  pub bound : new.reads ≤ old.reads + most

-- a source was read at most `most` times by a call that gave this answer, and not by way of a window
abbrev pub ReadsAlone : {X : Type 0} → ℕ → Result X Fault → SeenSource → SeenSource → Type 0
ReadsAlone most answer old new = (w : Shown) → ReadsBy most answer w w old new

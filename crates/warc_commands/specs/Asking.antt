-- What of a file was asked for so far. States of the code: no public clause cites them.
use Rattle.std.specs.Prelude.{◌≡◌, ℕ, ◌+◌, ◌*◌, ◌<◌, ◌≤◌, List, length}
use Rattle.warc_frame.specs.Record.{max_block}
use Rattle.warc_frame.specs.Seen.{AsksOnly, IfHeld, SeenSource}
use Rattle.warc_commands.specs.Reads.{file_piece}

-- these first bytes were read, in at most one read for each, none from `most` on and none further after the end than
-- there is room in a buffer
pub record HasReadFront (most room : ℕ) (items : List ℕ) (old new : SeenSource) : Type 0 where
  pub near : AsksOnly (λ at. at < most) old new
  pub close : IfHeld old.holds (λ bytes. AsksOnly (λ at. at < length bytes + room) old new)
  pub cost : new.reads ≤ old.reads + length items
  pub watched : new.watches ≡ old.watches

-- all was read, or a read or an allocation failed
pub record ReadsFront (most room : ℕ) (old new : SeenSource) : Type 0 where
  pub near : AsksOnly (λ at. at < most) old new
  pub close : IfHeld old.holds (λ bytes. AsksOnly (λ at. at < length bytes + room) old new)
  pub cost : IfHeld old.holds (λ bytes. new.reads ≤ old.reads + length bytes + 1)
  pub watched : new.watches ≡ old.watches

-- single bytes were asked for, each twice as far out as the one before, and the next would be this one
pub record HasAsked (next : ℕ) (old new : SeenSource) : Type 0 where
  pub near : AsksOnly (λ at. at ≤ max_block) old new
  pub close : IfHeld old.holds (λ bytes. AsksOnly (λ at. at ≤ 2 * length bytes + file_piece) old new)
  pub far : IfHeld old.holds (λ bytes. next ≤ 2 * length bytes + file_piece)
  pub cost : file_piece * new.reads + file_piece ≤ file_piece * old.reads + next
  pub watched : new.watches ≡ old.watches

-- and no more
pub record AsksFar (old new : SeenSource) : Type 0 where
  pub near : AsksOnly (λ at. at ≤ max_block) old new
  pub close : IfHeld old.holds (λ bytes. AsksOnly (λ at. at ≤ 2 * length bytes + file_piece) old new)
  pub cost : IfHeld old.holds (λ bytes. new.reads ≤ old.reads + length bytes + 1)
  pub watched : new.watches ≡ old.watches

-- What reading a part of a source reads of it. This project's own notion.
use Rattle.std.specs.Prelude.{◌≡◌, ℕ, Bool, if◌then◌else◌}
use Rattle.warc_frame.specs.Count.{raised}
use Rattle.warc_frame.specs.Seen.{AsksOnly, IsInRange, SeenSource}

-- a read of a source that asks for `len` bytes at this offset, and failed or not
pub record IsReadAt (at len : ℕ) (failed : Bool) (old new : SeenSource) : Type 0 where
  pub kept : new.holds ≡ old.holds
  pub cause : new.faults ≡ (if failed then raised old.faults else old.faults)
  pub counted : new.reads ≡ raised old.reads
  pub asked : new.asked ≡ at
  pub watched : new.watches ≡ old.watches
  pub asks : AsksOnly (IsInRange at len) old new

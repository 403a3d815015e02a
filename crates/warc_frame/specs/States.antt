-- What contracts see of each kind of source, by what it holds. None of these watches an offset or gives its bytes in
-- order.
use Rattle.std.specs.Prelude.{ℕ, List, Option, Some, None, false}
use Rattle.warc_frame.specs.Device.{Lent, Opened, Stored}
use Rattle.warc_frame.specs.Seen.{SeenSource}

-- a source that holds these bytes, or one of whose bytes nothing is known
abbrev pub unwatched : Option (List ℕ) → ℕ → ℕ → ℕ → SeenSource
unwatched holds faults reads asked = record {
  holds = holds;
  faults = faults;
  reads = reads;
  asked = asked;
  watches = λ _. false;
  watched_reads = 0;
  next = None;
  jumps = 0;
}

-- bytes in memory, lent bytes, a file
abbrev pub stored_state : Stored → SeenSource
stored_state s = unwatched (Some s.bytes) 0 s.reads s.asked

abbrev pub lent_state : Lent → SeenSource
lent_state s = unwatched (Some s.bytes) 0 s.reads s.asked

abbrev pub opened_state : {F : Type 0} → Opened F → SeenSource
opened_state s = unwatched None s.faults s.reads s.asked

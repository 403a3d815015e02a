-- What a round trip of records begins with, and why it fails.
use Rattle.std.specs.Prelude.{◌≡◌, ◌≤◌, ⊤, List, length}
use Rattle.warc_frame.specs.Record.{Record, max_archive}
use Rattle.warc_frame.specs.declared.fault.FaultKind.TheVariants.{Memory}
use Rattle.warc_write.specs.Making as making
use Rattle.warc_write.specs.Rendering.{canonical_texts}
use Rattle.example_library.specs.declared.round_trip.Plan.{Plan}
use Rattle.example_library.specs.declared.round_trip.RoundFault.{RoundFault}
use Rattle.example_library.specs.declared.round_trip.RoundFault.TheVariants.{Unmade, Unwritten, Unopened, Unread}

-- what a record is made of, as the definition of made records has it
abbrev pub plan_of_draft : Plan → making.Plan
plan_of_draft plan = record {
  kind = plan.kind;
  uri = plan.uri.now;
  date = plan.date.now;
  uuid = plan.uuid.now;
  content_type = plan.content_type.now;
  block = plan.block.now;
}

-- why records that stand aren't read back: what is written of them doesn't open, where it isn't too long because an
-- allocation failed; or an allocation failed to the sink, or to what reads
abbrev pub IsNotReadBack : List Record → RoundFault → Type 0
IsNotReadBack records (Unmade fault) = ⊥
IsNotReadBack records (Unwritten fault) = ⊤
IsNotReadBack records (Unopened fault) = length (canonical_texts records) ≤ max_archive → fault.kind ≡ Memory
IsNotReadBack records (Unread fault) = ⊤

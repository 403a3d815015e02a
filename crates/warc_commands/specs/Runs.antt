-- How a command runs that opens its source.
use Rattle.std.specs.Prelude.{◌≡◌, Result, Ok, Err}
use Rattle.warc_frame.specs.Seen.{Seen, SeenSource}
use Rattle.warc_frame.specs.declared.fault.Fault.{Fault}
use Rattle.warc_arguments.specs.declared.status.Status.{Status}
use Rattle.warc_commands.specs.Devices.{Devices, Outputs, devices}
use Rattle.warc_commands.specs.Program.{Reports, fault_line, status_of_kind}

-- it ended so and read so, and the source still holds what it held
pub record HasRun (How : Devices → Devices → Status → Type 0) (Reads : SeenSource → SeenSource → Type 0)
    (old new : Devices) (status : Status) : Type 0 where
  pub ends : How old new status
  pub kept : new.source.holds ≡ old.source.holds
  pub reads : Reads old.source new.source

-- the source isn't opened: once the fault is reported it ended so. Nothing was written before
pub record IsOpeningRefused (How : Devices → Devices → Status → Type 0) (Reads : SeenSource → SeenSource → Type 0)
    (old new : Devices) (fault : Fault) : Type 0 where
  pub ends : (err : Seen) (status : Status) → Reports (fault_line fault) new.err err
      → status ≡ status_of_kind fault.kind → How old (devices new.source new.out err) status
  pub untouched : new.out ≡ old.out
  pub kept : new.source.holds ≡ old.source.holds
  pub reads : Reads old.source new.source

-- how a command ended, or why its source isn't opened; and what is seen of the source
abbrev pub run_seen : {S : Type 0} → (S → SeenSource) → Result (Status × S) (Fault × S)
    → Result (Status × SeenSource) (Fault × SeenSource)
run_seen seen (Ok ended) = Ok (ended.0, seen ended.1)
run_seen seen (Err refused) = Err (refused.0, seen refused.1)

-- by both
abbrev pub Runs : (Devices → Devices → Status → Type 0) → (SeenSource → SeenSource → Type 0) → Devices → Outputs
    → Result (Status × SeenSource) (Fault × SeenSource) → Type 0
Runs How Reads old new (Ok ended) = HasRun How Reads old (devices ended.1 new.out new.err) ended.0
Runs How Reads old new (Err refused) = IsOpeningRefused How Reads old (devices refused.1 new.out new.err) refused.0

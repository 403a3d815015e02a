-- How a command runs that opens its source.
use Rattle.std.proofs.Common.{ℕ, List, Result, Ok, Err, refl}
use Rattle.warc_frame.specs.Seen.{Seen, SeenSource}
use Rattle.warc_frame.specs.declared.fault.Fault.{Fault}
use Rattle.warc_reading.specs.Opening.{Opens}
use Rattle.warc_arguments.specs.declared.status.Status.{Status}
use Rattle.warc_commands.specs.Devices.{Devices, Outputs, devices}
use Rattle.warc_commands.specs.Program.{IsNotOpened}
use Rattle.warc_commands.specs.Runs.{IsOpeningRefused, Runs}
use Rattle.warc_commands.proofs.ProgramLemmas.{not_opened}

-- as another command says it
pub runs_as : (How Other : Devices → Devices → Status → Type 0) (Reads Asks : SeenSource → SeenSource → Type 0) (old : Devices) (new : Outputs) (run : Result (Status × SeenSource) (Fault × SeenSource))
    → ((last : Devices) (status : Status) → How old last status → Other old last status) → ((last : SeenSource) → Reads old.source last → Asks old.source last) → Runs How Reads old new run → Runs Other Asks old new run
runs_as How Other Reads Asks old new (Ok ended) ends reads is = record { ends = ends _ ended.0 is.ends; kept = is.kept; reads = reads ended.1 is.reads }
runs_as How Other Reads Asks old new (Err refused) ends reads is = record {
  ends = λ err status reported same. ends _ status (is.ends err status reported same);
  untouched = is.untouched;
  kept = is.kept;
  reads = reads refused.1 is.reads;
}

-- its source isn't opened
pub refused : {X : Type 0} (Is : List ℕ → X → Type 0) (How : Devices → Devices → Status → Type 0) (Reads : SeenSource → SeenSource → Type 0) (before last : SeenSource) (out err : Seen) (fault : Fault) → Opens Is before last (Err fault)
    → ((new : Devices) (status : Status) → IsNotOpened (devices before out err) new status → How (devices before out err) new status) → Reads before last → IsOpeningRefused How Reads (devices before out err) (devices last out err) fault
refused Is How Reads before last out err fault opens ends reads = record {
  ends = λ reported status says same. ends _ status (not_opened Is before last out err reported fault status opens says same);
  untouched = refl;
  kept = opens.reads.kept;
  reads = reads;
}

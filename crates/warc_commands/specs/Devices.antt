-- What a run of the program uses: a source and two sinks, as contracts see them.
use Rattle.warc_frame.specs.Seen.{Seen, SeenSource}
use Rattle.warc_commands.specs.declared.console.Console.{Console}

-- the two outputs of a run
pub record Outputs : Type 0 where
  pub out : Seen
  pub err : Seen

abbrev pub outputs_of : Seen → Seen → Outputs
outputs_of out err = record { out = out; err = err }

pub record Devices : Type 0 where
  pub source : SeenSource
  pub out : Seen
  pub err : Seen

abbrev pub devices : SeenSource → Seen → Seen → Devices
devices source out err = record { source = source; out = out; err = err }

-- what is seen of a console, and of a console beside a source
abbrev pub outputs : {W E : Type 0} → (W → Seen) → (E → Seen) → Console W E → Outputs
outputs out err console = outputs_of (out console.out) (err console.err.sink)

abbrev pub used : {W E : Type 0} → SeenSource → (W → Seen) → (E → Seen) → Console W E → Devices
used source out err console = devices source (out console.out) (err console.err.sink)

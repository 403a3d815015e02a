-- Why bytes in memory aren't opened.
use Rattle.std.specs.Prelude.{◌≡◌, ◌⊎◌, ℕ, List}
use Rattle.warc_frame.specs.declared.fault.Fault.{Fault}
use Rattle.warc_frame.specs.declared.fault.FaultKind.TheVariants.{Memory}
use Rattle.warc_reading.specs.Archive.{IsFaultOf}

-- memory was wanted, or this is their first fault
abbrev pub IsRefused : List ℕ → Fault → Type 0
IsRefused bytes fault = (fault.kind ≡ Memory) ⊎ IsFaultOf bytes fault

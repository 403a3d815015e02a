-- A record that is made, as a portion.
use Rattle.std.specs.Prelude.{◌≡◌, ⊤, ℕ, List, Result, Ok, Err}
use Rattle.warc_frame.specs.Record.{Record}
use Rattle.warc_frame.specs.Spelling.{canonical}
use Rattle.warc_write.specs.Making.{Plan, made}
use Rattle.warc_write.specs.declared.made.MakeFault.{MakeFault}
use Rattle.warc_write.specs.declared.made.MakeFault.TheVariants.{Memory}
use Rattle.warc_portions.specs.Portions.{IsPortionOf}
use Rattle.warc_portions.specs.declared.portion.Portion.{Portion}

-- the record of a plan is a portion with this block, or none is made, for the plan's fault or since memory ran out
abbrev pub MakesPortion : {A : Type 0} → Plan → List ℕ → Result (Portion A) MakeFault → Type 0
MakesPortion plan block (Ok portion) = (r : Record) × (made plan ≡ Ok r) × IsPortionOf portion block (canonical r)
MakesPortion plan block (Err Memory) = ⊤
MakesPortion plan block (Err fault) = made plan ≡ Err fault

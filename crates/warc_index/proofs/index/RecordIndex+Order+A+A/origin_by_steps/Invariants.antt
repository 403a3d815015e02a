use Rattle.std.proofs.Common.{◌≡◌, ◌-◌, List, length}
use Rattle.warc_index.specs.Captures.{Indexed}
use Rattle.warc_index.specs.Referents.{origin_of, origin_within}
use Rattle.warc_index.specs.Orders.{IsIndexOf}
use Rattle.warc_index.proofs.index.RecordIndex+Order+A+A.origin_by_steps.Given as goal

abbrev pub invariant-loop-step : goal.invariant-loop-step
invariant-loop-step g l =
    (all : List Indexed) → IsIndexOf all l.self
    → origin_of all l.position ≡ origin_within (length all - l._step) all l.at

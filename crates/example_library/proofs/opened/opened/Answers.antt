use Rattle.std.proofs.Common.{Some, ap}
use Rattle.example_library.proofs.MoveLemmas.{sound_refused}
use Rattle.example_library.proofs.opened.opened.Goals as goal

pub returns-in-Ok-clause-opened : goal.returns-in-Ok-clause-opened
returns-in-Ok-clause-opened c = c.in-Ok.ensures.accepted c.args.text.items (ap Some c.new.ensures.bytes)

pub returns-in-Err-clause-refused : goal.returns-in-Err-clause-refused
returns-in-Err-clause-refused c =
    sound_refused c.in-Err.fault.kind c.args.text.items _ _ c.in-Err.fault c.in-Err.ensures.reads.cause
    (c.in-Err.ensures.refused c.args.text.items (ap Some c.new.ensures.bytes))

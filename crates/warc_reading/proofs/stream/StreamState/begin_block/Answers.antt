use Rattle.std.proofs.Common.{List, [], refl, subst}
use Rattle.warc_field.specs.Area.{Pair}
use Rattle.warc_reading.proofs.stream.StreamState.begin_block.Goals as goal

pub returns-clause-current : goal.returns-clause-current
returns-clause-current g c =
    let (good, same) = c.in_ok-head.ensures in
    let S : List Pair → Type 0 = λ fields. g.B.TakeBlock.has_seen c.begin-block.result fields [] in
    (_, refl, record { good = good; fields_are = same }, subst S same c.begin-block.ensures, refl, refl)

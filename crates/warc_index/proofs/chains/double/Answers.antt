use Rattle.std.proofs.Common.{◌<◌, length, get_or, arith}
use Rattle.std.proofs.lemmas.List.{get_or_default}
use Rattle.warc_index.proofs.ReachLemmas.{none_doubled, more_doubled, all_doubled}
use Rattle.warc_index.proofs.chains.double.Goals as goal

pub doubling-init : goal.doubling-init
doubling-init c next least are = none_doubled next least c.args.places.now are

pub doubling-preserved : goal.doubling-preserved
doubling-preserved c next least are =
    let at = c.doubling.position in
    let places = c.doubling.places in
    let within : at < length places = omega (arith, c.doubling.auto.places, c.doubling-test.true) in
    more_doubled next least at (get_or places at 0) c.place_for.result places within
    (get_or_default places at at 0 within) c.place_for.ensures (c.doubling.invariant next least are)

pub returns-clause-further : goal.returns-clause-further
returns-clause-further c next least are =
    all_doubled next least c.doubling.position c.doubling.places
    (omega (arith, c.doubling.auto.places, c.doubling-test.false)) (c.doubling.invariant next least are)

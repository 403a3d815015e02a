use Rattle.std.proofs.Common.{refl}
use Rattle.warc_replay.proofs.SeriesLemmas.{other_size}
use Rattle.warc_replay.proofs.replay.known_series.take_known.Goals as goal

pub returns-then-size-len-clause-other : goal.returns-then-size-len-clause-other
returns-then-size-len-clause-other g c =
    (refl, other_size c.args.series.now c.args.segment c.in-Some.size c.args.len c.in-Some.ensures c.if-size-len.true)

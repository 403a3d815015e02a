use Rattle.std.proofs.Common.{ap, take, ◌∙◌}
use Rattle.std.proofs.lemmas.List.{take-map}
use Rattle.warc_reading.specs.Judging.{verdict_on}
use Rattle.warc_judged.proofs.block_verdicts.BlockVerdictsKeep.truncate.Goals as goal

pub returns : goal.returns
returns g c = λ records is. c.truncate.ensures ∙ ap (take c.args.count) is ∙ take-map verdict_on c.args.count records

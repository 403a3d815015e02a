use Rattle.std.proofs.Common.{Ok, ap, ◌∙◌}
use Rattle.warc_replay.proofs.LoneLemmas.{lone_made, then_judged}
use Rattle.warc_replay.proofs.replay.lone.judge_once.Goals as goal

pub returns-in-Ok-Some-clause-judges : goal.returns-in-Ok-Some-clause-judges
returns-in-Ok-Some-clause-judges g c =
    lone_made c.args.rows.now c.args.lookup.now.parts c.args.position c.args.own c.args.joined c.judge_lone.result c.args.rests.now c.in-Ok-Some.stored
    (c.in-Ok-Some.is ∙ ap Ok c.in-Ok-Some.field-0-is) c.in-Good.is c.judge_lone.ensures

pub returns-in-Ok-None-clause-judges : goal.returns-in-Ok-None-clause-judges
returns-in-Ok-None-clause-judges g c =
    then_judged c.args.rows.now c.args.lookup.now.parts c.args.position c.args.own c.args.joined c.judge_lone.result c.judge_by-in-Ok-None.result
    (c.in-Ok-None.is ∙ ap Ok c.in-Ok-None.field-0-is) c.judge_lone.ensures c.judge_by-in-Ok-None.ensures.judges

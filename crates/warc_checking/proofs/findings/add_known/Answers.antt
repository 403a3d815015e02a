use Rattle.warc_checking.proofs.JudgingLemmas.{shown_one, shown_then}
use Rattle.warc_checking.proofs.findings.add_known.Goals as goal

pub returns-in-Ok-clause-ok : goal.returns-in-Ok-clause-ok
returns-in-Ok-clause-ok g c =
    shown_one _ _ _ _ _ _ _ c.in_ok-add.ensures.ok c.in-Ok.ensures.ok c.requires.last (shown_then c.args.fields.now c.args.block_len _)

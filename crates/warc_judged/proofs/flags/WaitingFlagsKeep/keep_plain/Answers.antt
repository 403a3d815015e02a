use Rattle.warc_judged.proofs.SummaryLemmas.{alone_is_no_segment, flags_more}
use Rattle.warc_judged.proofs.flags.WaitingFlagsKeep.keep_plain.Goals as goal

pub returns-clause-ok : goal.returns-clause-ok
returns-clause-ok g c = λ records p is position next.
    flags_more c.add.result c.args.self.now c.add.new.self records p _ is
    (alone_is_no_segment p.content.fields (next.says.alone c.requires.taken)) (c.plain_check.ensures p c.args._block_start next) c.add.ensures.ok

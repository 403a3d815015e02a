use Rattle.std.proofs.Common.{sym, ap, ◌∙◌}
use Rattle.warc_judged.specs.Claims.{claimed}
use Rattle.warc_judged.proofs.SummaryLemmas.{alone_is_no_segment}
use Rattle.warc_judged.proofs.ClaimLemmas.{marks_more}
use Rattle.warc_judged.proofs.marks.HeadMarksKeep.keep_plain.Goals as goal

pub returns-clause-ok : goal.returns-clause-ok
returns-clause-ok g c = λ records p is position next.
    marks_more c.add.result c.args.self.now c.add.new.self records p _ _ is
    (sym (alone_is_no_segment p.content.fields (next.says.alone c.requires.taken))) (ap claimed (c.wanted.ensures ∙ sym next.says.wanted)) c.add.ensures.ok

use Rattle.std.proofs.Common.{ap, ◌∙◌}
use Rattle.warc_record.specs.Readings.{digest_wanted}
use Rattle.warc_judged.specs.Summary.{has_segment_number}
use Rattle.warc_judged.specs.Claims.{claimed}
use Rattle.warc_judged.proofs.ClaimLemmas.{marks_more}
use Rattle.warc_judged.proofs.marks.HeadMarksKeep.keep.Goals as goal

pub returns-clause-ok : goal.returns-clause-ok
returns-clause-ok g c = λ records p is position next seen.
    marks_more c.add.result c.args.self.now c.add.new.self records p _ _ is
    (c.has_segment_number.ensures ∙ ap has_segment_number (c.fields.ensures.fields ∙ next.fields_are))
    (ap claimed (c.wanted.ensures ∙ ap digest_wanted next.fields_are)) c.add.ensures.ok

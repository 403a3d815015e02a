use Rattle.std.proofs.Common.{ap, take, ◌∙◌}
use Rattle.std.proofs.lemmas.List.{take-map}
use Rattle.warc_judged.specs.Summary.{is_numbered}
use Rattle.warc_judged.specs.Claims.{SurveyMarks, claimed_on}
use Rattle.warc_judged.proofs.marks.HeadMarksKeep.truncate.Goals as goal

pub returns : goal.returns
returns g c = λ records is. (
  c.truncate.ensures.items ∙ ap (take c.args.count) (ap (λ (m : SurveyMarks). m.segmented) c.self.view_is ∙ is.0) ∙ take-map is_numbered c.args.count records,
  c.truncate-2.ensures ∙ ap (take c.args.count) (ap (λ (m : SurveyMarks). m.claims) c.self.view_is ∙ is.1) ∙ take-map claimed_on c.args.count records,
)

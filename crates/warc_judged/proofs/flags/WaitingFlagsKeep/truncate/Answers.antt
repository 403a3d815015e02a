use Rattle.std.proofs.Common.{ap, take, ◌∙◌}
use Rattle.std.proofs.lemmas.List.{take-map}
use Rattle.warc_judged.specs.Fixity.{stated_on}
use Rattle.warc_judged.specs.Summary.{Flags, is_numbered}
use Rattle.warc_judged.proofs.flags.WaitingFlagsKeep.truncate.Goals as goal

pub returns : goal.returns
returns g c = λ records is. (
  c.truncate.ensures.items ∙ ap (take c.args.count) (ap (λ (f : Flags). f.segmented) c.self.view_is ∙ is.0) ∙ take-map is_numbered c.args.count records,
  c.truncate-2.ensures ∙ ap (take c.args.count) (ap (λ (f : Flags). f.verdicts) c.self.view_is ∙ is.1) ∙ take-map stated_on c.args.count records,
)

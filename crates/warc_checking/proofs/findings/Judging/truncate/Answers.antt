use Rattle.std.proofs.Common.{ap, map, sym, take, ◌∙◌}
use Rattle.std.proofs.lemmas.List.{take-map}
use Rattle.warc_checking.specs.Judging.{all_shown, settled}
use Rattle.warc_checking.specs.OwnFindings.{all_of}
use Rattle.warc_checking.proofs.JudgingLemmas.{settled_none}
use Rattle.warc_checking.proofs.findings.Judging.truncate.Goals as goal

pub returns : goal.returns
returns g c =
    let all = settled c.self.inside.findings c.self.inside.batch in
    ap (all_shown c.truncate.new.self) c.settle.ensures.none ∙ ap (map all_of) (settled_none c.truncate.new.self)
    ∙ ap (map all_of) (c.truncate.ensures ∙ ap (take c.args.count) c.settle.ensures.same) ∙ sym (take-map all_of c.args.count all)
    ∙ ap (take c.args.count) c.self.view_is

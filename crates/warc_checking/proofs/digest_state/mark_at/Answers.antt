use Rattle.std.proofs.Common.{ap, set, ◌∙◌}
use Rattle.warc_checking.specs.OwnFindings.{each_with}
use Rattle.warc_checking.proofs.OwnFindingLemmas.{each_marked}
use Rattle.warc_checking.proofs.digest_state.mark_at.Goals as goal

pub returns : goal.returns
returns c = λ others same.
    ap (λ s. each_with others (set c.args.states.now c.args.position s)) c.marked.ensures
    ∙ each_marked others c.args.states.now c.args.position _ same

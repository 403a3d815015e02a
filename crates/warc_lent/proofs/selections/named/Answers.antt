use Rattle.std.proofs.Common.{rules, ◌<◌}
use Rattle.std.specs.Prelude.{All}
use Rattle.warc_lent.proofs.SelectionLemmas.{named_in_order}
use Rattle.warc_lent.proofs.selections.named.Goals as goal

pub returns-in-Ok-clause-named : goal.returns-in-Ok-clause-named
returns-in-Ok-clause-named g c =
    let below : All (λ p. p < c.args.count) c.args.positions.now = search rules in
    named_in_order _ _ _ below c.in-Ok.ensures.rises c.in-Ok.ensures.each

use Rattle.std.proofs.Common.{Some, ap, ◌∙◌}
use Rattle.example_page.proofs.PageLemmas.{known_bytes}
use Rattle.example_page.proofs.page.opened.Goals as goal

pub returns-in-Ok-clause-source : goal.returns-in-Ok-clause-source
returns-in-Ok-clause-source c = known_bytes _ _ (c.in-Ok.ensures.reads.kept ∙ ap Some c.new.ensures.bytes)

pub returns-in-Ok-clause-opened : goal.returns-in-Ok-clause-opened
returns-in-Ok-clause-opened c = c.in-Ok.ensures.accepted c.args.bytes.items (ap Some c.new.ensures.bytes)

use Rattle.std.proofs.Common.{subst}
use Rattle.std.specs.Prelude.{IfNone}
use Rattle.warc_order.specs.Entries.{HasPosition, IsNone}
use Rattle.warc_order.proofs.Order.text_at.Goals as goal

pub returns-clause-none : goal.returns-clause-none
returns-clause-none g c =
    subst (λ es. IfNone c.text_at.result (IsNone es (HasPosition c.args.position))) c.self.view_is c.text_at.ensures.none

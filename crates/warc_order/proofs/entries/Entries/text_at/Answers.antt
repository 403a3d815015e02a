use Rattle.std.proofs.Common.{◌∙◌, arith}
use Rattle.warc_order.proofs.OrderLemmas.{none_at}
use Rattle.warc_order.proofs.entries.Entries.text_at.Goals as goal
use Rattle.warc_order.proofs.entries.Entries.text_at.Goals.{else-index-len-via-then-index-len+else-position, else-index-len-via-else-index-len}

pub returns-else-index-len-clause-none : goal.returns-else-index-len-clause-none
returns-else-index-len-clause-none g c =
    none_at c.args.self.now c.count_below-index.result c.args.position c.requires c.count_below-index.ensures.below
    c.count_below-index.ensures.above (λ within at. elim c.else-index-len.branch [
      | else-index-len-via-then-index-len+else-position w ↦ w.if-position.false (w.position.ensures ∙ at)
      | else-index-len-via-else-index-len w ↦ omega (arith, w.if-index-len.false)
    ])

use Rattle.std.proofs.Common.{sym, subst, List}
use Rattle.warc_segment.specs.declared.series.Continuation.{Continuation}
use Rattle.warc_segment.specs.Ordered.{numbers_in, AreOrdered}
use Rattle.warc_segment.proofs.JoinLemmas.{ordered_series}
use Rattle.warc_segment.proofs.parts.whole_series.Goals as goal

pub find_gap-requires : goal.find_gap-requires
find_gap-requires g c =
    subst (λ (series : List Continuation). AreOrdered (numbers_in series)) (sym c.deref.ensures.value)
    (ordered_series c.requires.0 c.args.id.now c.args.order.now c.args.facts.now c.in_ok-series.series.items
    c.requires.1 c.in_ok-series.ensures)

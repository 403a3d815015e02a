use Rattle.warc_order.specs.Entries.{no_entry}
use Rattle.warc_segment.proofs.HeldLemmas.{side_at}
use Rattle.warc_segment.proofs.held.continuation_at.Goals as goal

pub returns-clause-is_present : goal.returns-clause-is_present
returns-clause-is_present g c =
    side_at c.args.order.now c.args.facts.now c.args.found.index no_entry _ c.requires.same c.requires.found

use Rattle.std.proofs.Common.{refl}
use Rattle.warc_rewrite.specs.Closure.{records_read}
use Rattle.warc_lent.proofs.SelectionLemmas.{closed_with, closed_without, only_memory}
use Rattle.warc_lent.proofs.selections.closure.Goals as goal

pub returns-then-except-clause-closed : goal.returns-then-except-clause-closed
returns-then-except-clause-closed g c = λ is.
    closed_without c.args.except (records_read is.listed.are.records) c.args.positions.now c.closed_others.result c.if-except.true
    (c.closed_others.ensures.closes.reported c.args.archive.now.listing.source.bytes refl is.listed is.kept)

pub returns-then-except-clause-memory : goal.returns-then-except-clause-memory
returns-then-except-clause-memory g c = λ is.
    only_memory c.closed_others.result _ _ refl refl
    (c.closed_others.ensures.closes.fails.failed c.args.archive.now.listing.source.bytes refl (is.listed, is.kept))

pub returns-else-except-clause-closed : goal.returns-else-except-clause-closed
returns-else-except-clause-closed g c = λ is.
    closed_with c.args.except (records_read is.listed.are.records) c.args.positions.now c.closed.result c.if-except.false
    (c.closed.ensures.closes.reported c.args.archive.now.listing.source.bytes refl is.listed is.kept)

pub returns-else-except-clause-memory : goal.returns-else-except-clause-memory
returns-else-except-clause-memory g c = λ is.
    only_memory c.closed.result _ _ refl refl
    (c.closed.ensures.closes.fails.failed c.args.archive.now.listing.source.bytes refl (is.listed, is.kept))

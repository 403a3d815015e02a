use Rattle.warc_record.proofs.FindingLemmas.{nothing_by_table}
use Rattle.warc_record.proofs.rules.add_by_table.Goals as goal

pub returns-then-keeps_table : goal.returns-then-keeps_table
returns-then-keeps_table g c = λ pairs reads.
    nothing_by_table c.args.kind pairs (c.keeps_table.ensures c.if-keeps_table.true pairs reads) (g.S.FindingSink.listed c.args.found.now)

use Rattle.std.proofs.Common.{ap}
use Rattle.warc_reading.specs.Row.{Row}
use Rattle.warc_rewrite.proofs.EmitLemmas.{given}
use Rattle.warc_rewrite.proofs.SelectLemmas.{range_of, reads_of}
use Rattle.warc_rewrite.proofs.selection.put_whole.Goals as goal

pub returns-clause-emits : goal.returns-clause-emits
returns-clause-emits g c =
    given c.put_range.ensures.emits
    (λ bytes text held is. range_of c.args.row.now _ c.whole_len.result bytes text (ap (λ (r : Row). r.offset) c.row.view_is) c.whole_len.ensures.exact is)

pub returns-clause-reads : goal.returns-clause-reads
returns-clause-reads g c =
    reads_of c.args.row.now _ c.whole_len.result (ap (λ (r : Row). r.offset) c.row.view_is) c.whole_len.ensures.most c.put_range.ensures.reads

use Rattle.std.proofs.Common.{ap, arith}
use Rattle.warc_portions.proofs.CutLemmas.{further, further_has_size, further_is_long, further_splits}
use Rattle.warc_reading.specs.Row.{Row}
use Rattle.warc_portions.proofs.segments.cut_further.Goals as goal

pub returns-then-size-eq0-clause-cut : goal.returns-then-size-eq0-clause-cut
returns-then-size-eq0-clause-cut g c = λ r s at head len some is.
    absurd (omega (arith, further_has_size r s c.args.size at some is, c.if-size-eq0.true))

pub returns-then-row-size-clause-cut : goal.returns-then-row-size-clause-cut
returns-then-row-size-clause-cut g c = λ r s at head len some is.
    let row = ap (λ (r : Row). r.block_len) c.row.view_is in
    absurd (omega (arith, further_is_long r s c.args.size at some is, len, row, c.if-row-size.true))

pub returns-in-Ok-clause-cut : goal.returns-in-Ok-clause-cut
returns-in-Ok-clause-cut g c = λ r s at head len some is.
    further r s c.args.size at c.args.head.now.fields _ head.fields c.in-Ok.ensures some is

pub returns-in-Err-clause-cut : goal.returns-in-Err-clause-cut
returns-in-Err-clause-cut g c = λ r s at head len some is.
    further_splits r s c.args.size at c.args.head.now.fields _ head.fields c.in-Err.ensures some is

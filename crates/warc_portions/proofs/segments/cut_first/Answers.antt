use Rattle.std.proofs.Common.{rules, ◌≡◌, ◌+◌, ◌-◌, None, ap, drop, take, ◌∙◌, arith}
use Rattle.warc_portions.proofs.PortionLemmas.{cuttable, len_at}
use Rattle.warc_reading.specs.Row.{Row}
use Rattle.warc_rewrite.proofs.SplitLemmas.{cut_by, short_stays}
use Rattle.warc_portions.proofs.segments.cut_first.Goals as goal

pub returns-then-row-size-clause-cut : goal.returns-then-row-size-clause-cut
returns-then-row-size-clause-cut g c = λ p at head.
    let len = ap (λ (r : Row). r.block_len) c.row.view_is in
    short_stays p.content c.args.size (omega (arith, len_at c.args.bytes.now c.args.row.now p at, len, c.if-row-size.true))

pub returns-in-Err : goal.returns-in-Err
returns-in-Err g c = record {
  cut = λ p at head.
      let row = c.args.row.now in
      let given = c.args.head.now in
      let start = ap (λ (r : Row). r.block_start) c.row.view_is in
      let len = ap (λ (r : Row). r.block_len) c.row.view_is in
      let size : (c.row.inside.block_start + c.row.inside.block_len) - c.row.inside.block_start ≡ row.block_len = omega (arith, len) in
      let block = ap (λ n. take n (drop c.row.inside.block_start c.args.bytes.now)) size ∙ ap (λ n. take row.block_len (drop n c.args.bytes.now)) start in
      let is = cuttable c.args.bytes.now row p given.version given.fields c.row.inside.block_len c.args.size c.is_bad-bad.result _ at head.version head.fields len c.is_bad-bad.ensures block in
      cut_by given.version given.fields c.row.inside.block_len c.args.size c.is_bad-bad.result p.content None is tt (λ parts. search rules);
  long = tt;
  memory = tt;
}

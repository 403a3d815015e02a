use Rattle.std.proofs.Common.{rules, ℕ, None, ap, subst, sym, arith}
use Rattle.warc_reading.specs.Row.{Row}
use Rattle.warc_write.specs.Cutting.{or_whole}
use Rattle.warc_rewrite.specs.Segments.{IsCuttable}
use Rattle.warc_rewrite.proofs.SplitLemmas.{cut_by, short_stays}
use Rattle.warc_rewrite.proofs.segments.cut_or_whole.Goals as goal

pub returns-then-row-size-clause-cut : goal.returns-then-row-size-clause-cut
returns-then-row-size-clause-cut g c = λ r is.
    let len = ap (λ (r : Row). r.block_len) c.row.view_is in
    short_stays r c.args.size (omega (arith, is.len_is, len, c.if-row-size.true))

pub returns-in-Ok-clause-cut : goal.returns-in-Ok-clause-cut
returns-in-Ok-clause-cut g c = λ r is.
    let head = c.args.head.now in
    let len = ap (λ (r : Row). r.block_len) c.row.view_is in
    let P : ℕ → Type 0 = λ n. IsCuttable head.version head.fields n c.args.size c.args.bad r in
    cut_by head.version head.fields _ c.args.size c.args.bad r c.in-Ok.uuid (subst P (sym len) is) c.in-Ok.ensures.long
    (λ parts. ap (or_whole r) (c.in-Ok.ensures.cut r parts))

pub returns-in-Err : goal.returns-in-Err
returns-in-Err g c = record {
  cut = λ r is.
      let head = c.args.head.now in
      let len = ap (λ (r : Row). r.block_len) c.row.view_is in
      let P : ℕ → Type 0 = λ n. IsCuttable head.version head.fields n c.args.size c.args.bad r in
      cut_by head.version head.fields _ c.args.size c.args.bad r None (subst P (sym len) is) tt (λ parts. search rules);
  long = tt;
}

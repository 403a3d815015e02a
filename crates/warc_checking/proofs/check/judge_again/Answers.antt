use Rattle.std.proofs.Common.{ap, arith, ◌∙◌}
use Rattle.std.proofs.lemmas.Result.{err_from_is_err_and}
use Rattle.warc_frame.proofs.EffectLemmas.{fails_after, fails_more}
use Rattle.warc_reading.specs.Row.{Row}
use Rattle.warc_checking.proofs.JudgeLemmas.{block_judged, block_there, head_there, reads_again}
use Rattle.warc_checking.proofs.check.judge_again.Goals as goal

pub returns-in_err-head-clause-fails : goal.returns-in_err-head-clause-fails
returns-in_err-head-clause-fails g c =
    let p = err_from_is_err_and c.from_residual.result c.from_residual.ensures.1 in
    rw (p.1, p.2) (fails_more (λ bytes held is. head_there c.args.row.now bytes is) c.in_err-head.ensures.fails)

pub returns-in-Ok-clause-judged : goal.returns-in-Ok-clause-judged
returns-in-Ok-clause-judged g c = λ bytes held is.
    let same = c.in_ok-head.ensures.read bytes held (head_there c.args.row.now bytes is) in (
      c.into_fields.ensures ∙ same,
      c.in-Ok.ensures.verdict bytes (c.in_ok-head.ensures.reads.kept ∙ held)
          ∙ block_judged c.args.row.now bytes is _ _ c.wanted-wanted.result c.in_ok-head.head
          (ap (λ (r : Row). r.block_start) c.row.view_is) (ap (λ (r : Row). r.block_len) c.row.view_is) c.wanted-wanted.ensures same,
    )

pub returns-in-Ok-clause-reads : goal.returns-in-Ok-clause-reads
returns-in-Ok-clause-reads g c =
    let whole = c.in_ok-head.ensures.whole in
    reads_again c.args.row.now _ _ c.wanted-wanted.result (ap (λ (r : Row). r.block_start) c.row.view_is)
    (ap (λ (r : Row). r.block_len) c.row.view_is) (omega (arith, whole.size)) c.in_ok-head.ensures.reads c.judge_range.ensures.reads

pub returns-in-Err-clause-reads : goal.returns-in-Err-clause-reads
returns-in-Err-clause-reads g c =
    let whole = c.in_ok-head.ensures.whole in
    reads_again c.args.row.now _ _ c.wanted-wanted.result (ap (λ (r : Row). r.block_start) c.row.view_is)
    (ap (λ (r : Row). r.block_len) c.row.view_is) (omega (arith, whole.size)) c.in_ok-head.ensures.reads c.judge_range.ensures.reads

pub returns-in-Err-clause-fails : goal.returns-in-Err-clause-fails
returns-in-Err-clause-fails g c =
    fails_after c.in_ok-head.ensures.reads.kept c.in_ok-head.ensures.fails.may
    (fails_more
    (λ bytes held is. block_there c.args.row.now bytes _ _ (ap (λ (r : Row). r.block_start) c.row.view_is) (ap (λ (r : Row). r.block_len) c.row.view_is) is)
    c.in-Err.ensures.fails)

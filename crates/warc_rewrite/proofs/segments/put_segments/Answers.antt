use Rattle.std.proofs.Common.{◌≡◌, ℕ, ◌+◌, ◌*◌, ◌<◌, rules, sym, subst, arith}
use Rattle.std.proofs.lemmas.Result.{err_from_is_err_and}
use Rattle.warc_write.specs.Splitting.{segment_count}
use Rattle.warc_rewrite.specs.Segments.{AreSegmentTexts}
use Rattle.warc_rewrite.proofs.EmitLemmas.{both, given, nothing, short}
use Rattle.warc_frame.proofs.EffectLemmas.{reads_both, reads_none, reads_within}
use Rattle.warc_rewrite.proofs.SplitLemmas.{segment_more, segments_begin_more, segments_none}
use Rattle.warc_rewrite.proofs.segments.put_segments.Goals as goal

pub splitting-init : goal.splitting-init
splitting-init g c = record {
  room = search rules;
  emits = given nothing (λ bytes text held are. segments_none c.args.cut.now bytes text are);
  reads = reads_within (λ at in_. in_) (omega arith) reads_none;
}

pub splitting-preserved : goal.splitting-preserved
splitting-preserved g c =
    let cut = c.args.cut.now in
    let at = c.splitting.at in
    let next : at * cut.size + cut.size ≡ (at + 1) * cut.size = omega arith in
    record {
      room = omega (arith, c.splitting.invariant.room, c.put_segment.auto.scratch);
      emits = both c.splitting.invariant.emits c.in_ok-put_segment.ensures.emits (λ bytes text held are. segment_more cut at bytes text are);
      reads = reads_within (λ at in_. in_) (omega (arith, next)) (reads_both c.splitting.invariant.reads c.in_ok-put_segment.ensures.reads);
    }

pub returns-clause-emits : goal.returns-clause-emits
returns-clause-emits g c =
    let cut = c.args.cut.now in
    let all : c.splitting.at ≡ segment_count cut.size cut.block_len =
    omega (arith, c.splitting-test.false, c.splitting.auto.at-end, c.segment_count-at-end.ensures.count) in
    given c.splitting.invariant.emits
    (λ bytes text held are. let P : ℕ → Type 0 = λ n. AreSegmentTexts cut n bytes text in subst P (sym all) are)

pub returns-in_err-put_segment-clause-emits : goal.returns-in_err-put_segment-clause-emits
returns-in_err-put_segment-clause-emits g c =
    let p = err_from_is_err_and c.from_residual.result c.from_residual.ensures.1 in
    let cut = c.args.cut.now in
    let below : c.splitting.at < segment_count cut.size cut.block_len = omega (arith, c.splitting-test.true, c.segment_count-at-end.ensures.count) in
    rw (p.1, p.2) (short (both c.splitting.invariant.emits c.in_err-put_segment.ensures.emits (λ bytes text held is. is))
    (λ bytes text held are. segments_begin_more cut c.splitting.at (segment_count cut.size cut.block_len) bytes text below are))

pub returns-in_err-put_segment-clause-reads : goal.returns-in_err-put_segment-clause-reads
returns-in_err-put_segment-clause-reads g c =
    reads_within (λ at in_. in_) (omega arith) (reads_both c.splitting.invariant.reads c.in_err-put_segment.ensures.reads)

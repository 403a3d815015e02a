use Rattle.std.proofs.Common.{◌+◌, ◌<◌, length, refl, ◌∙◌, arith}
use Rattle.std.proofs.lemmas.Result.{err_from_is_err_and}
use Rattle.warc_frame.proofs.EffectLemmas.{fails_after, fails_never, reads_none}
use Rattle.warc_rewrite.proofs.TakenLemmas.{heads_all, heads_more, heads_past, record_there, some_at}
use Rattle.warc_rewrite.proofs.LeftLemmas.{judged_fewer, judged_fresh, judged_next, judged_past}
use Rattle.warc_rewrite.proofs.closure.leave_segments.Goals as goal

pub judging-init : goal.judging-init
judging-init g c = record {
  same = refl;
  reported = λ bytes held is parts fresh. judged_fresh is.are.records c.args.statuses.now fresh;
  reads = reads_none;
  sound = refl;
}

pub judging-preserved-then-is_named : goal.judging-preserved-then-is_named
judging-preserved-then-is_named g c =
    let old = c.judging.invariant in
    record {
      same = old.same;
      reported = λ bytes held is parts fresh.
          judged_past is.are.records c.judging.position c.args.statuses.now c.judging.statuses
          (old.reported bytes held is parts fresh) (c.is_named.ensures.yes c.if-is_named.true);
      reads = heads_past c.args.rows.now c.judging.position old.reads;
      sound = old.sound;
    }

pub judging-preserved : goal.judging-preserved
judging-preserved g c =
    let old = c.judging.invariant in
    let next = c.in_ok-leave_segments_of.ensures in
    let within : c.judging.position < length c.args.rows.now = omega (arith, c.judging-test.true, c.len-position-end.ensures) in
    let (row, at) = some_at c.args.rows.now c.judging.position within in
    record {
      same = next.same ∙ old.same;
      reported = λ bytes held is parts fresh.
          let before = old.reported bytes held is parts fresh in
          let (p, there) = record_there bytes c.args.rows.now c.judging.position is within in
          judged_next is.are.records c.judging.position p c.args.statuses.now c.judging.statuses
          c.leave_segments_of.new.statuses before there (c.is_named.ensures.no c.if-is_named.false)
          (omega (arith, old.same, c.requires.table, within))
          (next.judges.reported bytes (old.reads.kept ∙ held) is p there parts before.memos);
      reads = heads_more c.args.rows.now c.judging.position row at old.reads (next.judges.reads row at);
      sound = next.judges.fails.may ∙ old.sound;
    }

pub returns-in_err-leave_segments_of-clause-judges : goal.returns-in_err-leave_segments_of-clause-judges
returns-in_err-leave_segments_of-clause-judges g c =
    let p = err_from_is_err_and c.from_residual.result c.from_residual.ensures.1 in
    let old = c.judging.invariant in
    let next = c.in_err-leave_segments_of.ensures in
    let within : c.judging.position < length c.args.rows.now = omega (arith, c.judging-test.true, c.len-position-end.ensures) in
    let (row, at) = some_at c.args.rows.now c.judging.position within in
    rw (p.1, p.2) (record {
      reported = λ bytes held is parts fresh. tt;
      reads = heads_all c.args.rows.now (c.judging.position + 1)
          (heads_more c.args.rows.now c.judging.position row at old.reads (next.judges.reads row at));
      fails = fails_after old.reads.kept old.sound next.judges.fails;
    })

pub returns-clause-judges : goal.returns-clause-judges
returns-clause-judges g c =
    let old = c.judging.invariant in
    record {
      reported = λ bytes held is parts fresh.
          judged_fewer is.are.records (length c.args.rows.now) c.judging.position c.args.statuses.now c.judging.statuses
          (omega (arith, c.judging-test.false, c.len-position-end.ensures)) (old.reported bytes held is parts fresh);
      reads = heads_all c.args.rows.now c.judging.position old.reads;
      fails = fails_never old.sound;
    }

use Rattle.std.proofs.Common.{◌+◌, ◌<◌, length, ◌∙◌, arith}
use Rattle.std.proofs.lemmas.Result.{err_from_is_err_and}
use Rattle.warc_frame.proofs.EffectLemmas.{fails_after, fails_never}
use Rattle.warc_rewrite.proofs.TakenLemmas.{heads_all, heads_more, heads_past, record_there, some_at, taken_fewer, taken_next, taken_past}
use Rattle.warc_rewrite.proofs.closure.take_segments.Goals as goal

pub taking-preserved-then-is_free : goal.taking-preserved-then-is_free
taking-preserved-then-is_free g c =
    let old = c.taking.invariant in
    record {
      same = old.same;
      reported = λ bytes held is parts none.
          taken_past is.are.records c.taking.position c.args.marks.now c.taking.marks (old.reported bytes held is parts none)
          (c.is_free.ensures.free c.if-is_free.true);
      reads = heads_past c.args.rows.now c.taking.position old.reads;
      sound = old.sound;
    }

pub taking-preserved : goal.taking-preserved
taking-preserved g c =
    let old = c.taking.invariant in
    let next = c.in_ok-take_segments_of.ensures in
    let within : c.taking.position < length c.args.rows.now = omega (arith, c.taking-test.true, c.len-position-end.ensures) in
    let (row, at) = some_at c.args.rows.now c.taking.position within in
    record {
      same = next.same ∙ old.same;
      reported = λ bytes held is parts none.
          let before = old.reported bytes held is parts none in
          let (p, there) = record_there bytes c.args.rows.now c.taking.position is within in
          let inside = c.is_free.ensures.marked c.if-is_free.false (omega (arith, old.same, c.requires.table, within)) in
          taken_next is.are.records c.taking.position p c.args.marks.now c.taking.marks c.take_segments_of.new.marks before
          there inside (next.takes.reported bytes (old.reads.kept ∙ held) is p there parts before.taken);
      reads = heads_more c.args.rows.now c.taking.position row at old.reads (next.takes.reads row at);
      sound = next.takes.fails.may ∙ old.sound;
    }

pub returns-in_err-take_segments_of-clause-takes : goal.returns-in_err-take_segments_of-clause-takes
returns-in_err-take_segments_of-clause-takes g c =
    let p = err_from_is_err_and c.from_residual.result c.from_residual.ensures.1 in
    let old = c.taking.invariant in
    let next = c.in_err-take_segments_of.ensures in
    let within : c.taking.position < length c.args.rows.now = omega (arith, c.taking-test.true, c.len-position-end.ensures) in
    let (row, at) = some_at c.args.rows.now c.taking.position within in
    rw (p.1, p.2) (record {
      reported = λ bytes held is parts none. tt;
      reads = heads_all c.args.rows.now (c.taking.position + 1)
          (heads_more c.args.rows.now c.taking.position row at old.reads (next.takes.reads row at));
      fails = fails_after old.reads.kept old.sound next.takes.fails;
    })

pub returns-clause-takes : goal.returns-clause-takes
returns-clause-takes g c =
    let old = c.taking.invariant in
    record {
      reported = λ bytes held is parts none.
          taken_fewer is.are.records (length c.args.rows.now) c.taking.position c.args.marks.now c.taking.marks
          (omega (arith, c.taking-test.false, c.len-position-end.ensures)) (old.reported bytes held is parts none);
      reads = heads_all c.args.rows.now c.taking.position old.reads;
      fails = fails_never old.sound;
    }

use Rattle.std.proofs.Common.{arith}
use Rattle.std.proofs.lemmas.Result.{err_from_is_err_and}
use Rattle.warc_commands.proofs.SalvageAllLemmas.{copy_all, copy_cut, copy_more, copy_none}
use Rattle.warc_commands.proofs.WalkLemmas.{walk_begins}
use Rattle.warc_commands.proofs.salvage_all.copy_runs.Goals as goal

pub copying-init : goal.copying-init
copying-init g c = record { room = c.requires.room; has = copy_none _ _ _ _ _ _ _ _ (walk_begins _ _ _ _ c.requires.begun.0 c.requires.begun.1 c.new-tally.ensures) }

pub copying-preserved : goal.copying-preserved
copying-preserved g c =
    let has = c.copying.invariant.has in
    let walks = c.next_step.ensures (g.S.Source.seen c.args.pieces.now.source) has.pieces has.walked in
    let more = rw c.in-More.is at walks in
    record {
      room = omega (arith, c.copying.invariant.room, c.copy_run.auto.scratch);
      has = copy_more _ _ _ _ _ _ _ _ _ _ _ _ _ _ _ _ _ _ has c.in-More.piece more.0 more.2 c.in_ok-copy_run-in-More.ensures.reads c.in_ok-copy_run-in-More.field-0 _ _ _ c.in_ok-copy_run-in-More.ensures.emits c.in_ok-copy_run-in-More.ensures.same.0 c.in_ok-copy_run-in-More.ensures.same.1 c.report_damage.ensures;
    }

pub returns-in_err-copy_run-in-More : goal.returns-in_err-copy_run-in-More
returns-in_err-copy_run-in-More g c =
    let has = c.copying.invariant.has in
    let walks = c.next_step.ensures (g.S.Source.seen c.args.pieces.now.source) has.pieces has.walked in
    let more = rw c.in-More.is at walks in
    let p = err_from_is_err_and c.from_residual.result c.from_residual.ensures.1 in
    rw (p.1, p.2)
    (copy_cut _ _ _ _ _ _ _ _ _ _ _ _ _ _ _ _ _ _ has c.in-More.piece more.0 more.2 c.in_err-copy_run-in-More.ensures.reads c.in_err-copy_run-in-More.field-0.0 c.in_err-copy_run-in-More.ensures.emits c.in_err-copy_run-in-More.ensures.device c.in_err-copy_run-in-More.ensures.run)

pub returns-in-End : goal.returns-in-End
returns-in-End g c =
    let has = c.copying.invariant.has in
    let walks = c.next_step.ensures (g.S.Source.seen c.args.pieces.now.source) has.pieces has.walked in
    copy_all _ _ _ _ _ _ _ _ _ _ _ _ _ _ _ has (rw c.in-End.is at walks)

use Rattle.std.proofs.Common.{rules, ◌≡◌, ◌+◌, ℕ, List, Some, arith, get_or, take_all, sym, subst}
use Rattle.std.specs.List.{slice_get}
use Rattle.std.proofs.lemmas.Result.{err_from_is_err_and}
use Rattle.warc_rewrite.specs.Selected.{AreBytesOf}
use Rattle.warc_rewrite.specs.Selecting.{at_positions}
use Rattle.warc_rewrite.proofs.EmitLemmas.{both, given, nothing, short}
use Rattle.warc_frame.proofs.EffectLemmas.{reads_none}
use Rattle.warc_rewrite.proofs.SelectLemmas.{bytes_begin_more, bytes_more, bytes_none, reads_all, reads_more}
use Rattle.warc_rewrite.proofs.selection.put_selected.Goals as goal

pub selecting-init : goal.selecting-init
selecting-init g c = record {
  room = search rules;
  emits = given nothing (λ bytes text held are. bytes_none bytes text are);
  reads = reads_none;
}

pub selecting-preserved : goal.selecting-preserved
selecting-preserved g c =
    let rows = c.args.rows.now in
    let ps = c.args.positions.now in
    let i = c.selecting.position-index in
    let is : slice_get rows (get_or ps i 0) ≡ Some c.in-Some.row = search rules in
    record {
      room = omega (arith, c.selecting.invariant.room, c.put_whole.auto.scratch);
      emits = both c.selecting.invariant.emits c.in_ok-put_whole.ensures.emits
          (λ bytes text held are. bytes_more rows ps i c.in-Some.row bytes text c.selecting-test.true is are);
      reads = reads_more rows ps i c.in-Some.row c.selecting-test.true is c.selecting.invariant.reads c.in_ok-put_whole.ensures.reads;
    }

pub returns-clause-emits : goal.returns-clause-emits
returns-clause-emits g c =
    let rows = c.args.rows.now in
    let ps = c.args.positions.now in
    given c.selecting.invariant.emits
    (λ bytes text held are. let Q : List ℕ → Type 0 = λ l. AreBytesOf (at_positions rows l) bytes text in subst Q (sym (take_all _ ps c.selecting-test.false)) are)

pub returns-clause-reads : goal.returns-clause-reads
returns-clause-reads g c = reads_all c.args.rows.now c.args.positions.now c.selecting.position-index c.selecting.invariant.reads

pub returns-in_err-put_whole-clause-emits : goal.returns-in_err-put_whole-clause-emits
returns-in_err-put_whole-clause-emits g c =
    let p = err_from_is_err_and c.from_residual.result c.from_residual.ensures.1 in
    let rows = c.args.rows.now in
    let ps = c.args.positions.now in
    let i = c.selecting.position-index in
    let is : slice_get rows (get_or ps i 0) ≡ Some c.in-Some.row = search rules in
    rw (p.1, p.2) (short (both c.selecting.invariant.emits c.in_err-put_whole.ensures.emits (λ bytes text held is. is))
    (λ bytes text held are. bytes_begin_more rows ps i c.in-Some.row bytes text c.selecting-test.true is are))

pub returns-in_err-put_whole-clause-reads : goal.returns-in_err-put_whole-clause-reads
returns-in_err-put_whole-clause-reads g c =
    let rows = c.args.rows.now in
    let ps = c.args.positions.now in
    let i = c.selecting.position-index in
    let is : slice_get rows (get_or ps i 0) ≡ Some c.in-Some.row = search rules in
    reads_all rows ps (i + 1) (reads_more rows ps i c.in-Some.row c.selecting-test.true is c.selecting.invariant.reads c.in_err-put_whole.ensures.reads)

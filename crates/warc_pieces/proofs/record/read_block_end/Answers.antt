use Rattle.std.proofs.Common.{length, refl, sym, subst, ◌∙◌, arith}
use Rattle.std.proofs.lemmas.Result.{err_from_is_err_and}
use Rattle.warc_frame.specs.declared.fault.Fault.{Fault}
use Rattle.warc_pieces.specs.Ends.{HeadMisses}
use Rattle.warc_pieces.proofs.HalvingLemmas.{is_zero, not_zero}
use Rattle.warc_pieces.proofs.RecordLemmas.{empty_misses, fails_head, judged_good, refused_head}
use Rattle.warc_pieces.proofs.record.read_block_end.Goals as goal

pub returns-then-is_empty-clause-exact : goal.returns-then-is_empty-clause-exact
returns-then-is_empty-clause-exact g c = empty_misses c.args.text.now c.at.result (is_zero (length c.args.text.now) (sym c.is_empty.ensures ∙ c.if-is_empty.true)) c.at.ensures

pub returns-in_err-head-clause-exact : goal.returns-in_err-head-clause-exact
returns-in_err-head-clause-exact g c =
    let p = err_from_is_err_and c.from_residual.result c.from_residual.ensures.1 in
    rw (p.1, p.2) (fails_head c.args.text.now c.in_err-head.field-0.0 (not_zero (length c.args.text.now) (sym c.is_empty.ensures ∙ c.if-is_empty.false)) c.in_err-head.ensures.exact)

pub returns-in-Err-clause-exact : goal.returns-in-Err-clause-exact
returns-in-Err-clause-exact g c =
    let P : Fault → Type 0 = λ f. HeadMisses f.kind c.args.text.now f in
    subst P (sym c.at-in-Err.ensures) (refused_head c.args.text.now _ c.in-Err.kind c.in_ok-head.ensures.exact c.in-Err.ensures)

pub returns-clause-exact : goal.returns-clause-exact
returns-clause-exact g c = record {
  head = record { version = c.in_ok-head.head.version; fields = c.in_ok-head.head.fields; len = c.in_ok-head.head.len; block_len = c.in_ok-head.head.block_len };
  reads = judged_good c.args.text.now _ c.in_ok-head.ensures.exact c.in-Ok.ensures.0;
  end_is = refl;
  limit = omega (arith, c.in_ok-head.ensures.within.0, c.in_ok-head.ensures.within.1);
  some = not_zero (length c.args.text.now) (sym c.is_empty.ensures ∙ c.if-is_empty.false);
}

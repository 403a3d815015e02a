use Rattle.std.proofs.Common.{rules, ◌≡◌, ◌+◌, ◌≤◌, List, Some, arith, length, take_all, sym, subst, ◌∙◌}
use Rattle.std.specs.List.{slice_get}
use Rattle.std.proofs.lemmas.Result.{err_from_is_err_and}
use Rattle.warc_rewrite.specs.Copied.{AreTextsOf, len_by, text_by}
use Rattle.warc_reading.specs.Row.{Row}
use Rattle.warc_rewrite.proofs.EmitLemmas.{both, given, nothing, short}
use Rattle.warc_frame.proofs.EffectLemmas.{reads_none}
use Rattle.warc_reading.proofs.ReadLemmas.{reads_row, reads_rows}
use Rattle.warc_rewrite.proofs.WholeLemmas.{texts_begin_more, texts_more, texts_none}
use Rattle.warc_rewrite.proofs.output.put_records.Goals as goal

pub writing-init : goal.writing-init
writing-init g c = record {
  room = search rules;
  emits = given nothing (λ bytes text held are. texts_none (text_by c.args.replacement) bytes text are);
  reads = reads_none;
}

pub writing-preserved : goal.writing-preserved
writing-preserved g c =
    let row_is : slice_get c.args.rows.now c.writing.position ≡ Some c.in-Some.row = sym c.get.ensures ∙ c.in-Some.is in
    record {
      room = omega (arith, c.writing.invariant.room, c.put_record.auto.scratch);
      emits = both c.writing.invariant.emits c.in_ok-put_record.ensures.emits
          (λ bytes text held are. texts_more (text_by c.args.replacement) c.args.rows.now c.writing.position c.in-Some.row bytes text row_is are);
      reads = reads_row (len_by c.args.replacement) c.args.rows.now c.writing.position c.in-Some.row row_is c.writing.invariant.reads c.in_ok-put_record.ensures.reads;
    }

pub returns-clause-emits : goal.returns-clause-emits
returns-clause-emits g c =
    let rows = c.args.rows.now in
    let past : length rows ≤ c.writing.position = search rules in
    given c.writing.invariant.emits
    (λ bytes text held are. let Q : List Row → Type 0 = λ l. AreTextsOf (text_by c.args.replacement) l bytes text in subst Q (sym (take_all c.writing.position rows past)) are)

pub returns-clause-reads : goal.returns-clause-reads
returns-clause-reads g c = reads_rows (len_by c.args.replacement) c.args.rows.now c.writing.position c.writing.invariant.reads

pub returns-in_err-put_record-clause-emits : goal.returns-in_err-put_record-clause-emits
returns-in_err-put_record-clause-emits g c =
    let p = err_from_is_err_and c.from_residual.result c.from_residual.ensures.1 in
    let row_is : slice_get c.args.rows.now c.writing.position ≡ Some c.in-Some.row = sym c.get.ensures ∙ c.in-Some.is in
    rw (p.1, p.2) (short (both c.writing.invariant.emits c.in_err-put_record.ensures.emits (λ bytes text held is. is))
    (λ bytes text held are. texts_begin_more (text_by c.args.replacement) c.args.rows.now c.writing.position c.in-Some.row bytes text row_is are))

pub returns-in_err-put_record-clause-reads : goal.returns-in_err-put_record-clause-reads
returns-in_err-put_record-clause-reads g c =
    let row_is : slice_get c.args.rows.now c.writing.position ≡ Some c.in-Some.row = sym c.get.ensures ∙ c.in-Some.is in
    reads_rows (len_by c.args.replacement) c.args.rows.now (c.writing.position + 1) (reads_row (len_by c.args.replacement) c.args.rows.now c.writing.position c.in-Some.row row_is c.writing.invariant.reads c.in_err-put_record.ensures.reads)

use Rattle.std.proofs.Common.{rules, ◌≡◌, ◌+◌, Some, arith, sym, ◌∙◌}
use Rattle.std.specs.List.{slice_get}
use Rattle.std.proofs.lemmas.Result.{err_from_is_err_and}
use Rattle.warc_frame.proofs.EffectLemmas.{fails_after, fails_more}
use Rattle.warc_reading.specs.Rereading.{HasTextOf, row_len}
use Rattle.warc_reading.proofs.PlacedLemmas.{record_at, row_has}
use Rattle.warc_reading.proofs.ReadLemmas.{reads_row, reads_rows}
use Rattle.warc_checking.proofs.JudgeLemmas.{all_judged, judged_more}
use Rattle.warc_checking.proofs.check.judge_each.Goals as goal

pub returns-clause-judged : goal.returns-clause-judged
returns-clause-judged g c = λ bytes held records can.
    c.judging.invariant.found bytes records held can
    ∙ all_judged bytes records c.args.rows.now c.judging.position can (search rules)

pub returns-clause-reads : goal.returns-clause-reads
returns-clause-reads g c = reads_rows row_len c.args.rows.now c.judging.position c.judging.invariant.texts

pub returns-in_err-add_reread-clause-reads : goal.returns-in_err-add_reread-clause-reads
returns-in_err-add_reread-clause-reads g c =
    let row_is : slice_get c.args.rows.now c.judging.position ≡ Some c.in-Some.row = sym c.get.ensures ∙ c.in-Some.is in
    let more = reads_row row_len c.args.rows.now c.judging.position c.in-Some.row row_is c.judging.invariant.texts c.add_reread.ensures.reads in
    reads_rows row_len c.args.rows.now (c.judging.position + 1) more

pub returns-in_err-add_reread-clause-fails : goal.returns-in_err-add_reread-clause-fails
returns-in_err-add_reread-clause-fails g c =
    let row_is : slice_get c.args.rows.now c.judging.position ≡ Some c.in-Some.row = sym c.get.ensures ∙ c.in-Some.is in
    let p = err_from_is_err_and c.from_residual.result c.from_residual.ensures.1 in
    rw (p.1, p.2)
    (fails_after c.judging.invariant.texts.kept c.judging.invariant.sound
    (fails_more (λ bytes held are. row_has bytes are c.judging.position c.in-Some.row row_is) c.in_err-add_reread.ensures.fails))

pub judging-preserved : goal.judging-preserved
judging-preserved g c =
    let i = c.judging.position in
    let row_is : slice_get c.args.rows.now i ≡ Some c.in-Some.row = sym c.get.ensures ∙ c.in-Some.is in
    record {
      room = omega (arith, c.judging.invariant.room, c.add_reread.auto.buf);
      found = λ bytes records held can.
          let at = record_at bytes records c.args.rows.now i c.in-Some.row can row_is in
          let is : HasTextOf c.in-Some.row bytes = record { placed = at.0; short = can.placed.short; has = at.3; written = can.placed.each i at.0 at.1; row_is = at.2 } in
          judged_more records i at.0 _ _ at.1 (c.in_ok-add_reread.ensures.added bytes (c.judging.invariant.texts.kept ∙ held) is)
          (c.judging.invariant.found bytes records held can);
      texts = reads_row row_len c.args.rows.now i c.in-Some.row row_is c.judging.invariant.texts c.add_reread.ensures.reads;
      sound = search rules;
    }

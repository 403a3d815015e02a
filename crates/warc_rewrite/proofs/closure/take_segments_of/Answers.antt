use Rattle.std.proofs.Common.{map, sym, ap, subst, ◌∙◌}
use Rattle.std.proofs.lemmas.List.{length-map}
use Rattle.std.proofs.lemmas.Result.{err_from_is_err_and}
use Rattle.warc_frame.proofs.EffectLemmas.{fails_never}
use Rattle.warc_record.specs.Readings.{Reading, reading_of}
use Rattle.warc_lookup.specs.Indexed.{placed_record}
use Rattle.warc_rewrite.specs.Marks.{TakesSeries, pieces_of}
use Rattle.warc_rewrite.proofs.TakenLemmas.{as_many}
use Rattle.warc_rewrite.proofs.closure.take_segments_of.Goals as goal

pub returns-clause-takes : goal.returns-clause-takes
returns-clause-takes g c = record {
  reported = λ bytes held is p there parts taken.
      let many = c.requires.table ∙ (as_many bytes c.args.rows.now is ∙ sym (length-map is.are.records placed_record)) in
      subst (λ (h : Reading). TakesSeries (pieces_of is.are.records) h c.args.marks.now c.take_series.new.marks)
      (c.typed.ensures ∙ ap reading_of (c.in_ok-head.ensures.reported bytes held is p there))
      (c.in_ok-take_series.ensures.takes (map placed_record is.are.records) parts many taken);
  reads = c.in_ok-head.ensures.reads;
  fails = fails_never c.in_ok-head.ensures.fails.may;
}

pub returns-in_err-take_series-clause-takes : goal.returns-in_err-take_series-clause-takes
returns-in_err-take_series-clause-takes g c =
    let p = err_from_is_err_and c.from_residual-in_err-take_series.result c.from_residual-in_err-take_series.ensures.1 in
    rw (p.1, p.2) (record {
      reported = λ bytes held is p there parts taken. tt;
      reads = c.in_ok-head.ensures.reads;
      fails = record {
        may = c.in_ok-head.ensures.fails.may;
        failed = λ bytes held is. c.in_ok-head.ensures.fails.may;
      };
    })

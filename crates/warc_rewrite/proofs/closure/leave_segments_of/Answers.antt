use Rattle.std.proofs.Common.{map, ap, subst, ◌∙◌}
use Rattle.std.proofs.lemmas.Result.{err_from_is_err_and}
use Rattle.warc_frame.proofs.EffectLemmas.{fails_never}
use Rattle.warc_record.specs.Readings.{Reading, reading_of}
use Rattle.warc_lookup.specs.Indexed.{placed_record}
use Rattle.warc_rewrite.specs.Marks.{pieces_of}
use Rattle.warc_rewrite.specs.Statuses.{LeavesIfNamed}
use Rattle.warc_rewrite.proofs.closure.leave_segments_of.Goals as goal

pub returns-clause-judges : goal.returns-clause-judges
returns-clause-judges g c = record {
  reported = λ bytes held is p there parts memos.
      subst (λ (h : Reading). LeavesIfNamed (pieces_of is.are.records) h c.args.position c.args.statuses.now c.leave_if_named.new.statuses)
      (c.typed.ensures ∙ ap reading_of (c.in_ok-head.ensures.reported bytes held is p there))
      (c.in_ok-leave_if_named.ensures.judges (map placed_record is.are.records) parts memos);
  reads = c.in_ok-head.ensures.reads;
  fails = fails_never c.in_ok-head.ensures.fails.may;
}

pub returns-in_err-leave_if_named-clause-judges : goal.returns-in_err-leave_if_named-clause-judges
returns-in_err-leave_if_named-clause-judges g c =
    let p = err_from_is_err_and c.from_residual-in_err-leave_if_named.result c.from_residual-in_err-leave_if_named.ensures.1 in
    rw (p.1, p.2) (record {
      reported = λ bytes held is p there parts memos. tt;
      reads = c.in_ok-head.ensures.reads;
      fails = record {
        may = c.in_ok-head.ensures.fails.may;
        failed = λ bytes held is. c.in_ok-head.ensures.fails.may;
      };
    })

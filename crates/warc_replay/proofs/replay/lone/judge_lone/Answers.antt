use Rattle.std.proofs.Common.{refl, sym, ap, ◌∙◌}
use Rattle.std.specs.List.{slice_get}
use Rattle.warc_frame.proofs.EffectLemmas.{fails_more}
use Rattle.warc_record.specs.Kinds.{kind_named}
use Rattle.warc_answer.specs.Payloads.{is_response}
use Rattle.warc_reading.specs.Row.{Row}
use Rattle.warc_reading.proofs.PlaceLemmas.{checkable_archive}
use Rattle.warc_reading.proofs.PlacedLemmas.{placed}
use Rattle.warc_replay.proofs.LoneLemmas.{lone_answer}
use Rattle.warc_replay.proofs.ReplayLemmas.{head_inside}
use Rattle.warc_replay.proofs.replay.lone.judge_lone.Goals as goal

pub returns : goal.returns
returns g c =
    let given = c.stored_through.ensures in
    record {
      reported = λ bytes held is good.
          let (p, there, same) = placed is.are.records c.args.position c.in-Some.row (ap (λ l. slice_get l c.args.position) (sym is.are.rows_are) ∙ sym c.get.ensures ∙ c.in-Some.is) in
          let can = checkable_archive c.head_of_spelled.ensures bytes c.args.rows.now is c.args.rows.now refl in
          lone_answer is.are.records c.args.position p c.in-Some.row c.stored_through.result there same
          (ap (λ (r : Row). is_response (kind_named r.kind)) (sym c.row.view_is) ∙ sym c.is_response.ensures ∙ c.if-is_response.false) good
          (given.made bytes held (record { placed = p; has = can.heads c.args.position p there; row_is = same }));
      early = given.early;
      inside = λ bytes is.
          let (p, there, same) = placed is.are.records c.args.position c.in-Some.row (ap (λ l. slice_get l c.args.position) (sym is.are.rows_are) ∙ sym c.get.ensures ∙ c.in-Some.is) in
          head_inside bytes is.are.records c.args.position p is.are.spelled there c.in-Some.row _ _ same given.reads;
      keeps = record { kept = given.reads.kept; watched = given.reads.watched };
      fails = fails_more (λ bytes held is.
          let (p, there, same) = placed is.are.records c.args.position c.in-Some.row (ap (λ l. slice_get l c.args.position) (sym is.are.rows_are) ∙ sym c.get.ensures ∙ c.in-Some.is) in
          let can = checkable_archive c.head_of_spelled.ensures bytes c.args.rows.now is c.args.rows.now refl in
          record { placed = p; has = can.heads c.args.position p there; row_is = same }) given.fails;
    }

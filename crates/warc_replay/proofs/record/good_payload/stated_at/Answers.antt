use Rattle.std.proofs.Common.{◌≡◌, inl, Some, refl, sym, ap, ◌∙◌}
use Rattle.std.specs.List.{slice_get}
use Rattle.std.proofs.lemmas.Result.{err_from_is_err_and}
use Rattle.warc_frame.proofs.EffectLemmas.{fails_as, fails_more, fails_never}
use Rattle.warc_reading.specs.Archive.{contents}
use Rattle.warc_reading.proofs.PlacedLemmas.{content_at, placed}
use Rattle.warc_replay.proofs.BodyLemmas.{none_there}
use Rattle.warc_replay.proofs.DigestLemmas.{text_at_row, text_there}
use Rattle.warc_replay.proofs.GoodPayloadLemmas.{some_there}
use Rattle.warc_replay.proofs.OriginLemmas.{absent_after}
use Rattle.warc_replay.proofs.ReplayLemmas.{head_inside}
use Rattle.warc_replay.proofs.record.good_payload.stated_at.Goals as goal

pub returns-in_default : goal.returns-in_default
returns-in_default g c = record {
  reported = λ bytes held is good. tt;
  early = refl;
  inside = λ bytes is off. refl;
  keeps = record { kept = refl; watched = refl };
  fails = record {
    may = inl refl;
    failed = λ bytes held (is, within).
        absurd (absent_after (contents is.are.records) c.args.position within (none_there bytes c.args.rows.now c.args.position is (sym c.get.ensures ∙ c.in_default.is)));
  };
}

pub returns-in_err-head : goal.returns-in_err-head
returns-in_err-head g c =
    let p = err_from_is_err_and c.from_residual.result c.from_residual.ensures.1 in
    let at : slice_get c.args.rows.now c.args.position ≡ Some c.in-Some.row = sym c.get.ensures ∙ c.in-Some.is in
    rw (p.1, p.2) (record {
      reported = λ bytes held is good. tt;
      early = c.in_err-head.ensures.early;
      inside = λ bytes is.
          let (p, there, same) = placed is.are.records c.args.position c.in-Some.row (ap (λ l. slice_get l c.args.position) (sym is.are.rows_are) ∙ at) in
          head_inside bytes is.are.records c.args.position p is.are.spelled there c.in-Some.row _ _ same c.in_err-head.ensures.reads;
      keeps = record { kept = c.in_err-head.ensures.reads.kept; watched = c.in_err-head.ensures.reads.watched };
      fails = fails_more (λ bytes held (is, low). text_there c.head_of_spelled.ensures bytes c.args.rows.now c.args.position c.in-Some.row is at) (fails_as _ _ c.in_err-head.ensures.fails);
    })

pub returns : goal.returns
returns g c =
    let at : slice_get c.args.rows.now c.args.position ≡ Some c.in-Some.row = sym c.get.ensures ∙ c.in-Some.is in
    let head = c.in_ok-head.ensures in
    record {
      reported = λ bytes held is good.
          let (p, there, same) = placed is.are.records c.args.position c.in-Some.row (ap (λ l. slice_get l c.args.position) (sym is.are.rows_are) ∙ at) in
          let fields = head.read bytes held (text_at_row c.head_of_spelled.ensures bytes c.args.rows.now c.args.position c.in-Some.row is p there same) in
          some_there is.are.records c.args.position p c.stated_own.result there
          (c.stated_own.ensures (contents is.are.records) c.args.position p.content (c.fields.ensures.fields ∙ fields) (good p.content (content_at is.are.records c.args.position p there)));
      early = tt;
      inside = λ bytes is.
          let (p, there, same) = placed is.are.records c.args.position c.in-Some.row (ap (λ l. slice_get l c.args.position) (sym is.are.rows_are) ∙ at) in
          head_inside bytes is.are.records c.args.position p is.are.spelled there c.in-Some.row _ _ same head.reads;
      keeps = record { kept = head.reads.kept; watched = head.reads.watched };
      fails = fails_never head.fails.may;
    }

use Rattle.std.proofs.Common.{Ok, Err, refl, sym, ap, subst, ◌∙◌}
use Rattle.warc_record.specs.Seen.{said}
use Rattle.warc_segment.specs.Joined.{PlacedRecord, joined_places}
use Rattle.warc_replay.specs.KnownSeries.{IsJoinedOnce}
use Rattle.warc_replay.proofs.OriginLemmas.{placed_is}
use Rattle.warc_replay.proofs.SeriesLemmas.{gap_joined}
use Rattle.warc_replay.proofs.replay.origin.origin_by.Goals as goal

pub returns-in-Ok-join_once-clause-made : goal.returns-in-Ok-join_once-clause-made
returns-in-Ok-join_once-clause-made g c = λ all are.
    let placed = placed_is c.args.row.now (said c.args.typed.now) c.place_in.result c.wanted.result c.place_in.ensures c.wanted.ensures in
    let is = subst (λ (r : PlacedRecord). IsJoinedOnce all r (Ok c.in-Ok-join_once.joined)) placed (c.in-Ok-join_once.ensures.joined all are) in
    (c.is_http_response-http.ensures, c.in-Ok.ensures.items, is.0, is.1)

pub returns-in-Err-Gap-clause-made : goal.returns-in-Err-Gap-clause-made
returns-in-Err-Gap-clause-made g c = λ all are.
    let placed = placed_is c.args.row.now (said c.args.typed.now) c.place_in.result c.wanted.result c.place_in.ensures c.wanted.ensures in
    let r : PlacedRecord = record { head = said c.args.typed.now; place = c.place_in.result } in (
      c.in-Err-Gap.gap,
      refl,
      ap (joined_places all) (sym placed) ∙ gap_joined c.join_once.result c.in-Err-Gap.gap all r (c.in-Err-Gap.is ∙ ap Err c.in-Err-Gap.field-0-is) (c.join_once.ensures.joined all are),
    )

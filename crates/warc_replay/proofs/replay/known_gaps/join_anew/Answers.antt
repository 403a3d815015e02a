use Rattle.std.proofs.Common.{Err, List, ap, drop, subst, ◌∙◌}
use Rattle.warc_record.specs.Seen.{said}
use Rattle.warc_segment.specs.Joined.{PlacedRecord}
use Rattle.warc_segment.specs.declared.place.Place.{Place}
use Rattle.warc_answer.specs.Split.{IsExtentOf}
use Rattle.warc_replay.specs.KnownSeries.{BeginsSeries}
use Rattle.warc_replay.proofs.GapLemmas.{gap_found, kept_known}
use Rattle.warc_replay.proofs.ReplayLemmas.{join_gap}
use Rattle.warc_replay.proofs.SeriesLemmas.{series_made}
use Rattle.warc_replay.proofs.replay.known_gaps.join_anew.Goals as goal

pub returns-in-Ok-clause-joined : goal.returns-in-Ok-clause-joined
returns-in-Ok-clause-joined g c = λ all are.
    let r : PlacedRecord = record { head = said c.args.typed.now; place = c.args.place } in
    let has = c.in-Ok.ensures all are in
    let first : BeginsSeries all c.args.segment r.head = (c.requires.first, c.requires.member all are) in (
      has,
      (
        first,
        series_made all c.args.segment r c.in-Ok.places.items c.extent_after-rest.result first has
            (subst (λ (l : List Place). IsExtentOf (drop 1 l) c.extent_after-rest.result) c.deref.ensures.value c.extent_after-rest.ensures),
      ),
    )

pub returns-in-Err-Gap-clause-known : goal.returns-in-Err-Gap-clause-known
returns-in-Err-Gap-clause-known g c = record {
  gaps = kept_known c.args.parts.now c.args.gaps.now.table c.keep.new.table c.args.segment c.args.place.len c.in-Err-Gap.gap (said c.args.typed.now).id c.requires.known.gaps c.keep.ensures c.requires.member
      (λ all are.
      let r : PlacedRecord = record { head = said c.args.typed.now; place = c.args.place } in
      gap_found all r c.in-Err-Gap.gap c.requires.first (join_gap c.join.result c.in-Err-Gap.gap _ (c.in-Err-Gap.is ∙ ap Err c.in-Err-Gap.field-0-is) (c.join.ensures all are)));
  series = c.requires.known.series;
}

use Rattle.std.proofs.Common.{Err, ap, refl, sym, ◌∙◌}
use Rattle.warc_record.specs.Seen.{said}
use Rattle.warc_segment.specs.Joined.{PlacedRecord}
use Rattle.warc_replay.proofs.SeriesLemmas.{joined_other, series_left, taken_is}
use Rattle.warc_replay.proofs.replay.known_gaps.join_known.Goals as goal

pub returns-in-Ok-Some-clause-joined : goal.returns-in-Ok-Some-clause-joined
returns-in-Ok-Some-clause-joined g c = λ all are.
    let r : PlacedRecord = record { head = said c.args.typed.now; place = c.args.place } in
    let known = taken_is c.args.gaps.now.series c.args.segment c.args.place.len c.in-Ok-Some.field-0 c.in-Ok-Some.known c.in-Ok-Some.field-0-is c.in-Ok-Some.ensures.known in
    c.join_again.ensures all r refl (c.requires.first, c.requires.member all are) (c.requires.known.series all are c.args.segment c.in-Ok-Some.known known.0) known.1

pub returns-in-Ok-Some-clause-known : goal.returns-in-Ok-Some-clause-known
returns-in-Ok-Some-clause-known g c = record {
  gaps = c.requires.known.gaps;
  series = series_left c.args.parts.now c.args.gaps.now.series c.take_known.new.series c.requires.known.series c.take_known.ensures.left;
}

pub returns-in-Err-clause-joined : goal.returns-in-Err-clause-joined
returns-in-Err-clause-joined g c = λ all are.
    let r : PlacedRecord = record { head = said c.args.typed.now; place = c.args.place } in
    let other = c.in-Err.ensures.other in
    joined_other all r c.args.segment c.args.parts.now c.args.gaps.now.series c.requires.known.series are (c.requires.first, c.requires.member all are) other.1 ∙ ap Err (sym other.0)

pub returns-in-Err-clause-known : goal.returns-in-Err-clause-known
returns-in-Err-clause-known g c = record {
  gaps = c.requires.known.gaps;
  series = series_left c.args.parts.now c.args.gaps.now.series c.take_known.new.series c.requires.known.series c.take_known.ensures.left;
}

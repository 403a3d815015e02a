use Rattle.warc_record.specs.Seen.{said}
use Rattle.warc_segment.specs.Joined.{PlacedRecord}
use Rattle.warc_replay.proofs.GapLemmas.{recalled_joined}
use Rattle.warc_replay.proofs.replay.known_gaps.join_first.Goals as goal

pub returns-in-Some-clause-joined : goal.returns-in-Some-clause-joined
returns-in-Some-clause-joined g c = λ all are.
    let r : PlacedRecord = record { head = said c.args.typed.now; place = c.args.place } in
    recalled_joined c.args.parts.now c.args.gaps.now.table c.args.segment all r c.in-Some.gap c.requires.known.gaps are c.requires.first (c.requires.member all are) c.in-Some.ensures

use Rattle.std.proofs.Common.{Ok, refl, sym, subst, ◌∙◌, arith}
use Rattle.warc_frame.proofs.EffectLemmas.{fails_after, reads_both, reads_within}
use Rattle.warc_answer.specs.declared.answer.Path.{Path}
use Rattle.warc_judged.specs.Counting.{verdict_at}
use Rattle.warc_reading.specs.Archive.{contents}
use Rattle.warc_replay.specs.Capturing.{AreRests}
use Rattle.warc_replay.proofs.KnownLemmas.{own_known, rest_own, rest_right, rests_now, stored_found}
use Rattle.warc_replay.proofs.LookLemmas.{content_there}
use Rattle.warc_replay.proofs.ReplayLemmas.{found_as, places_are}
use Rattle.warc_replay.proofs.replay.stored.judge_shared.Goals as goal

pub returns-in-Err-clause-remembers : goal.returns-in-Err-clause-remembers
returns-in-Err-clause-remembers g c = λ bytes held records position origin right.
    subst (λ l. AreRests l records) (sym c.in-Err.ensures.unset) right

pub returns-clause-remembers : goal.returns-clause-remembers
returns-clause-remembers g c = λ bytes held records position origin right.
    let law = c.places_are_of_records.ensures in
    let (joined, whole, places) = places_are bytes records position origin.at.placed origin.spelled origin.at.there c.args.places.now law origin.at.places_are in
    rests_now _ _ records c.args.shared.segment c.in-Ok.rest c.in-Ok.ensures.set
    (rest_right bytes records origin.spelled law position _ _ _ _ origin joined (verdict_at c.args.rests.now c.args.shared.segment) c.in-Ok.rest whole (right c.args.shared.segment)
    (c.in-Ok.ensures.found bytes held (record { joined = joined; short = origin.short; places_are = places })))
    right

pub returns-clause-judged : goal.returns-clause-judged
returns-clause-judged g c = λ bytes held records position origin one all right.
    let law = c.places_are_of_records.ensures in
    let at = origin.at in
    let (joined, whole, places) = places_are bytes records position at.placed origin.spelled at.there c.args.places.now law at.places_are in
    let here = content_there records position at.placed at.there in
    let rest = rest_right bytes records origin.spelled law position _ _ _ _ origin joined (verdict_at c.args.rests.now c.args.shared.segment) c.in-Ok.rest whole (right c.args.shared.segment)
    (c.in-Ok.ensures.found bytes held (record { joined = joined; short = origin.short; places_are = places })) in
    let path : Path = record { chosen = position; given = position } in
    stored_found records position at.placed joined c.judge_split.result at.there whole
    (c.judge_split.ensures.judged bytes (c.in-Ok.ensures.reads.kept ∙ held) at.placed.content joined (record {
      records = contents records;
      found = Ok path;
      path = path;
      short = origin.short;
      leads = found_as records (Ok path) path at.placed refl at.there (Ok joined) whole;
      places_are = places;
    }) at.http_is at.type_is origin.series.is.1.extent (record {
      whole = all at.placed.content joined here whole;
      own = own_known (contents records) position at.placed.content joined c.args.own here whole one;
      rest = rest_own bytes records origin.spelled law position _ _ _ _ origin joined c.in-Ok.rest whole rest;
    }))

pub returns-clause-reads : goal.returns-clause-reads
returns-clause-reads g c = reads_within (λ at in_. in_) (omega arith) (reads_both c.in-Ok.ensures.reads c.judge_split.ensures.reads)

pub returns-in-Err-clause-reads : goal.returns-in-Err-clause-reads
returns-in-Err-clause-reads g c = reads_within (λ at in_. in_) (omega arith) c.in-Err.ensures.reads

pub returns-clause-fails : goal.returns-clause-fails
returns-clause-fails g c = fails_after c.in-Ok.ensures.reads.kept c.in-Ok.ensures.fails.may c.judge_split.ensures.fails

use Rattle.std.proofs.Common.{◌∙◌, ◌<◌, length, sym, Some, arith}
use Rattle.std.proofs.lemmas.List.{length-set}
use Rattle.warc_index.specs.Referents.{next_of}
use Rattle.warc_rewrite.proofs.SettledLemmas.{fewer_open, settles_end, settles_kept, settles_left, walk_next, walks_more}
use Rattle.warc_rewrite.proofs.remainder.settle.Goals as goal

pub walking-preserved : goal.walking-preserved
walking-preserved g c =
    let old = c.walking.invariant in
    let within = c.is_open.ensures.within c.walking-test.true in
    let opened = c.is_open.ensures.yes c.walking-test.true in
    record {
      same = length-set c.walking.statuses c.walking.at _ ∙ old.same;
      count = omega (arith, old.count, fewer_open c.walking.statuses c.walking.at within opened);
      way = λ all kept len inside.
          let before = old.way all kept len inside in
          record {
            walks = walks_more (next_of all) c.args.position c.walking.steps c.walking.at c.args.statuses.now
                c.walking.statuses before.walks before.here within opened;
            here = walk_next (next_of all) c.args.position c.walking.steps c.walking.at (Some c.in-Some.next) before.here
                (sym (c.referent.ensures.next all kept) ∙ c.in-Some.is);
            inside = c.in-Some.ensures.within all kept;
          };
    }

pub returns-in-None-clause-settles : goal.returns-in-None-clause-settles
returns-in-None-clause-settles g c all base kept len settled inside =
    let before = c.walking.invariant.way all kept len inside in
    settles_end (next_of all) c.args.position c.walking.steps c.walking.at base c.args.statuses.now c.walking.statuses settled
    before.walks before.here (c.is_open.ensures.within c.walking-test.true) (c.is_open.ensures.yes c.walking-test.true)
    (sym (c.referent.ensures.next all kept) ∙ c.in-None.is)

pub returns-then-is_left-clause-settles : goal.returns-then-is_left-clause-settles
returns-then-is_left-clause-settles g c all base kept len settled inside =
    let before = c.walking.invariant.way all kept len inside in
    let low : c.walking.at < length c.walking.statuses = omega (arith, before.inside, len, c.walking.invariant.same) in
    settles_left (next_of all) c.args.position c.walking.steps c.walking.at base c.args.statuses.now c.walking.statuses
    c.leave_way.new.statuses c.walking.invariant.same settled before.walks before.here
    (c.is_open.ensures.no c.walking-test.false low) (sym c.is_left.ensures ∙ c.if-is_left.true)
    (c.leave_way.ensures.leaves all kept (c.walking.invariant.same ∙ len))

pub returns-else-is_left-clause-settles : goal.returns-else-is_left-clause-settles
returns-else-is_left-clause-settles g c all base kept len settled inside =
    let before = c.walking.invariant.way all kept len inside in
    let low : c.walking.at < length c.walking.statuses = omega (arith, before.inside, len, c.walking.invariant.same) in
    settles_kept (next_of all) c.args.position c.walking.steps c.walking.at base c.args.statuses.now c.walking.statuses
    settled before.walks before.here (c.is_open.ensures.no c.walking-test.false low)
    (sym c.is_left.ensures ∙ c.if-is_left.false)

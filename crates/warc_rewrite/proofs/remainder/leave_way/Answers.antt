use Rattle.std.proofs.Common.{◌∙◌, ◌+◌, sym, Some, None, arith}
use Rattle.warc_index.specs.Referents.{next_of}
use Rattle.warc_rewrite.proofs.SettledLemmas.{leaves_all, leaves_more, same_after_set, walk_next}
use Rattle.warc_rewrite.proofs.remainder.leave_way.Goals as goal

pub returns-in-None-clause-leaves : goal.returns-in-None-clause-leaves
returns-in-None-clause-leaves g c all kept len =
    let old = c.leaving.invariant.way all kept len in
    leaves_all (next_of all) c.args.position (c.leaving._step + 1) c.args.steps c.args.statuses.now c.set_status.new.statuses
    (leaves_more (next_of all) c.args.position c.leaving._step c.leaving.at c.args.statuses.now c.leaving.statuses
    c.set_status.new.statuses old.leaves c.leaving.invariant.same old.here c.set_status.ensures.inside
    c.set_status.ensures.past)
    (walk_next (next_of all) c.args.position c.leaving._step c.leaving.at None old.here
    (sym (c.referent.ensures.next all kept) ∙ c.in-None.is))
    (omega (arith, c.leaving-test.true))

pub leaving-preserved : goal.leaving-preserved
leaving-preserved g c = record {
  same = same_after_set c.leaving.at c.leaving.statuses c.set_status.new.statuses _ c.set_status.ensures.inside
      c.set_status.ensures.past ∙ c.leaving.invariant.same;
  way = λ all kept len.
      let old = c.leaving.invariant.way all kept len in
      record {
        leaves = leaves_more (next_of all) c.args.position c.leaving._step c.leaving.at c.args.statuses.now c.leaving.statuses
            c.set_status.new.statuses old.leaves c.leaving.invariant.same old.here c.set_status.ensures.inside
            c.set_status.ensures.past;
        here = walk_next (next_of all) c.args.position c.leaving._step c.leaving.at (Some c.in-Some.next) old.here
            (sym (c.referent.ensures.next all kept) ∙ c.in-Some.is);
      };
}

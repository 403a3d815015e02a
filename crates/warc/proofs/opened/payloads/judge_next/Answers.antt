use Rattle.std.proofs.Common.{refl, sym, ◌∙◌}
use Rattle.warc_replay.proofs.CaptureLemmas.{memory_early}
use Rattle.warc_replay.proofs.ComparedLemmas.{next_memory, row_below}
use Rattle.warc.proofs.KnownPayloadLemmas.{known_next}
use Rattle.warc.proofs.opened.payloads.judge_next.Goals as goal

pub returns-in-Some : goal.returns-in-Some
returns-in-Some g c = record {
  reported = λ bytes held is are right known judged.
      known_next c.add_or_fail.result is.are.records c.args.known.now c.args.position _ _ c.in-Some.verdict _ _ (row_below bytes c.args.rows.now c.args.position is c.requires) right.0
      (sym c.verdict.ensures ∙ c.in-Some.is) known judged c.add_or_fail.ensures.ok;
  early = memory_early _ c.add_or_fail.ensures.memory;
  inside = λ bytes is off. refl;
  keeps = record { kept = refl; watched = refl };
  fails = next_memory c.add_or_fail.result c.add_or_fail.ensures.memory refl;
}

pub returns-in-None : goal.returns-in-None
returns-in-None g c =
    let again = c.judge_again.ensures in
    record {
      reported = λ bytes held is are right known judged. again.reported bytes held is are right.1 known judged;
      early = again.early;
      inside = again.inside;
      keeps = again.keeps;
      fails = again.fails;
    }

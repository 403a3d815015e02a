use Rattle.std.proofs.Common.{ℕ, inl, inr, refl, ap, sym, ◌∙◌}
use Rattle.warc_frame.proofs.EffectLemmas.{fails_as}
use Rattle.warc_reading.proofs.IndexedLemmas.{opens_with}
use Rattle.warc_lookup.specs.Indexed.{Archived, IsIndexed}
use Rattle.warc_commands.proofs.ProgramLemmas.{has_failed, may_have_failed}
use Rattle.warc_commands.proofs.ReadLemmas.{replay_near}
use Rattle.warc_commands.proofs.console.Console.survey.Goals as goal

pub returns-in-Ok : goal.returns-in-Ok
returns-in-Ok g c = record {
  ends =
      let opened = c.in_ok-surveyed.ensures in
      let writes = c.in-Ok.ensures.writes in
      inl (record {
        is = λ bytes held. let is = opened.accepted bytes held in writes.reported bytes (opened.reads.kept ∙ held) is.listed is.kept;
        unfailed = writes.cause;
        sound = ap (λ s. (g.S.Source.seen s).faults) c.into_source.ensures ∙ writes.fails.may ∙ opened.reads.cause;
        silent = refl;
        status_is = refl;
      });
  kept = ap (λ s. (g.S.Source.seen s).holds) c.into_source.ensures ∙ c.in-Ok.ensures.writes.keeps.kept ∙ c.in_ok-surveyed.ensures.reads.kept;
  reads =
      let a = c.in_ok-surveyed.surveyed in
      let indexed : Archived g.row.S.Denot = record { listing = a.listing; index = a.kept.index; parts = a.kept.parts } in
      replay_near (opens_with {Gives = IsIndexed} a indexed (λ bytes is. record { listed = is.listed; kept = is.kept.found }) c.in_ok-surveyed.ensures)
      (ap (λ s. g.S.Source.seen s) c.into_source.ensures) c.in-Ok.ensures.writes.inside;
}

pub returns-in-Err : goal.returns-in-Err
returns-in-Err g c = record {
  ends =
      let opened = c.in_ok-surveyed.ensures in
      let writes = c.in-Err.ensures.writes in
      let fails = fails_as (Unit {0}) ℕ writes.fails in
      let same = ap (λ s. (g.S.Source.seen s).faults) c.into_source-in-Err.ensures in
      inr (inr (record {
        fault = c.in-Err.fault;
        is = λ bytes held. let is = opened.accepted bytes held in writes.cut bytes (opened.reads.kept ∙ held) is.listed is.kept;
        fails = record {
          may = may_have_failed c.in-Err.fault _ _ _ _ opened.reads.cause (sym same) fails.may;
          failed = λ bytes held _. let is = opened.accepted bytes held in
              has_failed c.in-Err.fault _ _ _ _ opened.reads.cause (sym same) (fails.failed bytes (opened.reads.kept ∙ held) (is.listed, is.kept.found));
        };
        failed = writes.cause;
        reported = c.fail.ensures.reported;
        status_is = c.fail.ensures.status;
      }));
  kept = ap (λ s. (g.S.Source.seen s).holds) c.into_source-in-Err.ensures ∙ c.in-Err.ensures.writes.keeps.kept ∙ c.in_ok-surveyed.ensures.reads.kept;
  reads =
      let a = c.in_ok-surveyed.surveyed in
      let indexed : Archived g.row.S.Denot = record { listing = a.listing; index = a.kept.index; parts = a.kept.parts } in
      replay_near (opens_with {Gives = IsIndexed} a indexed (λ bytes is. record { listed = is.listed; kept = is.kept.found }) c.in_ok-surveyed.ensures)
      (ap (λ s. g.S.Source.seen s) c.into_source-in-Err.ensures) c.in-Err.ensures.writes.inside;
}

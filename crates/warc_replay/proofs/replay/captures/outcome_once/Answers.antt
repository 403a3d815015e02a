use Rattle.std.proofs.Common.{Ok, Err, Some, None, refl, sym, ◌∙◌}
use Rattle.warc_answer.specs.declared.answer.Reason.TheVariants.{NotFound}
use Rattle.warc_reading.specs.Archive.{contents}
use Rattle.warc_replay.specs.Outcomes.{judged_seen}
use Rattle.warc_frame.proofs.EffectLemmas.{fails_as, fails_more, fails_never}
use Rattle.warc_replay.proofs.CaptureLemmas.{record_at}
use Rattle.warc_replay.proofs.LookLemmas.{outcome_made}
use Rattle.warc_replay.proofs.ReplayLemmas.{path_by_links}
use Rattle.warc_replay.proofs.replay.captures.outcome_once.Goals as goal

pub returns-in-Ok-stored_once-clause-judges : goal.returns-in-Ok-stored_once-clause-judges
returns-in-Ok-stored_once-clause-judges g c = record {
  reported = λ bytes held is are right.
      outcome_made c.args.rows.now c.args.lookup.now.index c.args.lookup.now.parts c.args.position (Some c.in-Ok.path.given) (judged_seen c.in-Ok-stored_once.stored) (Ok c.in-Ok.path)
      (contents is.are.records) (sym (path_by_links is.are.records c.args.position) ∙ sym (c.in-Ok.ensures is.are.records are)) refl
      (c.in-Ok-stored_once.ensures.judges.reported bytes held is are.parts_are right);
  remembers = λ bytes held is are right. c.in-Ok-stored_once.ensures.judges.remembers bytes held is are.parts_are right;
  chosen = refl;
  early = tt;
  inside = λ bytes (is, are). c.in-Ok-stored_once.ensures.judges.inside bytes is are.parts_are;
  keeps = c.in-Ok-stored_once.ensures.judges.keeps;
  fails = fails_more (λ bytes held is. record_at c.paths_end_inside.ensures _ _ _ _ c.in-Ok.path c.in-Ok.ensures bytes is)
      (record { may = c.in-Ok-stored_once.ensures.judges.fails.may; failed = c.in-Ok-stored_once.ensures.judges.fails.failed });
}

pub returns-in-Err-stored_once-clause-judges : goal.returns-in-Err-stored_once-clause-judges
returns-in-Err-stored_once-clause-judges g c = record {
  reported = λ bytes held is are right. tt;
  remembers = λ bytes held is are right. c.in-Err-stored_once.ensures.judges.remembers bytes held is are.parts_are right;
  chosen = tt;
  early = c.in-Err-stored_once.ensures.judges.early;
  inside = λ bytes (is, are). c.in-Err-stored_once.ensures.judges.inside bytes is are.parts_are;
  keeps = c.in-Err-stored_once.ensures.judges.keeps;
  fails = fails_more (λ bytes held is. record_at c.paths_end_inside.ensures _ _ _ _ c.in-Ok.path c.in-Ok.ensures bytes is)
      (fails_as _ _ c.in-Err-stored_once.ensures.judges.fails);
}

pub returns-in-Err-clause-judges : goal.returns-in-Err-clause-judges
returns-in-Err-clause-judges g c = record {
  reported = λ bytes held is are right.
      outcome_made c.args.rows.now c.args.lookup.now.index c.args.lookup.now.parts c.args.position None (Err (NotFound c.in-Err.unfound)) (Err c.in-Err.unfound)
      (contents is.are.records) (sym (path_by_links is.are.records c.args.position) ∙ sym (c.in-Err.ensures is.are.records are)) refl refl;
  remembers = λ bytes held is are right. right;
  chosen = refl;
  early = tt;
  inside = λ bytes is off. refl;
  keeps = record { kept = refl; watched = refl };
  fails = fails_never refl;
}

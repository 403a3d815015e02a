use Rattle.std.proofs.Common.{rules, ◌++◌, ◌∷◌, [], map, refl, sym, ap, subst, take_all, ◌∙◌}
use Rattle.std.specs.List.{AllByRecursion}
use Rattle.warc_reading.specs.Archive.{contents}
use Rattle.warc_replay.specs.Outcomes.{IsOutcome, outcome_seen}
use Rattle.warc_frame.proofs.EffectLemmas.{fails_after, fails_as, fails_more, fails_never}
use Rattle.std.proofs.lemmas.List.Elements.{Contains-get_or}
use Rattle.std.proofs.lemmas.Result.{err_from_is_err_and}
use Rattle.warc_replay.proofs.CaptureLemmas.{asks_on, chosen_more, chosen_seen, more_outcomes, take_next}
use Rattle.warc_replay.proofs.KnownLemmas.{nothing_found}
use Rattle.warc_replay.proofs.OriginLemmas.{preserves_both}
use Rattle.warc_replay.proofs.replay.captures.judge_each.Goals as goal

pub judging-init : goal.judging-init
judging-init g c = record {
  reported = λ bytes held is are known. record {
    each = rw c.new-outcomes.ensures.items tt;
    right = nothing_found _ _ is.are.records c.in-Ok.ensures known;
  };
  chosen = search rules;
  inside = λ bytes is off. refl;
  keeps = record { kept = refl; watched = refl };
  sound = refl;
  gaps_known = c.new-gaps.ensures c.args.lookup.now.parts;
}

pub judging-preserved : goal.judging-preserved
judging-preserved g c =
    let old = c.judging.invariant in
    let next = c.in_ok-outcome.ensures.judges in
    let added = c.in-Ok-push_outcome.ensures in
    record {
      reported = λ bytes held is are known.
          let before = old.reported bytes held is are known in
          record {
            each = subst (λ l. AllByRecursion (IsOutcome (contents is.are.records)) (map outcome_seen l)) (sym added)
                (more_outcomes (contents is.are.records) c.judging.outcomes.items c.in_ok-outcome.outcome before.each (next.reported bytes (old.keeps.kept ∙ held) is are before.right));
            right = next.remembers bytes (old.keeps.kept ∙ held) is are before.right;
          };
      chosen = ap (λ l. map (λ o. o.chosen) l) added ∙ chosen_more c.judging.outcomes.items c.in_ok-outcome.outcome
          ∙ ap (λ l. l ++ c.in_ok-outcome.outcome.chosen ∷ []) old.chosen
          ∙ take_next c.args.positions.now c.judging.position-index c.in_ok-outcome.outcome.chosen c.judging-test.true next.chosen;
      inside = asks_on old.keeps old.inside next;
      keeps = preserves_both old.keeps next.keeps;
      sound = next.fails.may ∙ old.sound;
      gaps_known = c.in_ok-outcome.ensures.known;
    }

pub returns : goal.returns
returns g c = record {
  reported = λ bytes held is are known. record {
    chosen = chosen_seen c.judging.outcomes.items ∙ c.judging.invariant.chosen ∙ take_all _ _ c.judging-test.false;
    each = (c.judging.invariant.reported bytes held is are known).each;
  };
  early = tt;
  inside = c.judging.invariant.inside;
  keeps = c.judging.invariant.keeps;
  fails = fails_never c.judging.invariant.sound;
}

pub returns-in_err-outcome : goal.returns-in_err-outcome
returns-in_err-outcome g c =
    let p = err_from_is_err_and c.from_residual.result c.from_residual.ensures.1 in
    let old = c.judging.invariant in
    let next = c.in_err-outcome.ensures.judges in
    rw (p.1, p.2) (record {
      reported = λ bytes held is are known. tt;
      early = next.early;
      inside = asks_on old.keeps old.inside next;
      keeps = preserves_both old.keeps next.keeps;
      fails = fails_after old.keeps.kept old.sound
          (fails_more (λ bytes held (is, are, low). (is, are, low _ (Contains-get_or c.args.positions.now c.judging.position-index 0 c.judging-test.true))) (fails_as _ _ next.fails));
    })

pub returns-in_default-push_outcome : goal.returns-in_default-push_outcome
returns-in_default-push_outcome g c =
    let old = c.judging.invariant in
    let next = c.in_ok-outcome.ensures.judges in
    record {
      reported = λ bytes held is are known. tt;
      early = refl;
      inside = asks_on old.keeps old.inside next;
      keeps = preserves_both old.keeps next.keeps;
      fails = record { may = next.fails.may ∙ old.sound; failed = λ bytes held is. next.fails.may ∙ old.sound };
    }

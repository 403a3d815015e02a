use Rattle.std.proofs.Common.{map, length, ap, ◌∙◌}
use Rattle.std.proofs.Math.ListN.{set}
use Rattle.std.proofs.lemmas.List.{length-set, map-set}
use Rattle.warc_judged.specs.Waiting.{kept_values}
use Rattle.warc_judged.proofs.WaitingLemmas.{kept_without}
use Rattle.warc_judged.proofs.digests.forget_good.Goals.{then-is_good, else-is_good}
use Rattle.warc_judged.proofs.digests.forget_good.Goals as goal

pub forgetting-preserved : goal.forgetting-preserved
forgetting-preserved g c =
    let verdicts = c.args.verdicts.now in
    let values = c.forgetting.values in
    let i = c.forgetting.position in
    elim c.if-is_good.branch [
      | then-is_good w ↦ record {
        same = ap (λ l. kept_values verdicts (map (λ v. v.items) l)) w.values-is
            ∙ ap (kept_values verdicts) (map-set (λ v. v.items) values i w.new.result ∙ ap (set (map (λ v. v.items) values) i) w.new.ensures.items)
            ∙ kept_without verdicts (map (λ v. v.items) values) i (c.is_good.ensures w.if-is_good.true)
            ∙ c.forgetting.invariant.same;
        count = ap length w.values-is ∙ length-set values i w.new.result ∙ c.forgetting.invariant.count;
      }
      | else-is_good w ↦ record {
        same = ap (λ l. kept_values verdicts (map (λ v. v.items) l)) w.values-is ∙ c.forgetting.invariant.same;
        count = ap length w.values-is ∙ c.forgetting.invariant.count;
      }
    ]

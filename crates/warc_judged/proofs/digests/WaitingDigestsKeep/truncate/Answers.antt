use Rattle.std.proofs.Common.{ap, ap₂, map, sym, take, ◌∙◌}
use Rattle.std.proofs.lemmas.List.{take-map}
use Rattle.warc_judged.specs.Fixity.{Judgements, digest_kept, stated_on}
use Rattle.warc_judged.specs.Waiting.{kept_values}
use Rattle.warc_judged.proofs.WaitingLemmas.{kept_first}
use Rattle.warc_judged.proofs.digests.WaitingDigestsKeep.truncate.Goals as goal

pub returns : goal.returns
returns g c = λ records is.
    let count = c.args.count in
    let values = c.self.inside.values.items in (
      c.truncate.ensures ∙ ap (take count) (ap (λ (j : Judgements). j.verdicts) c.self.view_is ∙ is.0) ∙ take-map stated_on count records,
      ap₂ kept_values c.truncate.ensures (ap (map (λ v. v.items)) c.truncate-2.ensures.items ∙ sym (take-map (λ v. v.items) count values))
          ∙ kept_first count c.self.inside.verdicts (map (λ v. v.items) values)
          ∙ ap (take count) (ap (λ (j : Judgements). j.digests) c.self.view_is ∙ is.1) ∙ take-map digest_kept count records,
    )

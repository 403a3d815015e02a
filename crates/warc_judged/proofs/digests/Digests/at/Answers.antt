use Rattle.std.proofs.Common.{map, sym, ap, ap₂, ◌∙◌}
use Rattle.std.proofs.lemmas.List.{length-map}
use Rattle.warc_judged.specs.Fixity.{Judgements, digest_at, unless_good}
use Rattle.warc_judged.proofs.WaitingLemmas.{kept_at}
use Rattle.warc_judged.proofs.digests.Digests.at.Goals as goal

pub returns : goal.returns
returns g c =
    let i = c.args.position in
    let values = c.self.inside.values.items in
    let value = c.value_at.ensures ∙ ap (λ l. digest_at (map (λ v. v.items) l) i) c.deref.ensures.value in
    c.unless_good.ensures ∙ ap₂ unless_good c.at.ensures value
    ∙ sym (kept_at c.self.inside.verdicts (map (λ v. v.items) values) i (c.self.invariant ∙ sym (length-map values (λ v. v.items))))
    ∙ ap (λ (j : Judgements). digest_at j.digests i) c.self.view_is

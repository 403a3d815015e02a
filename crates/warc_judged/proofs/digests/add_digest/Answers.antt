use Rattle.std.proofs.Common.{rules, ◌≡◌, [], ◌∷◌, ◌++◌, map, sym, ap, ap₂, ◌∙◌}
use Rattle.std.proofs.lemmas.List.{length-map, map-append}
use Rattle.sha1.specs.Sha1.{sha1}
use Rattle.warc_checking.specs.Batch.{verdict_with}
use Rattle.warc_judged.specs.Fixity.{unless_good}
use Rattle.warc_judged.specs.Waiting.{kept_values}
use Rattle.warc_judged.proofs.WaitingLemmas.{kept_more}
use Rattle.warc_judged.proofs.digests.add_digest.Goals as goal

pub returns-clause-value : goal.returns-clause-value
returns-clause-value g c =
    let digest = sha1 c.args.block.now in
    let verdict = verdict_with c.args.check digest in
    let old = c.args.verdicts.now in
    let values = c.args.values.now.items in
    let texts = map (λ v. v.items) values in
    let items : c.push_reserved.new.self.items ≡ values ++ c.in_ok-value.value ∷ [] = search rules in
    let copied : c.in_ok-value.value.items ≡ c.unless_known_good.result.now = search rules in
    ap₂ kept_values c.in_ok-add.ensures.ok (ap (map (λ v. v.items)) items ∙ map-append (λ v. v.items) values (c.in_ok-value.value ∷ []))
    ∙ kept_more old texts verdict c.in_ok-value.value.items (c.requires ∙ sym (length-map values (λ v. v.items)))
    ∙ ap (λ t. kept_values old texts ++ t ∷ []) (ap (unless_good verdict) copied ∙ c.unless_known_good.ensures digest)

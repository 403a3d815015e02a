use Rattle.std.proofs.Common.{rules, List, ◌≡◌, ◌+◌, ◌++◌, ◌∙◌, [], ◌∷◌, ap, length, length-append, subst, sym}
use Rattle.std.specs.List.{AllByRecursion}
use Rattle.warc_record.specs.Findings.{SeenFinding}
use Rattle.warc_quick.specs.PlainFindings.{all_plain}
use Rattle.warc_checking.specs.OwnFindings.{IsWithoutDigest, each_with, shown_plain}
use Rattle.warc_checking.specs.declared.digest_state.DigestState.TheVariants.{Unmarked}
use Rattle.warc_checking.proofs.OwnFindingLemmas.{all_more, each_more}
use Rattle.warc_checking.proofs.own_findings.OwnFindings.add_plain.Goals as goal

pub invariant_of-self-2 : goal.invariant_of-self-2
invariant_of-self-2 g c =
    let others = c.self.inside.others in
    let states = c.self.inside.states.items in
    let own = all_plain c.args.found.now in
    let items : c.push_reserved.new.self.items ≡ states ++ Unmarked ∷ [] = search rules in
    let more = ap length c.in_ok-add_plain.ensures.ok ∙ length-append others (own ∷ []) in
    let also = ap length items ∙ length-append states (Unmarked ∷ []) in
    let P : List (List SeenFinding) → Type 0 = λ l. AllByRecursion IsWithoutDigest l in (
      more ∙ ap (λ n. n + 1) c.self.invariant.0 ∙ sym also,
      subst P (sym c.in_ok-add_plain.ensures.ok) (all_more IsWithoutDigest others own c.self.invariant.1 c.requires),
    )

pub returns-clause-ok : goal.returns-clause-ok
returns-clause-ok g c =
    let others = c.self.inside.others in
    let states = c.self.inside.states.items in
    let own = all_plain c.args.found.now in
    let items : c.push_reserved.new.self.items ≡ states ++ Unmarked ∷ [] = search rules in
    ap (λ l. each_with l c.push_reserved.new.self.items) c.in_ok-add_plain.ensures.ok
    ∙ ap (each_with (others ++ own ∷ [])) items ∙ each_more others states own Unmarked c.self.invariant.0
    ∙ ap (λ l. l ++ shown_plain own ∷ []) c.self.view_is

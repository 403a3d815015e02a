use Rattle.std.proofs.Common.{rules, List, ◌≡◌, ◌+◌, ◌++◌, ◌∙◌, [], ◌∷◌, false, ap, length, length-append, subst, sym}
use Rattle.std.specs.List.{AllByRecursion}
use Rattle.warc_record.specs.Findings.{SeenFinding, findings_of}
use Rattle.warc_record.specs.Kinds.{is_known}
use Rattle.warc_record.specs.Readings.{kind_of}
use Rattle.warc_checking.specs.OwnFindings.{IsWithoutDigest, each_with, shown_by, state_by}
use Rattle.warc_checking.proofs.AmongLemmas.{without_digest}
use Rattle.warc_checking.proofs.OwnFindingLemmas.{all_more, each_more, state_shown}
use Rattle.warc_checking.proofs.own_findings.OwnFindings.add.Goals as goal

pub invariant_of-self-2 : goal.invariant_of-self-2
invariant_of-self-2 g c =
    let others = c.self.inside.others in
    let states = c.self.inside.states.items in
    let own = findings_of c.args.fields.now c.args.block_len false false in
    let items : c.push_reserved.new.self.items ≡ states ++ c.of_kind-state.result ∷ [] = search rules in
    let more = ap length c.in_ok-add.ensures.ok ∙ length-append others (own ∷ []) in
    let also = ap length items ∙ length-append states (c.of_kind-state.result ∷ []) in
    let P : List (List SeenFinding) → Type 0 = λ l. AllByRecursion IsWithoutDigest l in (
      more ∙ ap (λ n. n + 1) c.self.invariant.0 ∙ sym also,
      subst P (sym c.in_ok-add.ensures.ok) (all_more IsWithoutDigest others own c.self.invariant.1 (without_digest c.args.fields.now c.args.block_len)),
    )

pub returns-clause-ok : goal.returns-clause-ok
returns-clause-ok g c =
    let others = c.self.inside.others in
    let states = c.self.inside.states.items in
    let own = findings_of c.args.fields.now c.args.block_len false false in
    let items : c.push_reserved.new.self.items ≡ states ++ c.of_kind-state.result ∷ [] = search rules in
    let state = c.of_kind-state.ensures ∙ ap (λ k. state_by (is_known k)) c.kind_of.ensures in
    ap (λ l. each_with l c.push_reserved.new.self.items) c.in_ok-add.ensures.ok ∙ ap (each_with (others ++ own ∷ [])) items
    ∙ ap (λ s. each_with (others ++ own ∷ []) (states ++ s ∷ [])) state
    ∙ each_more others states own (state_by (is_known (kind_of c.args.fields.now))) c.self.invariant.0
    ∙ ap (λ f. each_with others states ++ f ∷ []) (state_shown own (is_known (kind_of c.args.fields.now)))
    ∙ ap (λ l. l ++ shown_by c.args.fields.now c.args.block_len false ∷ []) c.self.view_is

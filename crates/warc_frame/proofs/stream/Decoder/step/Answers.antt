use Rattle.std.proofs.Common.{◌≡◌, ℕ, List, ◌++◌, ap, sym, ◌∙◌, subst}
use Rattle.std.proofs.lemmas.Result.{MatchResult-at_err}
use Rattle.warc_frame.specs.Reported.{Refuses}
use Rattle.warc_frame.specs.Decoding.{State, IsAt, Takes}
use Rattle.warc_frame.proofs.StreamSteps.{near_is, Took, took_piece}
use Rattle.warc_frame.proofs.stream.Decoder.step.Goals as goal
use Rattle.warc_frame.proofs.stream.Decoder.step.Goals.{in-Head-2, in-Block}

pub returns-in-Err-clause-history : goal.returns-in-Err-clause-history
returns-in-Err-clause-history g c = λ at taken reported s.
    let d : State = record { phase = c.self.inside.phase; position = c.self.inside.position; kept = c.self.inside.head.items; left = c.self.inside.left; matched = c.self.inside.matched } in
    let now : IsAt at taken reported d = subst (λ x. IsAt at taken reported x) (sym c.self.view_is) s in
    let phase : c.args.self.now.phase ≡ c.self.inside.phase = sym (ap (λ (x : State). x.phase) c.self.view_is) in
    let piece : List ℕ = c.args.piece.now in
    let near = near_is at taken piece reported d c.min-n.result now c.self.invariant.limit c.min-n.ensures in
    let took : Took at taken (taken ++ piece) piece reported c.match-self.self c.match-self.outcome = elim c.match-self.branch [
      | in-Head-2 w ↦ rw (w.self-is, w.outcome-is) (took_piece at taken (taken ++ piece) piece reported c.min-n.result _ _ w.take_head-outcome.ensures.within (w.take_head-outcome.ensures.history at taken (taken ++ piece) reported (phase ∙ w.in-Head-2.is) s near))
      | in-Block w ↦ rw (w.self-is, w.outcome-is) (took_piece at taken (taken ++ piece) piece reported c.min-n.result _ _ w.take_block-outcome.ensures.within (w.take_block-outcome.ensures.history at taken (taken ++ piece) reported (phase ∙ w.in-Block.is) s near))
    ] in
    rw c.in-Err.is (MatchResult-at_err (λ x. Takes at taken reported c.match-self.self piece x.0 x.1) (λ f. Refuses at (taken ++ piece) reported f) c.in-Err.fault c.in-Err.is took)

pub returns-in_default-clause-history : goal.returns-in_default-clause-history
returns-in_default-clause-history g c = λ at taken reported s.
    let d : State = record { phase = c.self.inside.phase; position = c.self.inside.position; kept = c.self.inside.head.items; left = c.self.inside.left; matched = c.self.inside.matched } in
    let now : IsAt at taken reported d = subst (λ x. IsAt at taken reported x) (sym c.self.view_is) s in
    let phase : c.args.self.now.phase ≡ c.self.inside.phase = sym (ap (λ (x : State). x.phase) c.self.view_is) in
    let piece : List ℕ = c.args.piece.now in
    let near = near_is at taken piece reported d c.min-n.result now c.self.invariant.limit c.min-n.ensures in
    elim c.match-self.branch [
      | in-Head-2 w ↦ rw (w.self-is, w.outcome-is) (took_piece at taken (taken ++ piece) piece reported c.min-n.result _ _ w.take_head-outcome.ensures.within (w.take_head-outcome.ensures.history at taken (taken ++ piece) reported (phase ∙ w.in-Head-2.is) s near))
      | in-Block w ↦ rw (w.self-is, w.outcome-is) (took_piece at taken (taken ++ piece) piece reported c.min-n.result _ _ w.take_block-outcome.ensures.within (w.take_block-outcome.ensures.history at taken (taken ++ piece) reported (phase ∙ w.in-Block.is) s near))
    ]

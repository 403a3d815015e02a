use Rattle.std.proofs.Common.{[], ◌≡◌, ℕ, List, ◌+◌, ◌-◌, ◌++◌, length, take, refl, sym, ap, ◌∙◌, subst, arith}
use Rattle.std.proofs.lemmas.List.{length-take-le, append-nil, nil_from_length}
use Rattle.warc_frame.specs.declared.stream.Phase.TheVariants as phases
use Rattle.warc_frame.specs.Reported.{Lies, Refuses}
use Rattle.warc_frame.specs.Decoding.{State, IsAt}
use Rattle.warc_frame.proofs.StreamState.{lies_there}
use Rattle.warc_frame.proofs.StreamFaults.{too_long}
use Rattle.warc_frame.proofs.StreamSteps.{block_part, head_was_reported, part_exact}
use Rattle.warc_frame.proofs.stream.Decoder.take_block.Goals as goal

pub returns-then-crosses-clause-history : goal.returns-then-crosses-clause-history
returns-then-crosses-clause-history g c = λ at taken text reported ph s near.
    let none : c.args.near.now ≡ [] = nil_from_length c.args.near.now (grind arith) in
    let P : List ℕ → Type 0 = λ x. Lies x reported in
    subst (Refuses at text reported) (sym c.at.ensures) (too_long at text (taken ++ c.args.near.now) reported near.front (near.beyond ∙ c.if-crosses.true)
    (subst P (sym (ap (λ x. taken ++ x) none ∙ append-nil taken)) (lies_there at taken reported c.args.self.now s)))

pub returns-then-self-gt0-clause-history : goal.returns-then-self-gt0-clause-history
returns-then-self-gt0-clause-history g c = λ at taken text reported ph s near.
    let d : State = record { phase = c.self.inside.phase; position = c.self.inside.position; kept = c.self.inside.head.items; left = c.self.inside.left; matched = c.self.inside.matched } in
    let is : d ≡ c.args.self.now = c.self.view_is in
    let now : IsAt at taken reported d = subst (λ x. IsAt at taken reported x) (sym is) s in
    let block : d.phase ≡ phases.Block = ap (λ (x : State). x.phase) is ∙ ph in
    let len : length (take c.min-n.result c.args.near.now) ≡ c.min-n.result = length-take-le c.min-n.result c.args.near.now (omega (arith, c.min-n.ensures)) in
    let part : List ℕ = take c.min-n.result c.args.near.now in
    let none : c.min-n.result - 0 ≡ c.min-n.result = omega arith in
    record {
      may = head_was_reported at taken reported d now block;
      exact = rw none (part_exact at taken reported d part now block c.if-self-gt0.true);
      is_at = rw none (block_part at taken reported d _ part now block c.if-self-gt0.true (omega (arith, len, c.min-n.ensures)) block refl refl (ap (λ k. d.position + k) (sym len)));
    }

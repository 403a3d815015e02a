use Rattle.std.proofs.Common.{◌≡◌, ℕ, List, ◌+◌, ◌++◌, length, take, drop, refl, sym, ap, ◌∙◌, subst, arith}
use Rattle.std.proofs.lemmas.List.{take_all, length-take-le}
use Rattle.warc_frame.specs.declared.stream.Phase.TheVariants as phases
use Rattle.warc_frame.specs.Decoding.{State, IsAt, closing}
use Rattle.warc_frame.specs.Reported.{Refuses}
use Rattle.warc_frame.proofs.StreamFaults.{too_long}
use Rattle.warc_frame.proofs.StreamSteps.{end_more, end_closed, end_refused, lies_in_end, block_was_reported, end_exact, true_false}
use Rattle.warc_frame.proofs.stream.Decoder.take_end.Goals as goal

pub returns-then-not-closes_on-clause-history : goal.returns-then-not-closes_on-clause-history
returns-then-not-closes_on-clause-history g c = λ at taken text reported ph none s near.
    let d : State = record { phase = c.self.inside.phase; position = c.self.inside.position; kept = c.self.inside.head.items; left = c.self.inside.left; matched = c.self.inside.matched } in
    let is : d ≡ c.args.self.now = c.self.view_is in
    let now : IsAt at taken reported d = subst (λ x. IsAt at taken reported x) (sym is) s in
    let block : d.phase ≡ phases.Block = ap (λ (x : State). x.phase) is ∙ ph in
    let done : d.left ≡ 0 = ap (λ (x : State). x.left) is ∙ none in
    let len : length (take c.min-n.result c.args.near.now) ≡ c.min-n.result = length-take-le c.min-n.result c.args.near.now (omega (arith, c.min-n.ensures)) in
    subst (Refuses at text reported) (sym c.at.ensures) (end_refused at taken reported d text c.args.near.now c.min-n.result now block done near.front c.min-n.ensures
    (λ same. true_false (sym (c.closes_on.ensures.1 (same ∙ ap (λ k. take k (drop d.matched closing)) (sym len))) ∙ c.if-not-closes_on.true)))

pub returns-then-crosses-clause-history : goal.returns-then-crosses-clause-history
returns-then-crosses-clause-history g c = λ at taken text reported ph none s near.
    let d : State = record { phase = c.self.inside.phase; position = c.self.inside.position; kept = c.self.inside.head.items; left = c.self.inside.left; matched = c.self.inside.matched } in
    let is : d ≡ c.args.self.now = c.self.view_is in
    let now : IsAt at taken reported d = subst (λ x. IsAt at taken reported x) (sym is) s in
    let block : d.phase ≡ phases.Block = ap (λ (x : State). x.phase) is ∙ ph in
    let done : d.left ≡ 0 = ap (λ (x : State). x.left) is ∙ none in
    let all : take c.min-n.result c.args.near.now ≡ c.args.near.now = take_all c.min-n.result c.args.near.now (omega (arith, c.min-n.ensures, c.if-n-want.true)) in
    let P : List ℕ → Type 0 = λ x. x ≡ take (length x) (drop d.matched closing) in
    subst (Refuses at text reported) (sym c.at-then-crosses.ensures) (too_long at text (taken ++ c.args.near.now) reported near.front (near.beyond ∙ c.if-crosses.true)
    (lies_in_end at taken reported d c.args.near.now now block done (subst P all (c.closes_on.ensures.0 c.if-not-closes_on.false)) (omega (arith, c.min-n.ensures, c.if-n-want.true))))

pub returns-else-crosses-clause-history : goal.returns-else-crosses-clause-history
returns-else-crosses-clause-history g c = λ at taken text reported ph none s near.
    let d : State = record { phase = c.self.inside.phase; position = c.self.inside.position; kept = c.self.inside.head.items; left = c.self.inside.left; matched = c.self.inside.matched } in
    let is : d ≡ c.args.self.now = c.self.view_is in
    let now : IsAt at taken reported d = subst (λ x. IsAt at taken reported x) (sym is) s in
    let block : d.phase ≡ phases.Block = ap (λ (x : State). x.phase) is ∙ ph in
    let done : d.left ≡ 0 = ap (λ (x : State). x.left) is ∙ none in
    let len : length (take c.min-n.result c.args.near.now) ≡ c.min-n.result = length-take-le c.min-n.result c.args.near.now (omega (arith, c.min-n.ensures)) in
    let part : List ℕ = take c.min-n.result c.args.near.now in
    record {
      may = tt;
      exact = tt;
      is_at = end_more at taken reported d _ part now block done (c.closes_on.ensures.0 c.if-not-closes_on.false) (omega (arith, len, c.if-n-want.true)) block refl refl
          (ap (λ k. d.matched + k) (sym len)) (ap (λ k. d.position + k) (sym len));
    }

pub returns-else-n-want-clause-history : goal.returns-else-n-want-clause-history
returns-else-n-want-clause-history g c = λ at taken text reported ph none s near.
    let d : State = record { phase = c.self.inside.phase; position = c.self.inside.position; kept = c.self.inside.head.items; left = c.self.inside.left; matched = c.self.inside.matched } in
    let is : d ≡ c.args.self.now = c.self.view_is in
    let now : IsAt at taken reported d = subst (λ x. IsAt at taken reported x) (sym is) s in
    let block : d.phase ≡ phases.Block = ap (λ (x : State). x.phase) is ∙ ph in
    let done : d.left ≡ 0 = ap (λ (x : State). x.left) is ∙ none in
    let len : length (take c.min-n.result c.args.near.now) ≡ c.min-n.result = length-take-le c.min-n.result c.args.near.now (omega (arith, c.min-n.ensures)) in
    let part : List ℕ = take c.min-n.result c.args.near.now in
    let same = c.closes_on.ensures.0 c.if-not-closes_on.false in
    let four : d.matched + length part ≡ 4 = omega (arith, len, c.if-n-want.false, c.min-n.ensures, c.self.invariant.fewer) in
    record {
      may = block_was_reported at taken reported d now block done;
      exact = end_exact at taken reported d part now block done same four;
      is_at = end_closed at taken reported d _ part now block done same four refl refl (ap (λ k. d.position + k) (sym len));
    }

use Rattle.std.proofs.Common.{◌≡◌, length, sym, ap, ◌∙◌, subst, arith, Err}
use Rattle.warc_frame.specs.Decoding.{Finishes, State, IsAt}
use Rattle.warc_frame.specs.declared.fault.Fault.{Fault}
use Rattle.warc_frame.proofs.StreamSteps.{finishes_cut, phases_differ}
use Rattle.warc_frame.proofs.stream.Decoder.finish.Goals as goal

pub returns-else-is_empty-clause-history : goal.returns-else-is_empty-clause-history
returns-else-is_empty-clause-history g c = λ at taken reported s.
    let d : State = record { phase = c.self.inside.phase; position = c.self.inside.position; kept = c.self.inside.head.items; left = c.self.inside.left; matched = c.self.inside.matched } in
    let P : Fault → Type 0 = λ f. Finishes at taken reported (Err f) in
    subst P (sym c.at-truncated.ensures) (finishes_cut at taken reported d (subst (λ x. IsAt at taken reported x) (sym c.self.view_is) s) c.self.invariant.limit
    (λ ph nil. let none : length c.self.inside.head.items ≡ 0 = ap length nil in grind (arith, none, c.self.inside.head.ok.0, c.is_empty.ensures, c.if-is_empty.false)))

pub returns-in-Block-clause-history : goal.returns-in-Block-clause-history
returns-in-Block-clause-history g c = λ at taken reported s.
    let d : State = record { phase = c.self.inside.phase; position = c.self.inside.position; kept = c.self.inside.head.items; left = c.self.inside.left; matched = c.self.inside.matched } in
    let P : Fault → Type 0 = λ f. Finishes at taken reported (Err f) in
    subst P (sym c.at-truncated.ensures) (finishes_cut at taken reported d (subst (λ x. IsAt at taken reported x) (sym c.self.view_is) s) c.self.invariant.limit
    (λ ph nil. phases_differ (sym c.in-Block.is ∙ ph)))

use Rattle.std.proofs.Common.{◌≡◌, ◌∙◌, ◌≢◌, ◌<◌, Bool, true, false, not, length, sym, refl, arith}
use Rattle.std.specs.Vec.{vec_len}
use Rattle.std.proofs.lemmas.Bool.{eqb-false, eqb-true}
use Rattle.warc_segment.proofs.MemberLemmas.{nothing_held, something_held}
use Rattle.warc_segment.proofs.parts.Parts.has_segments.Goals as goal

-- an answer that isn't no is yes, and one that isn't yes is no
is_true : (b : Bool) → not b ≡ false → b ≡ true
is_true true off = refl
is_true false off = cc

is_false : (b : Bool) → not b ≡ true → b ≡ false
is_false false on = refl
is_false true on = cc

pub returns-clause-some : goal.returns-clause-some
returns-clause-some g c all was some =
    let held : vec_len c.self.inside.facts ≢ 0 =
    eqb-false _ _ (sym c.is_empty.ensures ∙ is_false c.is_empty.result some) in
    something_held c.self.inside.count c.self.inside.order c.self.inside.facts.items all c.self.invariant
    (c.self.view_is ∙ was) (omega (arith, held, c.self.inside.facts.ok.0, c.self.invariant.same))

pub returns-clause-none : goal.returns-clause-none
returns-clause-none g c all was none id =
    let empty : vec_len c.self.inside.facts ≡ 0 =
    eqb-true _ _ (sym c.is_empty.ensures ∙ is_true c.is_empty.result none) in
    nothing_held c.self.inside.count c.self.inside.order c.self.inside.facts.items all (c.self.view_is ∙ was)
    (omega (arith, empty, c.self.inside.facts.ok.0)) id

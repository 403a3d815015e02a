use Rattle.std.proofs.Common.{◌≡◌, List, None, Some, sym, subst, ◌∙◌}
use Rattle.warc_pieces.specs.Reader.{GivesMore, AreGiven, Reader, ReadsFew}
use Rattle.warc_pieces.specs.Window.{reached}
use Rattle.warc_pieces.specs.declared.piece.Piece.{Piece}
use Rattle.warc_pieces.proofs.ReaderLemmas.{next_gives}
use Rattle.warc_pieces.proofs.pieces.Pieces.next.Goals as goal

pub invariant_of-self : goal.invariant_of-self
invariant_of-self g c = (
  c.step.ensures.may,
  λ bytes held.
      let was = sym c.step.ensures.kept ∙ held in
      c.step.ensures.is_present bytes was (c.self.invariant.1 bytes was),
)

pub returns-clause-gives : goal.returns-clause-gives
returns-clause-gives g c = λ bytes.
    let P : Reader g.row.S.Denot → Type 0 = λ was. (g.S.Source.seen was.source).holds ≡ Some bytes → (pieces : List Piece) → AreGiven bytes was.at was.failure pieces
    → GivesMore bytes c.step.new.walk.at c.step.new.walk.failure pieces c.step.result in
    subst P c.self.view_is (λ held pieces given.
    let is_present = c.self.invariant.1 bytes held in
    next_gives bytes c.self.inside.walk.at c.step.new.walk.at c.self.inside.walk.failure c.step.new.walk.failure pieces c.step.result
    (λ none. c.step.ensures.gives none bytes held is_present)
    (λ f is. (c.step.ensures.failed f is).0)
    given)

pub returns-clause-few : goal.returns-clause-few
returns-clause-few g c = λ none bytes.
    let P : Reader g.row.S.Denot → Type 0 = λ was. was.failure ≡ None → (g.S.Source.seen was.source).holds ≡ Some bytes
    → ReadsFew bytes was.at c.step.result 2 was.reached (reached c.step.new.walk.window) (g.S.Source.seen was.source) (g.S.Source.seen c.step.new.source) in
    subst P c.self.view_is (λ sound held. c.step.ensures.few sound bytes held (c.self.invariant.1 bytes held)) none

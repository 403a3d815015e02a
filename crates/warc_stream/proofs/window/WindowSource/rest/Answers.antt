use Rattle.std.proofs.Common.{ap, arith, ◌∙◌}
use Rattle.warc_stream.specs.Window.{Windowed}
use Rattle.warc_stream.proofs.WindowLemmas.{rest_there, whole_there}
use Rattle.warc_stream.proofs.window.WindowSource.rest.Goals as goal

pub returns-clause-there : goal.returns-clause-there
returns-clause-there g c = λ bytes held.
    let same = ap (λ (w : Windowed _). g.S.Source.seen w.source) c.self.view_is in
    let inside = c.self.inside in
    let is = c.self.invariant.1 bytes (ap (λ t. t.holds) same ∙ held) in
    rw c.deref.ensures.value (rest_there bytes inside.buffer.items inside.len inside.from c.args.at is c.self.invariant.0
    (omega (arith, c.if-at-self.false)) (omega (arith, c.if-at-self-2.false)))

pub returns-clause-whole : goal.returns-clause-whole
returns-clause-whole g c = λ same.
    let inside = c.self.inside in
    let from = ap (λ (w : Windowed _). w.from) c.self.view_is in
    let piece = ap (λ (w : Windowed _). w.piece) c.self.view_is in
    rw c.deref.ensures.value (whole_there inside.buffer.items inside.len inside.from c.args.at (from ∙ same)) ∙ piece

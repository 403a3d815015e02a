use Rattle.std.proofs.Common.{ℕ, ◌<◌, ap, sym, subst, ◌∙◌}
use Rattle.std.proofs.lemmas.Bool.{ltb-true}
use Rattle.warc_field.specs.Area.{count_of}
use Rattle.warc_frame.specs.declared.fault.FaultKind.{FaultKind}
use Rattle.warc_pieces.specs.Skip.{AreTooMany}
use Rattle.warc_pieces.proofs.skip.are_too_many.Goals as goal

pub returns-in-Repeated : goal.returns-in-Repeated
returns-in-Repeated g c = λ more.
    let fields = c.args.fields.now in
    let K : FaultKind → Type 0 = λ kind. AreTooMany kind fields in
    let C : ℕ → Type 0 = λ n. 1 < n in
    let same = c.count.ensures ∙ ap (λ name. count_of name fields) (c.as_bytes.ensures.value ∙ c.name.ensures) in
    subst K (sym c.in-Repeated.is) (subst C same (ltb-true 1 c.count.result more))

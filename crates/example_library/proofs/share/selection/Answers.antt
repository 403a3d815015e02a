use Rattle.std.proofs.Common.{refl, ◌∙◌}
use Rattle.example_library.proofs.MoveLemmas.{reported_bytes}
use Rattle.example_library.proofs.share.selection.Goals as goal

pub returns-in-Ok-clause-text : goal.returns-in-Ok-clause-text
returns-in-Ok-clause-text g c = λ bytes held is.
    c.into_inner.ensures ∙ reported_bytes _ _ _ (c.in-Ok.ensures.selects.sends.out bytes _ held (is, refl)) (c.new-sink.ensures.bytes ∙ c.new.ensures.items)

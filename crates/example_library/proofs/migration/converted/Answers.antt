use Rattle.std.proofs.Common.{refl, ◌∙◌}
use Rattle.example_library.proofs.MoveLemmas.{reported_bytes}
use Rattle.example_library.proofs.migration.converted.Goals as goal

pub returns-in-Ok : goal.returns-in-Ok
returns-in-Ok g c = λ bytes held is.
    c.into_inner.ensures ∙ reported_bytes _ _ _ (c.in-Ok.ensures.writes.sends.out bytes _ held (record { is = is; text_is = refl })) (c.new-sink.ensures.bytes ∙ c.new.ensures.items)

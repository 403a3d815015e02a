use Rattle.std.proofs.Common.{◌≡◌, false, sym, arith}
use Rattle.std.proofs.lemmas.Bool.Decides.{nat_tests}
use Rattle.warc_write.specs.Making.{is_block}
use Rattle.warc_write.proofs.MakeLemmas.{no_block, no_kind}
use Rattle.warc_write.proofs.made.refusal_of_long.Goals as goal

pub returns-in_default : goal.returns-in_default
returns-in_default c = λ block long. no_kind _ (sym c.in_default.ensures)

pub returns-in-Ok : goal.returns-in-Ok
returns-in-Ok c = λ block long.
    let past : is_block block ≡ false = grind (arith, nat_tests) in
    no_block _ c.in-Some.field-0.now c.in-Ok.field-0 (sym c.in-Some.ensures) c.in-Ok.ensures.date c.in-Ok.ensures.target
    c.in-Ok.ensures.id c.in-Ok.ensures.content_type past

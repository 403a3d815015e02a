use Rattle.std.proofs.Common.{List, ℕ, [], ap, subst, ◌∙◌}
use Rattle.warc_fixity.specs.Decoded.{stated_digest}
use Rattle.warc_fixity.specs.Judged.{JudgeHasTaken}
use Rattle.warc_judged.specs.Fixity.{digest_value}
use Rattle.warc_judged.proofs.stated.StatedBlockTakeBlock.begin.Goals as goal

pub returns : goal.returns
returns g c =
    let P : List ℕ → Type 0 = λ value. JudgeHasTaken c.stated.result (stated_digest value) [] in
    subst P (c.digest_value.ensures ∙ ap digest_value c.fields.ensures.fields) c.stated.ensures

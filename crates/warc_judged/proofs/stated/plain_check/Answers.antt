use Rattle.std.proofs.Common.{sym, ap₂, ◌∙◌}
use Rattle.warc_fixity.specs.Judged.{stated_verdict}
use Rattle.warc_judged.proofs.stated.plain_check.Goals as goal

pub returns : goal.returns
returns c = λ p start next. c.stated_check.ensures ∙ ap₂ stated_verdict (sym next.says.digest) next.block_is

use Rattle.warc_rewrite.specs.Forms.{text_as}
use Rattle.warc_rewrite.proofs.EmitLemmas.{given, unkept}
use Rattle.warc_rewrite.proofs.WholeLemmas.{copy_of}
use Rattle.warc_rewrite.proofs.forms.put_as.Goals as goal

pub returns-in_default-clause-emits : goal.returns-in_default-clause-emits
returns-in_default-clause-emits g c = unkept c.sent.result c.sent.ensures

pub returns-clause-emits : goal.returns-clause-emits
returns-clause-emits g c =
    given c.put_copied.ensures.emits
    (λ bytes text held says. copy_of (text_as c.args.form) c.args.row.now _ bytes text says.0 (c.in-Ok.ensures.copied says.0.placed says.1 says.0.row_is))

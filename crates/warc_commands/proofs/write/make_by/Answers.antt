use Rattle.std.proofs.Common.{subst, ap, ◌∙◌}
use Rattle.warc_record.specs.Kinds.{kind_named}
use Rattle.warc_write.specs.Making.{Makes, made}
use Rattle.warc_commands.proofs.MakingLemmas.{plan_is}
use Rattle.warc_commands.proofs.write.make_by.Goals as goal

pub returns : goal.returns
returns g c = λ bytes block.
    subst (λ plan. Makes c.make.result (made plan))
    (plan_is c.args.draft.now bytes c.args.block.now c.named.result c.as_bytes-2.result.now c.as_bytes-3.result.now c.as_bytes-4.result.now
    c.as_bytes-5.result.now (c.named.ensures ∙ ap kind_named c.as_bytes.ensures.value) c.as_bytes-2.ensures.value c.as_bytes-3.ensures.value
    c.as_bytes-4.ensures.value c.as_bytes-5.ensures.value block)
    c.make.ensures.made

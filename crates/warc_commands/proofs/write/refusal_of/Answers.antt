use Rattle.std.proofs.Common.{◌+◌, take, refl, sym, ap, ◌∙◌}
use Rattle.warc_frame.specs.Record.{max_block}
use Rattle.warc_record.specs.Kinds.{kind_named}
use Rattle.warc_write.specs.Making.{made}
use Rattle.warc_commands.proofs.MakingLemmas.{plan_is, stays_long}
use Rattle.warc_commands.proofs.write.refusal_of.Goals as goal

pub returns : goal.returns
returns c = λ bytes long.
    sym (ap made (plan_is c.args.draft.now bytes (take (max_block + 1) bytes) c.named.result c.as_bytes-2.result.now c.as_bytes-3.result.now c.as_bytes-4.result.now
    c.as_bytes-5.result.now (c.named.ensures ∙ ap kind_named c.as_bytes.ensures.value) c.as_bytes-2.ensures.value c.as_bytes-3.ensures.value
    c.as_bytes-4.ensures.value c.as_bytes-5.ensures.value refl))
    ∙ c.refusal_of_long.ensures (take (max_block + 1) bytes) (stays_long bytes long)

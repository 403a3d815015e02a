use Rattle.std.proofs.Common.{sym, ◌∙◌}
use Rattle.warc_reading.proofs.PlainLemmas.{finished}
use Rattle.warc_reading.proofs.stream.plain_record.Goals as goal

pub returns-clause-between : goal.returns-clause-between
returns-clause-between g c = λ at taken reported is.
    finished c.finish.result (sym c.is_err.ensures.value ∙ c.if-is_err.false) at taken reported (c.finish.ensures.history at taken reported is)

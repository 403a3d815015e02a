use Rattle.std.proofs.Common.{◌∙◌}
use Rattle.warc_commands.proofs.ReadLemmas.{far_then_front}
use Rattle.warc_commands.proofs.write.read_block.Goals as goal

pub returns-clause-bytes : goal.returns-clause-bytes
returns-clause-bytes g c = λ bytes held. c.in_ok-read_front.ensures.bytes bytes (c.is_long.ensures.kept ∙ held)

pub returns-in_err-read_front-clause-reads : goal.returns-in_err-read_front-clause-reads
returns-in_err-read_front-clause-reads g c = far_then_front _ _ (g.S.Source.seen c.read_front.new.source) c.is_long.ensures.reads c.is_long.ensures.kept c.read_front.ensures.reads

pub returns-clause-reads : goal.returns-clause-reads
returns-clause-reads g c = far_then_front _ _ (g.S.Source.seen c.read_front.new.source) c.is_long.ensures.reads c.is_long.ensures.kept c.read_front.ensures.reads

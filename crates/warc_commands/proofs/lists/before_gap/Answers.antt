use Rattle.warc_commands.specs.Named.{is_gap}
use Rattle.warc_commands.proofs.ListLemmas.{no_gap, to_gap}
use Rattle.warc_commands.proofs.lists.before_gap.Goals as goal

pub returns-in-Some : goal.returns-in-Some
returns-in-Some c = to_gap is_gap c.args.line.now c.memchr2.result c.memchr2.ensures c.in-Some.end c.in-Some.is

pub returns-in-None : goal.returns-in-None
returns-in-None c = no_gap is_gap c.args.line.now c.memchr2.result c.memchr2.ensures c.in-None.is

use Rattle.std.proofs.Common.{ap, ◌∙◌}
use Rattle.warc_commands.specs.Named.{position_in}
use Rattle.warc_commands.specs.Words.{position_of}
use Rattle.warc_commands.proofs.lists.position_in.Goals as goal

pub returns : goal.returns
unfolding position_in
returns c = c.position_of.ensures ∙ ap position_of c.before_gap.ensures

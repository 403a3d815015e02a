use Rattle.std.proofs.Common.{[]}
use Rattle.warc_lanes.proofs.tests.digest_of_two.Goals as goal

pub returns : goal.returns
returns c = c.finish.ensures _ (c.update-2.ensures _ (c.update.ensures [] c.new-digest.ensures))

use Rattle.warc_replay.proofs.LoneLemmas.{typed_head}
use Rattle.warc_replay.proofs.replay.lone.type_in_head.Goals as goal

pub returns : goal.returns
returns c = typed_head c.unsegmented_type.result c.args.text.now c.unsegmented_type.ensures

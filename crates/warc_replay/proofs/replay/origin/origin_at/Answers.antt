use Rattle.warc_replay.proofs.replay.origin.origin_at.Goals as goal

pub origin_once-requires : goal.origin_once-requires
origin_once-requires g c = c.new-gaps.ensures c.args.lookup.now.parts

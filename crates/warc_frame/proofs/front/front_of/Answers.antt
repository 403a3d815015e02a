use Rattle.warc_frame.specs.Reading.{head_front}
use Rattle.warc_frame.specs.Record.{max_head}
use Rattle.warc_frame.proofs.HeadLemmas.{take_shorter}
use Rattle.warc_frame.proofs.front.front_of.Goals as goal

pub returns-clause-front : goal.returns-clause-front
unfolding head_front
returns-clause-front c = take_shorter max_head _ _ c.min.ensures

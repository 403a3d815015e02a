use Rattle.warc_frame.proofs.StreamFaults.{refusals_refute}
use Rattle.warc_frame.proofs.laws.refusals_refute.Goals as goal

pub returns : goal.returns
returns c = refusals_refute

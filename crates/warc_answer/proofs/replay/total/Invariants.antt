use Rattle.std.proofs.Common.{◌≡◌, take}
use Rattle.warc_frame.specs.Count.{capped}
use Rattle.warc_answer.specs.Places.{len_of}
use Rattle.warc_answer.proofs.replay.total.Given as goal

abbrev pub invariant-adding : goal.invariant-adding
invariant-adding l = l.total ≡ capped (len_of (take l.place-index l.places))

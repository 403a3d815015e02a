use Rattle.warc_pieces.proofs.LawLemmas.{pieces_are_apart, pieces_follow, pieces_have_bytes, pieces_sum}
use Rattle.warc_pieces.proofs.laws.pieces_cover.Goals as goal

pub returns-clause-sum : goal.returns-clause-sum
returns-clause-sum c = pieces_sum

pub returns-clause-follow : goal.returns-clause-follow
returns-clause-follow c = pieces_follow

pub returns-clause-some : goal.returns-clause-some
returns-clause-some c = pieces_have_bytes

pub returns-clause-apart : goal.returns-clause-apart
returns-clause-apart c = pieces_are_apart

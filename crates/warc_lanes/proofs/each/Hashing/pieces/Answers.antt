use Rattle.warc_lanes.proofs.LaneLemmas.{of_lanes}
use Rattle.warc_lanes.proofs.each.Hashing.pieces.Goals as goal

pub returns-clause-next : goal.returns-clause-next
returns-clause-next c = of_lanes _ c.piece_or.ensures.next c.piece_or-2.ensures.next c.piece_or-3.ensures.next c.piece_or-4.ensures.next

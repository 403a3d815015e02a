use Rattle.std.proofs.Common.{sym, ◌∙◌}
use Rattle.warc_pieces.proofs.pieces.Pieces.put.Goals as goal

pub invariant_of-self : goal.invariant_of-self
invariant_of-self g c =
    let (may, is_present) = c.self.invariant in
    (may, λ bytes held. is_present bytes (sym c.put_range.ensures.reads.kept ∙ held))

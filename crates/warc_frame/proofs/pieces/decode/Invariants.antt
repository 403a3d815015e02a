use Rattle.std.proofs.Common.{take}
use Rattle.std.specs.List.{flat_map}
use Rattle.warc_frame.specs.Pieces.{Keeps}
use Rattle.warc_frame.proofs.pieces.decode.Given as goal

abbrev pub invariant-loop-piece : goal.invariant-loop-piece
invariant-loop-piece g l = Keeps l.at (flat_map (λ p. p.now) (take l.piece-index l.pieces)) l.kept l.decoder

use Rattle.std.proofs.lemmas.Result.{err_from_is_err_and}
use Rattle.warc_commands.proofs.PiecesLemmas.{put_all_pieces, put_cut, put_more, put_none}
use Rattle.warc_commands.proofs.WalkLemmas.{walk_begins}
use Rattle.warc_commands.proofs.pieces.put_pieces.Goals as goal

pub putting-init : goal.putting-init
putting-init g c = put_none _ _ _ _ _ _ _ (walk_begins _ _ _ _ c.requires.0 c.requires.1 c.new-tally.ensures)

pub putting-preserved : goal.putting-preserved
putting-preserved g c =
    let i = c.putting.invariant in
    let walks = c.next_step.ensures (g.S.Source.seen c.args.pieces.now.source) i.pieces i.walked in
    put_more _ _ _ _ _ _ _ _ _ _ _ _ _ _ _ i c.in-More.piece (rw c.in-More.is at walks).0 c.in_ok-put_piece-in-More.field-0 c.in_ok-put_piece-in-More.ensures

pub returns-in_err-put_piece-in-More : goal.returns-in_err-put_piece-in-More
returns-in_err-put_piece-in-More g c =
    let i = c.putting.invariant in
    let walks = c.next_step.ensures (g.S.Source.seen c.args.pieces.now.source) i.pieces i.walked in
    let p = err_from_is_err_and c.from_residual.result c.from_residual.ensures.1 in
    rw (p.1, p.2) (put_cut _ _ _ _ _ _ _ _ _ _ _ _ _ _ _ i c.in-More.piece (rw c.in-More.is at walks).0 c.in_err-put_piece-in-More.field-0.0 c.in_err-put_piece-in-More.ensures)

pub returns-in-End : goal.returns-in-End
returns-in-End g c =
    let i = c.putting.invariant in
    let walks = c.next_step.ensures (g.S.Source.seen c.args.pieces.now.source) i.pieces i.walked in
    put_all_pieces _ _ _ _ _ _ _ _ _ _ _ _ _ i (rw c.in-End.is at walks)

use Rattle.std.proofs.Common.{Ok, ap, ◌∙◌}
use Rattle.warc_lent.proofs.PieceLemmas.{walk_begins, walk_end, walk_more, walk_on, walk_stop}
use Rattle.warc_lent.proofs.pieces.put_walk.Goals as goal

pub putting-init : goal.putting-init
putting-init g c = walk_begins _ _ _ _ c.requires.0 c.requires.1

pub putting-preserved : goal.putting-preserved
putting-preserved g c =
    walk_more _ _ _ _ _ _ _ _ _ _ c.next.result c.putting.invariant c.next.ensures.gives c.next.ensures.advances
    (λ f is. let (same, all) = c.next.ensures.failed f is in (same, ap (λ r. g.S.Source.seen r.source) all))
    c.in-Ok-Some.piece _ (c.in-Ok-Some.is ∙ ap Ok c.in-Ok-Some.field-0-is) c.put_piece.ensures

pub putting-smaller : goal.putting-smaller
putting-smaller g c =
    walk_on _ _ _ _ _ _ _ _ _ _ c.next.result c.putting.invariant c.next.ensures.gives c.next.ensures.advances
    (λ f is. let (same, all) = c.next.ensures.failed f is in (same, ap (λ r. g.S.Source.seen r.source) all))
    c.in-Ok-Some.piece (c.in-Ok-Some.is ∙ ap Ok c.in-Ok-Some.field-0-is)

pub returns-in-Ok-None-clause-put : goal.returns-in-Ok-None-clause-put
returns-in-Ok-None-clause-put g c =
    walk_end _ _ _ _ _ _ _ _ _ _ c.next.result c.putting.invariant c.next.ensures.gives c.next.ensures.advances
    (λ f is. let (same, all) = c.next.ensures.failed f is in (same, ap (λ r. g.S.Source.seen r.source) all))
    (c.in-Ok-None.is ∙ ap Ok c.in-Ok-None.field-0-is)

pub returns-in-Err-clause-put : goal.returns-in-Err-clause-put
returns-in-Err-clause-put g c =
    walk_stop _ _ _ _ _ _ _ _ _ _ c.next.result c.putting.invariant c.next.ensures.gives c.next.ensures.advances
    (λ f is. let (same, all) = c.next.ensures.failed f is in (same, ap (λ r. g.S.Source.seen r.source) all))
    c.in-Err.fault c.in-Err.is

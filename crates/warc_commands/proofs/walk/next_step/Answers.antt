use Rattle.std.proofs.Common.{Ok, ap, ◌∙◌}
use Rattle.warc_commands.proofs.WalkLemmas.{walk_end, walk_more, walk_room, walk_stop}
use Rattle.warc_commands.proofs.walk.next_step.Goals as goal

pub returns-in-Ok-Some : goal.returns-in-Ok-Some
returns-in-Ok-Some g c = λ begun given walked.
    walk_more begun _ _ _ _ _ _ _ _ given c.next.result walked c.next.ensures.gives c.next.ensures.advances
    (λ f is. let (same, all) = c.next.ensures.failed f is in (same, ap (λ r. g.S.Source.seen r.source) all))
    c.in-Ok-Some.piece (c.in-Ok-Some.is ∙ ap Ok c.in-Ok-Some.field-0-is) c.add.ensures

pub returns-in-Ok-None : goal.returns-in-Ok-None
returns-in-Ok-None g c = λ begun given walked.
    walk_end begun _ _ _ _ _ _ c.args.tally.now c.args.tally.now given c.next.result walked c.next.ensures.gives c.next.ensures.advances
    (λ f is. let (same, all) = c.next.ensures.failed f is in (same, ap (λ r. g.S.Source.seen r.source) all))
    (c.in-Ok-None.is ∙ ap Ok c.in-Ok-None.field-0-is)

pub returns-in-Err : goal.returns-in-Err
returns-in-Err g c = λ begun given walked.
    walk_stop begun _ _ _ _ _ _ c.args.tally.now c.args.tally.now given c.next.result walked c.next.ensures.gives c.next.ensures.advances
    (λ f is. let (same, all) = c.next.ensures.failed f is in (same, ap (λ r. g.S.Source.seen r.source) all))
    c.in-Err.fault c.in-Err.is

pub add-requires : goal.add-requires
add-requires g c =
    let (begun, given, walked) = c.requires in
    walk_room begun _ _ _ _ _ _ c.args.tally.now c.args.tally.now given c.next.result walked c.next.ensures.gives c.next.ensures.advances
    (λ f is. let (same, all) = c.next.ensures.failed f is in (same, ap (λ r. g.S.Source.seen r.source) all))
    c.in-Ok-Some.piece (c.in-Ok-Some.is ∙ ap Ok c.in-Ok-Some.field-0-is)

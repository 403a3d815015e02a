use Rattle.std.proofs.Common.{◌∙◌, ◌+◌, ◌++◌, arith}
use Rattle.warc_pieces.proofs.SkipLemmas.{end_room, line_within, none_on, none_yet, shared_within}
use Rattle.warc_pieces.proofs.skip.skip_within.Goals as goal

pub returns-then-is_shared-clause-none : goal.returns-then-is_shared-clause-none
returns-then-is_shared-clause-none g c = λ more f bad kind offset.
    shared_within c.args.head.now more _ c.args.kind f c.requires.ends (c.is_shared.ensures c.if-is_shared.true) bad kind

pub returns-in-Field-clause-none : goal.returns-in-Field-clause-none
returns-in-Field-clause-none g c = λ more f bad kind offset.
    let head = c.args.head.now in
    none_on (head ++ more) 1 c.clamp-line.result c.next_fit-in-Field.result
    (line_within head more _ c.clamp-line.result c.args.place f c.requires.ends bad (kind ∙ c.in-Field.is) offset (omega (arith, c.clamp-line.ensures)) (omega (arith, c.clamp-line.ensures, c.saturating_sub.ensures)))
    (c.next_fit-in-Field.ensures.none more)

pub returns-then-is_shared-clause-some : goal.returns-then-is_shared-clause-some
returns-then-is_shared-clause-some g c = let room = end_room c.args.head.now c.requires.ends in omega (arith, room)

pub clamp-line-requires : goal.clamp-line-requires
clamp-line-requires g c = let room = end_room c.args.head.now c.requires.ends in omega (arith, room)

pub next_fit-requires-in-Field-clause-within : goal.next_fit-requires-in-Field-clause-within
next_fit-requires-in-Field-clause-within g c = let room = end_room c.args.head.now c.requires.ends in omega (arith, room, c.clamp-line.ensures)

pub returns-in_default : goal.returns-in_default
returns-in_default g c =
    let room = end_room c.args.head.now c.requires.ends in
    record { some = omega arith; within = omega (arith, room); none = λ more f bad kind offset. none_yet (c.args.head.now ++ more) 1 }

pub returns-in-Repeated-clause-none : goal.returns-in-Repeated-clause-none
returns-in-Repeated-clause-none g c = λ more f bad kind offset.
    let head = c.args.head.now in
    none_on (head ++ more) 1 (c.last_too_many.result + 1) c.next_fit.result (c.last_too_many.ensures.none more) (c.next_fit.ensures.none more)

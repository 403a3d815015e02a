use Rattle.std.proofs.Common.{refl, sym}
use Rattle.warc_checking.proofs.OwnFindingLemmas.{none_found_at, part_found_at, part_within}
use Rattle.warc_checking.proofs.finding_parts.part_at.Goals as goal

pub returns-then-position-ends-clause-is : goal.returns-then-position-ends-clause-is
returns-then-position-ends-clause-is c = λ findings.
    sym (none_found_at findings c.args.ends.now c.args.position c.if-position-ends.true)

pub returns-clause-is : goal.returns-clause-is
returns-clause-is c = λ findings.
    part_found_at findings c.args.ends.now c.args.position 0 _ c.if-position-ends.false c.end_before.ensures refl

pub returns-clause-within : goal.returns-clause-within
returns-clause-within c = λ count all.
    part_within count c.args.ends.now c.args.position 0 _ c.if-position-ends.false c.end_before.ensures refl all

use Rattle.warc_commands.specs.Named.{list_lines}
use Rattle.warc_commands.proofs.ListLemmas.{HasRead}
use Rattle.warc_commands.proofs.lists.read_list.Given as goal

abbrev pub invariant-reading : goal.invariant-reading
invariant-reading g l =
    (goal.iterator-reading g).can_next l.line-iterator
    × (goal.iterator-reading g).is_finite l.line-iterator
    × HasRead (list_lines l.fn.list) l.number l.positions.items l.line-iterator

use Rattle.std.proofs.Common.{rules, sym, ◌∙◌}
use Rattle.warc_commands.proofs.ListLemmas.{all_read, bad_at, named_next, passed_over}
use Rattle.warc_commands.proofs.lists.read_list.Goals as goal

pub reading-preserved-then-is_empty : goal.reading-preserved-then-is_empty
reading-preserved-then-is_empty g c = (tt, tt, passed_over c.reading.invariant.2 c.in-Some.ensures.steps (search rules))

pub returns-in_default : goal.returns-in_default
returns-in_default g c = bad_at c.reading.invariant.2 c.in-Some.ensures.steps (sym c.is_empty.ensures ∙ c.if-is_empty.false) (search rules)

pub reading-preserved : goal.reading-preserved
reading-preserved g c = (tt, tt, named_next c.in-Some-position_in.position c.reading.invariant.2 c.in-Some.ensures.steps (search rules) c.in-Ok.ensures.items)

pub returns : goal.returns
returns g c = all_read c.reading.invariant.2 c.in-None.ensures.steps.0

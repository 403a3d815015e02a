use Rattle.std.proofs.Common.{arith}
use Rattle.std.proofs.lemmas.Grind.{common_steps}
use Rattle.warc_value.proofs.DateLemmas.{has_length, length-matches}
use Rattle.warc_value.proofs.date.has_form_length.Goals as goal

pub returns-in-4-clause-value : goal.returns-in-4-clause-value
unfolding has_length
returns-in-4-clause-value c = rw (length-matches c.args.length) (grind (arith, common_steps))

pub returns-in-4-2-clause-value : goal.returns-in-4-2-clause-value
unfolding has_length
returns-in-4-2-clause-value c = rw (length-matches c.args.length) (grind (arith, common_steps))

pub returns-in_default-clause-value : goal.returns-in_default-clause-value
unfolding has_length
returns-in_default-clause-value c = rw (length-matches c.args.length) (grind (arith, common_steps))

pub returns-in_default-2-clause-value : goal.returns-in_default-2-clause-value
unfolding has_length
returns-in_default-2-clause-value c = rw (length-matches c.args.length) (grind (arith, common_steps))

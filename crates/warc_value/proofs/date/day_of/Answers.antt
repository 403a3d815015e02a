use Rattle.std.proofs.Common.{refl}
use Rattle.warc_value.proofs.DayLemmas.{day_of-some}
use Rattle.warc_value.proofs.date.day_of.Goals as goal

pub overflow_sub-result : goal.overflow_sub-result
overflow_sub-result c = (day_of-some c.args.date.now c.in_ok-days.days c.requires (c.in_ok-days.ensures.civil.0 refl) c.in_ok-days.ensures.value).0

pub returns : goal.returns
returns c = (day_of-some c.args.date.now c.in_ok-days.days c.requires (c.in_ok-days.ensures.civil.0 refl) c.in_ok-days.ensures.value).1

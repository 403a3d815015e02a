use Rattle.std.proofs.Common.{Some, ap, arith}
use Rattle.warc_answer.proofs.stored.stored_after.Goals as goal

pub returns : goal.returns
returns g c = λ bad fields bytes is. (
  record { head = is.0; front = is.2.front; head_len_is = is.2.head_len; status_is = ap Some is.2.status; coded_is = is.2.coded; texts = is.3 },
  c.any_truncated.ensures,
  omega (arith, c.saturating_sub.ensures, c.total.ensures),
)

use Rattle.std.proofs.Common.{arith}
use Rattle.std.proofs.lemmas.Bool.{leb-true}
use Rattle.warc_quick.proofs.DateLemmas.{plain_date}
use Rattle.warc_quick.proofs.dates.is_plain_date.Goals as goal

pub returns : goal.returns
returns c = λ early.
    plain_date c.args.text.now (omega (arith, c.if-text-ne20.false)) (λ k. (c.type_inv.text k).fits)
    (c.has_form.ensures (c.if-not-has_form.false)) (omega (arith, c.pair-month.ensures, c.if-month-le-ZEROS.false)) (omega (arith, c.pair-month.ensures, c.if-month.false)) (omega (arith, c.pair-day.ensures, c.if-day-le-ZEROS.false)) (omega (arith, c.pair-day.ensures, c.if-day.false)) (omega (arith, c.pair-hour.ensures, leb-true c.pair-hour.result 551 early))

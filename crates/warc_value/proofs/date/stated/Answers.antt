use Rattle.std.proofs.Common.{arith, refl, sym, lit<}
use Rattle.std.proofs.lemmas.Grind.{common_steps}
use Rattle.warc_value.proofs.DateLemmas.{has_places, by_place}
use Rattle.warc_value.proofs.date.stated.Goals as goal

pub slice_bounds-number-end : goal.slice_bounds-number-end
slice_bounds-number-end c = let places = has_places c.args.text.now c.if-not-has_form.ensures in grind (arith, common_steps, places.four)

pub number-requires-clause-digits : goal.number-requires-clause-digits
number-requires-clause-digits c = let places = has_places c.args.text.now c.if-not-has_form.ensures in places.year

pub nanosecond-requires-clause-few : goal.nanosecond-requires-clause-few
nanosecond-requires-clause-few c = let places = has_places c.args.text.now c.if-not-has_form.ensures in places.few

pub nanosecond-requires-clause-digits : goal.nanosecond-requires-clause-digits
nanosecond-requires-clause-digits c = let places = has_places c.args.text.now c.if-not-has_form.ensures in places.fraction

pub returns-clause-date : goal.returns-clause-date
unfolding by_place
returns-clause-date c =
    rw (c.number.ensures.value, c.two_digits.ensures, c.two_digits-2.ensures, c.two_digits-3.ensures, c.two_digits-4.ensures, c.two_digits-5.ensures, c.nanosecond.ensures)
    (sym (has_places c.args.text.now c.if-not-has_form.ensures).date)

pub two_digits-requires-clause-inside : goal.two_digits-requires-clause-inside
two_digits-requires-clause-inside c = λ below. ((has_places c.args.text.now c.if-not-has_form.ensures).two 5 refl (lit< tt) below).0

pub two_digits-requires-clause-digits : goal.two_digits-requires-clause-digits
two_digits-requires-clause-digits c = λ below. ((has_places c.args.text.now c.if-not-has_form.ensures).two 5 refl (lit< tt) below).1

pub two_digits-requires-2-clause-inside : goal.two_digits-requires-2-clause-inside
two_digits-requires-2-clause-inside c = λ below. ((has_places c.args.text.now c.if-not-has_form.ensures).two 8 refl (lit< tt) below).0

pub two_digits-requires-2-clause-digits : goal.two_digits-requires-2-clause-digits
two_digits-requires-2-clause-digits c = λ below. ((has_places c.args.text.now c.if-not-has_form.ensures).two 8 refl (lit< tt) below).1

pub two_digits-requires-3-clause-inside : goal.two_digits-requires-3-clause-inside
two_digits-requires-3-clause-inside c = λ below. ((has_places c.args.text.now c.if-not-has_form.ensures).two 11 refl (lit< tt) below).0

pub two_digits-requires-3-clause-digits : goal.two_digits-requires-3-clause-digits
two_digits-requires-3-clause-digits c = λ below. ((has_places c.args.text.now c.if-not-has_form.ensures).two 11 refl (lit< tt) below).1

pub two_digits-requires-4-clause-inside : goal.two_digits-requires-4-clause-inside
two_digits-requires-4-clause-inside c = λ below. ((has_places c.args.text.now c.if-not-has_form.ensures).two 14 refl (lit< tt) below).0

pub two_digits-requires-4-clause-digits : goal.two_digits-requires-4-clause-digits
two_digits-requires-4-clause-digits c = λ below. ((has_places c.args.text.now c.if-not-has_form.ensures).two 14 refl (lit< tt) below).1

pub two_digits-requires-5-clause-inside : goal.two_digits-requires-5-clause-inside
two_digits-requires-5-clause-inside c = λ below. ((has_places c.args.text.now c.if-not-has_form.ensures).two 17 refl (lit< tt) below).0

pub two_digits-requires-5-clause-digits : goal.two_digits-requires-5-clause-digits
two_digits-requires-5-clause-digits c = λ below. ((has_places c.args.text.now c.if-not-has_form.ensures).two 17 refl (lit< tt) below).1

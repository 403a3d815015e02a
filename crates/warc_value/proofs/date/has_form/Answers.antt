use Rattle.std.proofs.Common.{sym, ◌∙◌}
use Rattle.warc_value.proofs.DateLemmas.{length-matches, has_form-length, short-fits, long-fits}
use Rattle.warc_value.proofs.date.has_form.Goals as goal

pub returns-then-not-has_form_length : goal.returns-then-not-has_form_length
returns-then-not-has_form_length c = has_form-length c.args.text.now (sym (length-matches _) ∙ sym c.has_form_length.ensures.value ∙ c.if-not-has_form_length.true)

pub returns-then-text-le10 : goal.returns-then-text-le10
returns-then-text-le10 c =
    c.fit_places.ensures ∙ short-fits c.args.text.now (sym (length-matches _) ∙ sym c.has_form_length.ensures.value ∙ c.if-not-has_form_length.false) c.if-text-le10.true

pub returns-then-fit_places : goal.returns-then-fit_places
returns-then-fit_places c =
    let all = long-fits c.args.text.now (sym (length-matches _) ∙ sym c.has_form_length.ensures.value ∙ c.if-not-has_form_length.false) c.if-text-le10.false in
    rw (sym c.fit_places-2.ensures ∙ c.if-fit_places.true) at all

pub returns-else-fit_places : goal.returns-else-fit_places
returns-else-fit_places c =
    let all = long-fits c.args.text.now (sym (length-matches _) ∙ sym c.has_form_length.ensures.value ∙ c.if-not-has_form_length.false) c.if-text-le10.false in
    c.if-fit_places.false ∙ (rw (sym c.fit_places-2.ensures ∙ c.if-fit_places.false) at all)

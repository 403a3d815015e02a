use Rattle.std.proofs.Common.{◌==◌, length, not, sym, ap, ◌∙◌}
use Rattle.std.proofs.lemmas.Bool.{and_parts}
use Rattle.warc_record.specs.Ids.{bare_text}
use Rattle.warc_quick.proofs.HeadLemmas.{says}
use Rattle.warc_quick.proofs.head.good_head.Goals as goal

pub returns-clause-says : goal.returns-clause-says
returns-clause-says c = λ fields fit are.
    says fields _ c.in_ok-first.field-0 fit
    (c.in_ok-first.ensures fields are) (sym c.in_ok-block_len.ensures.value)
    (c.in_ok-kind.ensures fields are) (sym c.is_name.ensures ∙ c.if-not-is_name.false)
    (c.in_ok-id.ensures fields are) (sym c.holds_id.ensures ∙ c.if-not-holds_id.false)
    (c.in_ok-date.ensures fields are) (sym c.holds_date.ensures ∙ c.if-not-holds_date.false)
    (c.bare.ensures ∙ ap bare_text (c.value_of.ensures fields are))
    (c.value_of-3.ensures fields are)
    (ap not (c.is_empty.ensures ∙ ap (λ text. length text == 0) (c.value_of-2.ensures fields are))) (c.value_of-4.ensures fields are)
    (λ alone.
    let both = and_parts _ _ alone in
    record { reference = c.names_nothing.ensures fields are both.0; segment = c.has_no_segment.ensures fields are both.1 })
    tt

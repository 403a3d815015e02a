use Rattle.std.proofs.Common.{sym, ◌∙◌}
use Rattle.warc_frame.proofs.EffectLemmas.{fails_more}
use Rattle.warc_answer.proofs.GiveLemmas.{blocks_lie, places_lie}
use Rattle.warc_answer.proofs.StoredLemmas.{judged_of}
use Rattle.warc_answer.proofs.stored.find_stored.Goals as goal

pub returns-then-http-clause-judged : goal.returns-then-http-clause-judged
returns-then-http-clause-judged g c = λ bytes held content joined is says own.
    judged_of c.joined_has_total.ensures bytes is.records is.found is.path content joined c.args.places.now _ _ is.short is.leads is.places_are
    (sym c.if-http.true ∙ says)
    (c.find_stored_http.ensures.seen bytes held content.fields (places_lie bytes c.args.places.now joined is.short is.places_are))

pub returns-else-http-clause-judged : goal.returns-else-http-clause-judged
returns-else-http-clause-judged g c = λ bytes held content joined is says own.
    judged_of c.joined_has_total.ensures bytes is.records is.found is.path content joined c.args.places.now _ _ is.short is.leads is.places_are
    (sym c.if-http.false ∙ says)
    (c.find_stored_other.ensures.seen bytes held content.fields (places_lie bytes c.args.places.now joined is.short is.places_are) own)

pub returns-else-http-clause-fails : goal.returns-else-http-clause-fails
returns-else-http-clause-fails g c =
    fails_more (λ bytes held are. blocks_lie bytes c.args.places.now are) c.find_stored_other.ensures.fails

pub returns-then-http-clause-fails : goal.returns-then-http-clause-fails
returns-then-http-clause-fails g c =
    fails_more (λ bytes held are. blocks_lie bytes c.args.places.now are) c.find_stored_http.ensures.fails

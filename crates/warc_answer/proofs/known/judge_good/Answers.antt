use Rattle.std.proofs.Common.{sym, ◌∙◌}
use Rattle.warc_frame.proofs.EffectLemmas.{fails_more}
use Rattle.warc_answer.proofs.GiveLemmas.{blocks_lie, places_bad, places_lie}
use Rattle.warc_answer.proofs.StoredLemmas.{judged_of, said_seen}
use Rattle.warc_answer.proofs.known.judge_good.Goals as goal

pub returns-then-http-clause-judged : goal.returns-then-http-clause-judged
returns-then-http-clause-judged g c = λ bytes held content joined is says own none.
    let places = c.args.places.now in
    judged_of c.joined_has_total.ensures bytes is.records is.found is.path content joined places _ _ is.short is.leads is.places_are
    (sym c.if-http.true ∙ says)
    (c.find_stored_http.ensures.seen bytes held content.fields (places_lie bytes places joined is.short is.places_are) (places_bad bytes places joined is.places_are ∙ none))

pub returns-else-http-clause-judged : goal.returns-else-http-clause-judged
returns-else-http-clause-judged g c = λ bytes held content joined is says own none.
    let places = c.args.places.now in
    judged_of c.joined_has_total.ensures bytes is.records is.found is.path content joined places _ _ is.short is.leads is.places_are
    (sym c.if-http.false ∙ says)
    (said_seen bytes content.fields places c.all_of.result (places_bad bytes places joined is.places_are ∙ none) (c.all_of.ensures.seen bytes content.fields own) c.all_of.ensures.memory)

pub returns-then-http-clause-fails : goal.returns-then-http-clause-fails
returns-then-http-clause-fails g c =
    fails_more (λ bytes held are. blocks_lie bytes c.args.places.now are) c.find_stored_http.ensures.fails

use Rattle.std.proofs.Common.{drop, subst, sym, take, ◌∙◌}
use Rattle.warc_frame.proofs.EffectLemmas.{fails_more}
use Rattle.warc_answer.specs.Known.{Agrees}
use Rattle.warc_answer.proofs.GiveLemmas.{blocks_lie, places_bad, places_lie}
use Rattle.warc_answer.proofs.SplitLemmas.{after_of, own_of}
use Rattle.warc_answer.proofs.StoredLemmas.{judged_of}
use Rattle.warc_answer.proofs.split.judge_own.Goals as goal

pub returns-clause-judged : goal.returns-clause-judged
returns-clause-judged g c = λ bytes held content joined is says own extent none agrees.
    let places = c.args.places.now in
    judged_of c.joined_has_total.ensures bytes is.records is.found is.path content joined places _ _ is.short is.leads is.places_are says
    (c.seen_split.ensures.seen bytes held content.fields (places_lie bytes places joined is.short is.places_are) own extent
    (places_bad bytes (drop 1 places) (drop 1 joined) (after_of bytes places joined is.places_are) ∙ none)
    (subst (Agrees c.args.known) (sym (places_bad bytes (take 1 places) (take 1 joined) (own_of bytes places joined is.places_are))) agrees))

pub returns-clause-fails : goal.returns-clause-fails
returns-clause-fails g c = fails_more (λ bytes held are. blocks_lie bytes c.args.places.now are) c.seen_split.ensures.fails

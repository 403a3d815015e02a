use Rattle.warc_frame.proofs.EffectLemmas.{fails_more}
use Rattle.warc_answer.proofs.GiveLemmas.{blocks_lie, places_lie}
use Rattle.warc_answer.proofs.HashedLemmas.{digest_by_records, ok_more}
use Rattle.warc_answer.proofs.hashed.digest_joined.Goals as goal

pub returns-clause-digest : goal.returns-clause-digest
returns-clause-digest g c = λ bytes held content joined is says.
    let places = c.args.places.now in
    ok_more _ (λ digest in_. digest_by_records bytes content joined places _ c.args.algorithm digest is.places_are
    says in_)
    (c.digest_payload.ensures.digest bytes held (places_lie bytes places joined is.short is.places_are))

pub returns-clause-fails : goal.returns-clause-fails
returns-clause-fails g c = fails_more (λ bytes held are. blocks_lie bytes c.args.places.now are) c.digest_payload.ensures.fails

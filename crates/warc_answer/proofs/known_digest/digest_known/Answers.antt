use Rattle.std.proofs.Common.{sym, subst}
use Rattle.warc_fixity.specs.Judged.{digest_seen}
use Rattle.warc_frame.proofs.EffectLemmas.{fails_more}
use Rattle.warc_answer.specs.Known.{Agrees, IsDigestOfAny}
use Rattle.warc_answer.proofs.GiveLemmas.{blocks_lie, places_bad, places_lie, places_text}
use Rattle.warc_answer.proofs.HashedLemmas.{digest_by_records, ok_more}
use Rattle.warc_answer.proofs.known_digest.digest_known.Goals as goal

pub returns-clause-digest : goal.returns-clause-digest
returns-clause-digest g c = λ bytes held content joined is says agrees of.
    let places = c.args.places.now in
    ok_more _ (λ digest in_. digest_by_records bytes content joined places _ (digest_seen c.args.digest).0 digest is.places_are says in_)
    (c.known_payload.ensures.digest bytes held (places_lie bytes places joined is.short is.places_are)
    (subst (Agrees c.args.known) (sym (places_bad bytes places joined is.places_are)) agrees)
    (subst (λ t. IsDigestOfAny c.args.http t c.args.digest) (sym (places_text bytes places joined is.places_are)) of))

pub returns-clause-fails : goal.returns-clause-fails
returns-clause-fails g c = fails_more (λ bytes held are. blocks_lie bytes c.args.places.now are) c.known_payload.ensures.fails

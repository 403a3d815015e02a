use Rattle.warc_frame.proofs.EffectLemmas.{fails_more}
use Rattle.warc_answer.proofs.HashedLemmas.{digest_of_own, ok_more, one_lies, reads_one}
use Rattle.warc_answer.proofs.hashed.digest_own.Goals as goal

pub returns-clause-digest : goal.returns-clause-digest
returns-clause-digest g c = λ bytes held has.
    ok_more _ (λ digest in_. digest_of_own bytes c.args.start c.args.len _ _ c.args.algorithm digest c.is_http_response.ensures in_)
    (c.digest_payload.ensures.digest bytes held (one_lies bytes c.args.start c.args.len has))

pub returns-clause-reads : goal.returns-clause-reads
returns-clause-reads g c = reads_one c.args.start c.args.len c.digest_payload.ensures.reads

pub returns-clause-fails : goal.returns-clause-fails
returns-clause-fails g c = fails_more (λ bytes held has. one_lies bytes c.args.start c.args.len has) c.digest_payload.ensures.fails

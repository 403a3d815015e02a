use Rattle.std.proofs.Common.{sym, ◌∙◌}
use Rattle.warc_answer.specs.Places.{text_at}
use Rattle.warc_answer.proofs.KnownDigestLemmas.{whole_known}
use Rattle.warc_answer.proofs.known_digest.known_whole.Goals as goal

pub returns-clause-digest : goal.returns-clause-digest
returns-clause-digest g c = λ bytes held lie agrees of.
    whole_known _ (text_at c.args.places.now bytes) c.args.digest (sym (c.in_ok-any_bad_by.ensures.judged bytes held lie agrees) ∙ c.if-branch.false) of

use Rattle.std.proofs.Common.{false, sym, ◌∙◌}
use Rattle.warc_frame.proofs.EffectLemmas.{reads_both}
use Rattle.warc_answer.specs.Places.{len_of, text_at}
use Rattle.warc_answer.proofs.JudgeLemmas.{reads_once}
use Rattle.warc_answer.proofs.PlaceLemmas.{read_no_more}
use Rattle.warc_answer.proofs.HashedLemmas.{once_less, whole_digest}
use Rattle.warc_answer.proofs.hashed.digest_whole.Goals as goal

pub returns-clause-digest : goal.returns-clause-digest
returns-clause-digest g c = λ bytes held lie.
    whole_digest _ (text_at c.args.places.now bytes) c.args.algorithm c.in_ok-digest.digest
    (sym (c.in_ok-any_bad.ensures.judged bytes held lie) ∙ c.if-branch.false)
    (c.in_ok-digest.ensures.digest bytes (c.in_ok-any_bad.ensures.reads.kept ∙ held) lie)

pub returns-clause-reads : goal.returns-clause-reads
returns-clause-reads g c = reads_both (reads_once false c.args.places.now c.in_ok-any_bad.ensures.reads) c.in_ok-digest.ensures.reads

pub returns-in_err-digest-clause-reads : goal.returns-in_err-digest-clause-reads
returns-in_err-digest-clause-reads g c = reads_both (reads_once false c.args.places.now c.in_ok-any_bad.ensures.reads) c.in_err-digest.ensures.reads

pub returns-then-branch-clause-reads : goal.returns-then-branch-clause-reads
returns-then-branch-clause-reads g c =
    read_no_more c.args.places.now _ _ _ _ (once_less (len_of c.args.places.now)) (reads_once false c.args.places.now c.in_ok-any_bad.ensures.reads)

pub returns-in_err-any_bad-clause-reads : goal.returns-in_err-any_bad-clause-reads
returns-in_err-any_bad-clause-reads g c =
    read_no_more c.args.places.now _ _ _ _ (once_less (len_of c.args.places.now)) (reads_once false c.args.places.now c.in_err-any_bad.ensures.reads)

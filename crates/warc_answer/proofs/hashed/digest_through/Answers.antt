use Rattle.std.proofs.Common.{ℕ, ◌≤◌, List, length, ◌∙◌}
use Rattle.warc_frame.proofs.EffectLemmas.{reads_both}
use Rattle.warc_answer.specs.Places.{text_at}
use Rattle.warc_answer.proofs.GiveLemmas.{front_is, some_front, info_at, none_at}
use Rattle.warc_answer.proofs.HashedLemmas.{after_digest, after_head, head_taken, no_head_digest, some_within}
use Rattle.warc_answer.proofs.hashed.digest_through.Goals as goal

pub returns-in-Err-clause-digest : goal.returns-in-Err-clause-digest
returns-in-Err-clause-digest g c = λ bytes held lie.
    let text : List ℕ = text_at c.args.places.now bytes in
    let judged = some_front _ _ _ _ _ c.in-Some.is (c.in_ok-n.ensures.judged bytes held lie) in
    let same = front_is bytes c.args.places.now c.judge_blocks.new.front c.in-Some.n (length c.args.front.now) lie c.requires judged.1 in
    no_head_digest _ text c.args.algorithm judged.0 (c.front_has_no_head.ensures text (none_at _ text same c.in-Err.ensures.none))

pub returns-clause-digest : goal.returns-clause-digest
returns-clause-digest g c = λ bytes held lie.
    let text : List ℕ = text_at c.args.places.now bytes in
    let front : List ℕ = c.judge_blocks.new.front in
    let n : ℕ = c.in-Some.n in
    let within : n ≤ length front = some_within _ _ _ c.in-Some.is c.in_ok-n.ensures.within in
    let judged = some_front _ _ _ _ _ c.in-Some.is (c.in_ok-n.ensures.judged bytes held lie) in
    let same = front_is bytes c.args.places.now front n (length c.args.front.now) lie c.requires judged.1 in
    let info = c.in-Ok.info in
    let found = c.in-Ok.ensures.found in
    let is = c.front_has_head.ensures text info found.0 (info_at _ text info found.0 same found.1) in
    after_digest _ text _ info found.0 c.args.algorithm c.in_ok-digest.digest judged.0 is
    (after_head text front n info.head_len within same (head_taken front n info found.0 within found.1))
    (c.in_ok-digest.ensures.digest bytes (c.in_ok-n.ensures.reads.kept ∙ held) lie)

pub returns-clause-reads : goal.returns-clause-reads
returns-clause-reads g c = reads_both c.in_ok-n.ensures.reads c.in_ok-digest.ensures.reads

pub returns-in_err-digest-clause-reads : goal.returns-in_err-digest-clause-reads
returns-in_err-digest-clause-reads g c = reads_both c.in_ok-n.ensures.reads c.in_err-digest.ensures.reads

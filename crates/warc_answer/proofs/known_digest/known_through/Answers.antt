use Rattle.std.proofs.Common.{ℕ, List, length}
use Rattle.warc_answer.specs.Places.{text_at}
use Rattle.warc_answer.proofs.GiveLemmas.{front_is, info_at, none_at, some_front}
use Rattle.warc_answer.proofs.HashedLemmas.{no_head_digest}
use Rattle.warc_answer.proofs.KnownDigestLemmas.{after_known}
use Rattle.warc_fixity.specs.Judged.{digest_seen}
use Rattle.warc_answer.proofs.known_digest.known_through.Goals as goal

pub returns-in-Err-clause-digest : goal.returns-in-Err-clause-digest
returns-in-Err-clause-digest g c = λ bytes held lie agrees is.
    let text : List ℕ = text_at c.args.places.now bytes in
    let judged = some_front _ _ _ _ _ c.in-Some.is (c.in_ok-n.ensures.judged bytes held lie agrees) in
    let same = front_is bytes c.args.places.now c.front_by.new.front c.in-Some.n (length c.args.front.now) lie c.requires judged.1 in
    no_head_digest _ text (digest_seen c.args.digest).0 judged.0 (c.front_has_no_head.ensures text (none_at _ text same c.in-Err.ensures.none))

pub returns-in-Ok-clause-digest : goal.returns-in-Ok-clause-digest
returns-in-Ok-clause-digest g c = λ bytes held lie agrees is.
    let text : List ℕ = text_at c.args.places.now bytes in
    let judged = some_front _ _ _ _ _ c.in-Some.is (c.in_ok-n.ensures.judged bytes held lie agrees) in
    let same = front_is bytes c.args.places.now c.front_by.new.front c.in-Some.n (length c.args.front.now) lie c.requires judged.1 in
    let info = c.in-Ok.info in
    let found = c.in-Ok.ensures.found in
    after_known _ text info found.0 c.args.digest judged.0 (c.front_has_head.ensures text info found.0 (info_at _ text info found.0 same found.1)) is

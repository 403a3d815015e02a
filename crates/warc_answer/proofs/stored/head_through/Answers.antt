use Rattle.std.proofs.Common.{ℕ, List, length}
use Rattle.warc_answer.specs.Places.{text_at}
use Rattle.warc_answer.proofs.GiveLemmas.{front_is, some_front, info_at, none_at}
use Rattle.warc_answer.proofs.stored.head_through.Goals as goal

pub returns-in-Ok-clause-begins : goal.returns-in-Ok-clause-begins
returns-in-Ok-clause-begins g c = λ bytes held lie.
    let text : List ℕ = text_at c.args.places.now bytes in
    let judged = some_front _ _ _ _ _ c.in-Ok-Some.field-0-is (c.in-Ok-Some.ensures.judged bytes held lie) in
    let same = front_is bytes c.args.places.now c.judge_blocks.new.front c.in-Ok-Some.n (length c.args.front.now) lie c.requires judged.1 in
    let found = c.in-Ok.ensures.found in
    (found.0, judged.0, c.front_has_head.ensures text c.in-Ok.head.info found.0 (info_at _ text _ found.0 same found.1), found.2)

pub returns-in-Err-Bad-clause-begins : goal.returns-in-Err-Bad-clause-begins
returns-in-Err-Bad-clause-begins g c = λ bytes held lie.
    let text : List ℕ = text_at c.args.places.now bytes in
    let judged = some_front _ _ _ _ _ c.in-Ok-Some.field-0-is (c.in-Ok-Some.ensures.judged bytes held lie) in
    let same = front_is bytes c.args.places.now c.judge_blocks.new.front c.in-Ok-Some.n (length c.args.front.now) lie c.requires judged.1 in
    (judged.0, c.front_has_no_head.ensures text (none_at _ text same (c.in-Err-Bad.ensures.none c.in-Err-Bad.field-0-is)))

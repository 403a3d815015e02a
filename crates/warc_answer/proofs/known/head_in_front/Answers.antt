use Rattle.std.proofs.Common.{List, ℕ, length, refl}
use Rattle.warc_answer.specs.Places.{text_at}
use Rattle.warc_answer.proofs.GiveLemmas.{front_is, none_at}
use Rattle.warc_answer.proofs.KnownLemmas.{head_of_front}
use Rattle.warc_answer.proofs.known.head_in_front.Goals as goal

pub returns-in-Ok-read_head-clause-found : goal.returns-in-Ok-read_head-clause-found
returns-in-Ok-read_head-clause-found g c = λ bytes held lie.
    let found = c.in-Ok-read_head.ensures.found in
    (found.0, refl, head_of_front (length c.args.front.now) (text_at c.args.places.now bytes) _ c.in-Ok-read_head.head.info found.0 (c.in-Ok.ensures.front bytes held lie) found.1, found.2)

pub returns-in-Ok-read_head-clause-whole : goal.returns-in-Ok-read_head-clause-whole
returns-in-Ok-read_head-clause-whole g c = λ room bytes held lie.
    let found = c.in-Ok-read_head.ensures.found in
    (found.0, refl, head_of_front (length c.args.front.now) (text_at c.args.places.now bytes) _ c.in-Ok-read_head.head.info found.0 (c.in-Ok.ensures.front bytes held lie) found.1, found.2)

pub returns-in-Err-Bad-clause-whole : goal.returns-in-Err-Bad-clause-whole
returns-in-Err-Bad-clause-whole g c = λ room bytes held lie.
    let text : List ℕ = text_at c.args.places.now bytes in
    let same = front_is bytes c.args.places.now c.read_front.new.front c.in-Ok.n (length c.args.front.now) lie room (c.in-Ok.ensures.front bytes held lie) in
    (refl, c.front_has_no_head.ensures text (none_at _ text same (c.in-Err-Bad.ensures.none c.in-Err-Bad.field-0-is)))

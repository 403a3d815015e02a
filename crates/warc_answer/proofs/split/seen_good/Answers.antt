use Rattle.std.proofs.Common.{Bool, subst, sym}
use Rattle.warc_answer.specs.Judging.{IsSeenIn}
use Rattle.warc_answer.proofs.StoredLemmas.{said_seen}
use Rattle.warc_answer.proofs.split.seen_good.Goals as goal

pub returns-then-http-clause-seen : goal.returns-then-http-clause-seen
returns-then-http-clause-seen g c = λ bytes held fields lie own none.
    subst (λ (b : Bool). IsSeenIn b fields bytes c.args.places.now c.find_stored_http.result) (sym c.if-http.true)
    (c.find_stored_http.ensures.seen bytes held fields lie none)

pub returns-else-http-clause-seen : goal.returns-else-http-clause-seen
returns-else-http-clause-seen g c = λ bytes held fields lie own none.
    subst (λ (b : Bool). IsSeenIn b fields bytes c.args.places.now c.all_of.result) (sym c.if-http.false)
    (said_seen bytes fields c.args.places.now c.all_of.result none (c.all_of.ensures.seen bytes fields own) c.all_of.ensures.memory)

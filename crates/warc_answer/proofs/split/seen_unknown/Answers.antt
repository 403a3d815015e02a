use Rattle.std.proofs.Common.{Bool, subst, sym}
use Rattle.warc_answer.specs.Judging.{IsSeenIn}
use Rattle.warc_answer.proofs.split.seen_unknown.Goals as goal

pub returns-then-http-clause-seen : goal.returns-then-http-clause-seen
returns-then-http-clause-seen g c = λ bytes held fields lie own.
    subst (λ (b : Bool). IsSeenIn b fields bytes c.args.places.now c.find_stored_http.result) (sym c.if-http.true)
    (c.find_stored_http.ensures.seen bytes held fields lie)

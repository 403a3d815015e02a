use Rattle.std.proofs.Common.{rules, ◌≡◌, ◌++◌, length, refl, subst}
use Rattle.warc_field.specs.Lines.{crlf}
use Rattle.warc_lent.specs.Buffers.{HoldsFront}
use Rattle.warc_lent.proofs.PortionLemmas.{portion_put}
use Rattle.warc_lent.proofs.portions.put_portion.Goals as goal

pub returns-clause-put : goal.returns-clause-put
returns-clause-put g c = λ lent bytes of.
    let front = subst (λ l. HoldsFront (l ++ (crlf ++ crlf)) c.put_ends.new.out) c.deref.ensures.value c.put_ends.ensures.front in
    let before : c.len.result ≡ length c.args.portion.now.head.items = search rules in
    portion_put c.args.portion.now lent bytes _ c.put_ends.new.out before refl refl refl front of

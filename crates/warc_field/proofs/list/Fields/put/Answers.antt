use Rattle.std.proofs.Common.{ap, arith, length}
use Rattle.warc_field.proofs.FieldLemmas.{put_after, set_field}
use Rattle.warc_field.proofs.list.Fields.put.Goals as goal

pub invariant_of-self : goal.invariant_of-self
invariant_of-self g c = set_field _ _ _ c.self.invariant c.set_pair.ensures.field

pub returns-clause-front : goal.returns-clause-front
returns-clause-front g c = rw (c.in_ok-push.ensures.ok, c.in_ok-name.ensures.value, c.in_ok-value.ensures.value)
    (put_after _ _ _ (omega (arith, c.if-place-len.false, c.len.ensures, c.self.inside.pairs.ok.0, ap length c.self.view_is)) c.requires.place)

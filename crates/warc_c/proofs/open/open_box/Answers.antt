use Rattle.std.proofs.Common.{ap, inr, refl, subst, sym, Some}
use Rattle.warc_lent.proofs.TextLemmas.{refused_for}
use Rattle.warc_lookup.specs.Indexed.{IsIndexed}
use Rattle.warc_c.proofs.open.open_box.Goals as goal

pub returns-in-Err-clause-refused : goal.returns-in-Err-clause-refused
returns-in-Err-clause-refused c =
    inr (
      c.in-Err.fault,
      refl,
      refused_for c.in-Err.fault.kind c.args.bytes.now _ _ c.in-Err.fault c.in-Err.ensures.reads.cause
          (c.in-Err.ensures.refused c.args.bytes.now (ap Some c.new.ensures.bytes)),
    )

pub returns-in-Ok-new-clause-opened : goal.returns-in-Ok-new-clause-opened
returns-in-Ok-new-clause-opened c =
    subst (λ a. IsIndexed c.args.bytes.now a) (sym c.in-Ok-new.ensures.ok)
    (c.in-Ok.ensures.accepted c.args.bytes.now (ap Some c.new.ensures.bytes))

use Rattle.std.proofs.Common.{◌∙◌, ap, inr, refl, sym, Some}
use Rattle.warc_lent.proofs.TextLemmas.{not_read, refused_from}
use Rattle.warc_lent.proofs.growth.grow_lent.Goals as goal

pub returns-in-Ok-clause-grown : goal.returns-in-Ok-clause-grown
returns-in-Ok-clause-grown g c = λ more joined is.
    let held = ap Some c.new.ensures.bytes in
    let opens = c.in-Ok.ensures.grows.whole c.args.old.now more is (held ∙ ap Some joined) in
    opens.accepted c.args.new.now held

pub returns-in-Err-clause-refused : goal.returns-in-Err-clause-refused
returns-in-Err-clause-refused g c =
    inr (
      c.in-Err.fault,
      refl,
      not_read c.in-Err.fault.kind c.in-Err.ensures.grows.reads.cause,
      sym c.begins_alike.ensures ∙ c.if-not-begins_alike.false,
    )

pub returns-in-Err-clause-whole : goal.returns-in-Err-clause-whole
returns-in-Err-clause-whole g c = λ more joined is.
    let held = ap Some c.new.ensures.bytes in
    let opens = c.in-Err.ensures.grows.whole c.args.old.now more is (held ∙ ap Some joined) in
    let why = refused_from _ c.in-Err.fault.kind c.args.new.now _ _ c.in-Err.fault opens.reads.cause (opens.refused c.args.new.now held) in
    inr (inr (c.in-Err.fault, refl, why))

use Rattle.std.proofs.Common.{◌∙◌, ap, sym, subst, Some}
use Rattle.warc_order.specs.Entries.{Entry, entry_at, IsFirst, IsNone, IsFrom}
use Rattle.warc_order.specs.declared.mark.Mark.{Mark}
use Rattle.warc_index.specs.Links.{first_mark}
use Rattle.warc_index.specs.Orders.{entries_from, id_entry}
use Rattle.warc_index.proofs.KeptLemmas.{first_key, other_key, no_key}
use Rattle.warc_index.proofs.lookup.capture_with.Goals as goal

pub returns-in-Some : goal.returns-in-Some
returns-in-Some g c all held =
    let e : Entry = entry_at c.args.by_id.now c.in-Some.found.index in
    let first : IsFirst (entries_from id_entry 0 all) (IsFrom c.args.key.now first_mark) e =
    subst (λ es. IsFirst es (IsFrom c.args.key.now first_mark) e) held c.in-Some.ensures.some in
    ap Some c.position.ensures ∙ sym (first_key all c.args.key.now e first (sym (ap (λ (m : Mark). m.major)
    c.mark.ensures) ∙ c.if-mark-eq0.true))

pub returns-in_default : goal.returns-in_default
returns-in_default g c all held =
    let e : Entry = entry_at c.args.by_id.now c.in-Some.found.index in
    let first : IsFirst (entries_from id_entry 0 all) (IsFrom c.args.key.now first_mark) e =
    subst (λ es. IsFirst es (IsFrom c.args.key.now first_mark) e) held c.in-Some.ensures.some in
    sym (other_key all c.args.key.now e first (λ z. c.if-mark-eq0.false (ap (λ (m : Mark). m.major) c.mark.ensures
    ∙ z)))

pub returns-in_default-2 : goal.returns-in_default-2
returns-in_default-2 g c all held =
    sym (no_key all c.args.key.now (subst (λ es. IsNone es (IsFrom c.args.key.now first_mark)) held
    c.in_default.ensures.none))

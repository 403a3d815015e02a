use Rattle.std.proofs.Common.{List, ℕ, ◌≡◌, subst, sym, take}
use Rattle.warc_rewrite.specs.Copied.{IsTextAfter, text_by}
use Rattle.warc_rewrite.specs.declared.output.Replacement.{Replacement}
use Rattle.warc_reading.specs.Rereading.{IsHeadText}
use Rattle.warc_reading.specs.Row.{Row}
use Rattle.warc_rewrite.proofs.EmitLemmas.{given}
use Rattle.warc_rewrite.proofs.output.put_by_head.Goals as goal

in_manner : {replacement other : Replacement} (row : Row) (head bytes text : List ℕ) → replacement ≡ other
    → IsTextAfter (text_by replacement) row head bytes text → IsTextAfter (text_by other) row head bytes text
in_manner {replacement} {other} row head bytes text same is =
    let P : Replacement → Type 0 = λ m. IsTextAfter (text_by m) row head bytes text in subst P same is

pub returns-in-As-clause-emits : goal.returns-in-As-clause-emits
returns-in-As-clause-emits g c =
    given c.put_as.ensures.emits
    (λ bytes text held says.
    let head = take c.args.len c.args.scratch.now in
    let (is, reads) = in_manner c.args.row.now head bytes text c.in-As.is says in
    let P : Row → Type 0 = λ r. IsHeadText is.placed.content r head in
    (is, c.in-Ok.ensures.is is.placed.content (subst P (sym c.row.view_is) reads)))

pub returns-in-Split-clause-emits : goal.returns-in-Split-clause-emits
returns-in-Split-clause-emits g c =
    given c.put_split.ensures.emits
    (λ bytes text held says.
    let head = take c.args.len c.args.scratch.now in
    let (is, reads) = in_manner c.args.row.now head bytes text c.in-Split.is says in
    let P : Row → Type 0 = λ r. IsHeadText is.placed.content r head in
    (is, c.in-Ok.ensures.is is.placed.content (subst P (sym c.row.view_is) reads)))

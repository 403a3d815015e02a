use Rattle.std.proofs.Common.{◌≡◌, ℕ, List, subst, sym, ◌∙◌}
use Rattle.warc_reading.specs.Archive.{IsArchiveOf}
use Rattle.warc_reading.specs.Row.{Row}
use Rattle.warc_rewrite.specs.Selecting.{selected_text}
use Rattle.example_library.proofs.ShareLemmas.{is_shared, share_unopened}
use Rattle.example_library.proofs.share.share.Goals as goal

pub returns-in-Ok-opened-clause-shared : goal.returns-in-Ok-opened-clause-shared
returns-in-Ok-opened-clause-shared g c = λ bytes held is.
    let rows = c.args.archive.now.listing.rows in
    let closed = c.in-Ok.closed.items in
    let text = c.in-Ok-selection.text.items in
    let closes = c.in-Ok.ensures.closes in
    let same = c.in-Ok.ensures.unchanged.0 in
    let R : List Row → Type 0 = λ rs. IsArchiveOf bytes rs in
    let T : List Row → Type 0 = λ rs. text ≡ selected_text rs c.deref.result.now bytes in
    let P : List ℕ → Type 0 = λ ps. text ≡ selected_text rows ps bytes in
    let written = subst P c.deref.ensures.value (subst T same (c.in-Ok-selection.ensures.text bytes (closes.reads.kept ∙ held) (subst R (sym same) is.listed))) in
    is_shared c.closed_selections_keep_answers.ensures.outcomes c.closed_selections_keep_answers.ensures.answers c.closed_selections_are_closed.ensures.needed
    c.selection_is_an_archive.ensures.records bytes rows is.listed c.args.positions.now closed text c.in-Ok-opened.shared (closes.reported bytes held is.listed is.kept) written
    c.in-Ok-opened.ensures.bytes c.in-Ok-opened.ensures.opened

pub returns-clause-refused : goal.returns-clause-refused
returns-clause-refused g c = λ bytes held is.
    let rows = c.args.archive.now.listing.rows in
    let closed = c.in-Ok.closed.items in
    let text = c.in-Ok-selection.text.items in
    let closes = c.in-Ok.ensures.closes in
    let same = c.in-Ok.ensures.unchanged.0 in
    let R : List Row → Type 0 = λ rs. IsArchiveOf bytes rs in
    let T : List Row → Type 0 = λ rs. text ≡ selected_text rs c.deref.result.now bytes in
    let P : List ℕ → Type 0 = λ ps. text ≡ selected_text rows ps bytes in
    let written = subst P c.deref.ensures.value (subst T same (c.in-Ok-selection.ensures.text bytes (closes.reads.kept ∙ held) (subst R (sym same) is.listed))) in
    share_unopened c.selection_is_an_archive.ensures.archive c.records_are_spelled.ensures.spelled c.no_fault_where_spelled.ensures.not_both bytes text rows closed
    c.in-Err-opened.fault is.listed closes.are written c.in-Err-opened.ensures.refused

use Rattle.std.proofs.Common.{◌≡◌, ◌∙◌, Some, None, sym}
use Rattle.std.specs.List.{slice_get}
use Rattle.warc_portions.specs.Outputs.{IsAny, left_of}
use Rattle.warc_reading.specs.Archive.{contents}
use Rattle.warc_rewrite.specs.Forms.{text_as}
use Rattle.warc_lent.proofs.PortionLemmas.{next_put, next_refused, none_left}
use Rattle.warc_lent.proofs.portions.put_next_as.Goals as goal

pub returns-in_default-clause-puts : goal.returns-in_default-clause-puts
returns-in_default-clause-puts g c = λ is.
    let rows = c.args.archive.now.listing.rows in
    let none : slice_get rows c.args.cursor.place ≡ None = sym c.row_at.ensures.row ∙ c.in_default.is in
    (none_left c.ends_after_records.ensures c.args.bytes.now rows is c.args.cursor none).of_texts (text_as c.args.form)

pub returns-in-Ok-clause-puts : goal.returns-in-Ok-clause-puts
returns-in-Ok-clause-puts g c = λ is.
    let rows = c.args.archive.now.listing.rows in
    let here : slice_get rows c.args.cursor.place ≡ Some c.in-Some.row = sym c.row_at.ensures.row ∙ c.in-Some.is in
    next_put (left_of (text_as c.args.form) (contents is.are.records)) IsAny c.args.cursor c.args.bytes.now _ _ _ _
    (c.in-Ok.ensures.next rows is here) c.put_portion.ensures.next (c.put_portion.ensures.put c.args.bytes.now)

pub returns-in-Err-clause-puts : goal.returns-in-Err-clause-puts
returns-in-Err-clause-puts g c = λ is.
    let rows = c.args.archive.now.listing.rows in
    let here : slice_get rows c.args.cursor.place ≡ Some c.in-Some.row = sym c.row_at.ensures.row ∙ c.in-Some.is in
    c.problem_of_reread.ensures ∙ next_refused c.in-Err.fault (c.in-Err.ensures.next rows is here)

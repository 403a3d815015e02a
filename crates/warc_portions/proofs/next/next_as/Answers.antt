use Rattle.warc_portions.proofs.OutputLemmas.{at_place, followed_by_record}
use Rattle.warc_reading.specs.Archive.{contents}
use Rattle.warc_rewrite.specs.Forms.{text_as}
use Rattle.warc_portions.proofs.next.next_as.Goals as goal

pub returns-in-Ok-clause-next : goal.returns-in-Ok-clause-next
returns-in-Ok-clause-next g c = λ rows is here.
    let found = at_place c.args.bytes.now rows is c.args.cursor.place c.args.row.now here in (
      text_as c.args.form found.0.content,
      c.in-Ok.ensures.written found.0 found.2,
      followed_by_record (text_as c.args.form) (contents is.are.records) c.args.cursor _ found.0.content found.1 c.after_record.ensures,
    )

pub returns-in-Err-clause-next : goal.returns-in-Err-clause-next
returns-in-Err-clause-next g c = λ rows is here.
    let found = at_place c.args.bytes.now rows is c.args.cursor.place c.args.row.now here in
    c.in-Err.ensures.written found.0 found.2

use Rattle.warc_frame.specs.Spelling.{canonical}
use Rattle.warc_portions.proofs.OutputLemmas.{at_place, followed_by_segment, segment_at}
use Rattle.warc_reading.specs.Archive.{contents}
use Rattle.warc_portions.proofs.next.next_split.Goals as goal

pub returns-in-Ok-clause-next : goal.returns-in-Ok-clause-next
returns-in-Ok-clause-next g c = λ rows is here inside.
    let records = contents is.are.records in
    let cursor = c.args.cursor in
    let found = at_place c.args.bytes.now rows is cursor.place c.args.row.now here in
    let segment = segment_at c.args.size records cursor found.0.content found.1 inside in
    let given = c.in-Ok.ensures.written found.0 segment.0 found.2 segment.1 in (
      canonical segment.0,
      given.0,
      followed_by_segment c.args.size records cursor _ found.0.content segment.0 _ found.1 segment.1 given.1
          c.after_segment.ensures.more c.after_segment.ensures.last,
    )

pub returns-in-Err-clause-next : goal.returns-in-Err-clause-next
returns-in-Err-clause-next g c = λ rows is here inside.
    let found = at_place c.args.bytes.now rows is c.args.cursor.place c.args.row.now here in
    let segment = segment_at c.args.size (contents is.are.records) c.args.cursor found.0.content found.1 inside in
    c.in-Err.ensures.written found.0 segment.0 found.2 segment.1

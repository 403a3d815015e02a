use Rattle.warc_lent.specs.Texts.{IsUnreadable}
use Rattle.warc_c.specs.Answered.{PutsSplit}
use Rattle.warc_c.proofs.NextLemmas.{some}
use Rattle.warc_c.proofs.output.warc_rt_next_split.Goals as goal

pub returns-clause-answers : goal.returns-clause-answers
returns-clause-answers c =
    some (PutsSplit c.args.size c.args.bytes.now c.args.cursor.now c.put_next_split-answer.new.portion c.put_next_split-answer.new.text)
    c.args.handle.now.is_open IsUnreadable _ _ _ c.deref.result.now.listing.rows c.put_next_split-answer.result c.in-Some.ensures.taken
    c.there_or_report-2.ensures c.put_next_split-answer.ensures.puts c.put_next_split-answer.ensures.refused

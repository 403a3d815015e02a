use Rattle.std.proofs.Common.{◌≡◌, ◌≤◌, IfOk, sym, subst, take, arith}
use Rattle.warc_record.specs.Readings.{digest_wanted}
use Rattle.warc_reading.proofs.HeadLemmas.{may_be_sound, only_memory, read_or_memory}
use Rattle.warc_reading.specs.Rereading.{IsHeadText}
use Rattle.warc_reading.specs.Row.{Row}
use Rattle.warc_checking.specs.Judging.{IsOneMore}
use Rattle.warc_checking.proofs.JudgingLemmas.{if_ok}
use Rattle.warc_checking.proofs.findings.reread_head.Goals as goal

pub returns-clause-read : goal.returns-clause-read
returns-clause-read g c = λ bytes held is.
    let fields = is.placed.content.fields in
    let P : Row → Type 0 = λ r. IsHeadText is.placed.content r (take c.in_ok-len.len c.reread_text.new.buf) in
    let text = subst P (sym c.row.view_is) (c.in_ok-len.ensures.text bytes held is) in
    let Q : Row → Type 0 = λ r. IfOk c.add_head.result (λ wanted.
    (wanted ≡ digest_wanted fields) × IsOneMore fields r.block_len c.args.findings.now c.add_head.new.findings) in
    subst Q c.row.view_is (read_or_memory c.add_head.result _ (c.add_head.ensures.is is.placed.content text is.has.good))

pub returns-clause-size : goal.returns-clause-size
returns-clause-size g c =
    if_ok c.add_head.result (c.args.row.now.offset ≤ c.args.row.now.block_start) (omega (arith, c.in_ok-len.ensures.size.1))

pub returns-clause-fails : goal.returns-clause-fails
returns-clause-fails g c = record {
  may = may_be_sound c.add_head.result _ _ c.in_ok-len.ensures.fails.may;
  failed = λ bytes held is.
      let P : Row → Type 0 = λ r. IsHeadText is.placed.content r (take c.in_ok-len.len c.reread_text.new.buf) in
      let text = subst P (sym c.row.view_is) (c.in_ok-len.ensures.text bytes held is) in
      only_memory c.add_head.result _ _ _ (c.add_head.ensures.is is.placed.content text is.has.good) c.in_ok-len.ensures.fails.may;
}

use Rattle.std.proofs.Common.{◌≡◌, length, sym, subst, take, arith}
use Rattle.std.proofs.lemmas.List.{length-take-le}
use Rattle.std.proofs.lemmas.Result.{IfOk-weaker}
use Rattle.warc_reading.proofs.HeadLemmas.{head_by, may_be_sound, only_memory, read_or_memory}
use Rattle.warc_reading.specs.Rereading.{IsHeadText}
use Rattle.warc_reading.specs.Row.{Row}
use Rattle.warc_reading.proofs.reread.reread_head.Goals as goal

pub returns-clause-read : goal.returns-clause-read
returns-clause-read g c = λ bytes held is.
    let P : Row → Type 0 = λ r. IsHeadText is.placed.content r (take c.in_ok-len.len c.reread_text.new.buf) in
    read_or_memory c.head_in.result _ (c.head_in.ensures.is is.placed.content (subst P (sym c.row.view_is) (c.in_ok-len.ensures.text bytes held is)))

pub returns-clause-whole : goal.returns-clause-whole
returns-clause-whole g c =
    let size : length (take c.in_ok-len.len c.reread_text.new.buf) ≡ c.in_ok-len.len = length-take-le c.in_ok-len.len c.reread_text.new.buf (c.in_ok-len.ensures.size.0) in
    IfOk-weaker c.head_in.result _ _ (λ h is. head_by _ c.args.row.now h.version h.fields (take c.in_ok-len.len c.reread_text.new.buf) c.row.view_is (omega (arith, size, c.in_ok-len.ensures.size.1)) is) c.head_in.ensures.whole

pub returns-clause-fails : goal.returns-clause-fails
returns-clause-fails g c = record {
  may = may_be_sound c.head_in.result _ _ c.in_ok-len.ensures.fails.may;
  failed = λ bytes held is.
      let P : Row → Type 0 = λ r. IsHeadText is.placed.content r (take c.in_ok-len.len c.reread_text.new.buf) in
      only_memory c.head_in.result _ _ _ (c.head_in.ensures.is is.placed.content (subst P (sym c.row.view_is) (c.in_ok-len.ensures.text bytes held is))) c.in_ok-len.ensures.fails.may;
}

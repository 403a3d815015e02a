use Rattle.std.proofs.Common.{sym, subst}
use Rattle.std.proofs.lemmas.Result.{IfOk-weaker}
use Rattle.warc_frame.proofs.EffectLemmas.{fails_more}
use Rattle.warc_frame.specs.Spelling.{Spells}
use Rattle.warc_replay.proofs.TakeLemmas.{failed_by_none, may_take, read_is}
use Rattle.warc_replay.proofs.record.whole.read_record.Goals as goal

pub returns-in-Err-clause-fails : goal.returns-in-Err-clause-fails
returns-in-Err-clause-fails g c = fails_more (λ bytes held is. is.within) c.in-Err.ensures.fails

pub returns-clause-taken : goal.returns-clause-taken
returns-clause-taken g c = λ bytes held r spells.
    let text = c.in-Ok.ensures.bytes bytes held in
    read_is c.whole_record.result r (c.whole_record.ensures.only r (subst (λ t. Spells r t) (sym text) spells))

pub returns-clause-fails : goal.returns-clause-fails
returns-clause-fails g c = record {
  may = may_take c.whole_record.result _ _ c.whole_record.ensures.is c.in-Ok.ensures.fails.may;
  failed = λ bytes held is.
      let text = c.in-Ok.ensures.bytes bytes held in
      failed_by_none c.whole_record.result is.content _ _
      (c.whole_record.ensures.only is.content (subst (λ t. Spells is.content t) (sym text) is.spells)) c.in-Ok.ensures.fails.may;
}

pub returns-clause-whole : goal.returns-clause-whole
returns-clause-whole g c =
    IfOk-weaker c.whole_record.result _ _ (λ r spells. (c.read_range.new.buf, spells, c.read_range.auto.buf)) c.whole_record.ensures.whole

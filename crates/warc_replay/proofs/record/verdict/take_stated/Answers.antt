use Rattle.std.proofs.Common.{Err, refl, ap, subst, ◌∙◌, arith}
use Rattle.warc_frame.specs.Effects.{FailsBy}
use Rattle.warc_frame.proofs.EffectLemmas.{fails_after, fails_more}
use Rattle.warc_frame.specs.Send.{ended_by}
use Rattle.warc_reading.specs.Rereading.{HasTextOf}
use Rattle.warc_reading.specs.Row.{Row}
use Rattle.warc_frame.specs.declared.fault.EarlyFault.{EarlyFault}
use Rattle.warc_checking.proofs.JudgeLemmas.{block_there, head_there}
use Rattle.warc_judged.specs.Fixity.{digest_value}
use Rattle.warc_replay.proofs.JudgedLemmas.{reads_one_row}
use Rattle.warc_replay.proofs.PayloadLemmas.{block_stated, reads_stated}
use Rattle.warc_replay.proofs.record.verdict.take_stated.Goals as goal

pub returns-in-Err-Read-clause-fails : goal.returns-in-Err-Read-clause-fails
returns-in-Err-Read-clause-fails g c =
    subst (λ (f : EarlyFault). FailsBy {X = Unit {0}} (HasTextOf c.args.row.now) (Err (ended_by f 0)) (g.S.Source.seen c.args.source.now) (g.S.Source.seen c.reread_good.new.source)) c.in-Err-Read.field-0-is
    (fails_more (λ bytes held is. head_there c.args.row.now bytes is) c.in-Err-Read.ensures.fails)

pub returns-in-Ok-stated_range-clause-taken : goal.returns-in-Ok-stated_range-clause-taken
returns-in-Ok-stated_range-clause-taken g c = λ bytes held is. (
  is.placed,
  refl,
  c.in-Ok-stated_range.ensures.verdict bytes (c.in-Ok-reread_good.ensures.reads.kept ∙ held)
      ∙ block_stated c.args.row.now bytes is _ _ _ c.in-Ok-reread_good.head (ap (λ (r : Row). r.block_start) c.row.view_is) (ap (λ (r : Row). r.block_len) c.row.view_is)
      (c.digest_value-value.ensures ∙ ap digest_value c.fields.ensures.fields) (c.in-Ok-reread_good.ensures.read bytes held (head_there c.args.row.now bytes is)),
)

pub returns-in-Ok-stated_range-clause-reads : goal.returns-in-Ok-stated_range-clause-reads
returns-in-Ok-stated_range-clause-reads g c =
    let whole = c.in-Ok-reread_good.ensures.whole in
    reads_one_row c.args.row.now (reads_stated c.args.row.now _ _ (ap (λ (r : Row). r.block_start) c.row.view_is) (ap (λ (r : Row). r.block_len) c.row.view_is)
    (omega (arith, whole.size)) c.in-Ok-reread_good.ensures.reads c.stated_range.ensures.reads)

pub returns-clause-reads : goal.returns-clause-reads
returns-clause-reads g c =
    let whole = c.in-Ok-reread_good.ensures.whole in
    reads_one_row c.args.row.now (reads_stated c.args.row.now _ _ (ap (λ (r : Row). r.block_start) c.row.view_is) (ap (λ (r : Row). r.block_len) c.row.view_is)
    (omega (arith, whole.size)) c.in-Ok-reread_good.ensures.reads c.stated_range.ensures.reads)

pub returns-clause-fails : goal.returns-clause-fails
returns-clause-fails g c =
    fails_after c.in-Ok-reread_good.ensures.reads.kept c.in-Ok-reread_good.ensures.fails.may
    (fails_more (λ bytes held is.
    block_there c.args.row.now bytes _ _ (ap (λ (r : Row). r.block_start) c.row.view_is) (ap (λ (r : Row). r.block_len) c.row.view_is) is) c.in-Err.ensures.fails)

use Rattle.std.proofs.Common.{Err, refl, ap, subst, ◌∙◌, arith}
use Rattle.warc_frame.specs.Effects.{FailsBy}
use Rattle.warc_frame.specs.Send.{ended_by}
use Rattle.warc_reading.specs.Rereading.{HasHeadOf}
use Rattle.warc_frame.specs.declared.fault.EarlyFault.{EarlyFault}
use Rattle.warc_reading.specs.Row.{Row}
use Rattle.warc_replay.proofs.record.head.take_head.Goals as goal

pub returns-in-Ok-reread_head-clause-taken : goal.returns-in-Ok-reread_head-clause-taken
returns-in-Ok-reread_head-clause-taken g c = λ bytes held is.
    let read = c.in-Ok-reread_head.ensures.read bytes held is in
    let row = c.row.view_is ∙ is.row_is in (
      is.placed,
      refl,
      record {
        version = read.version;
        fields = read.fields;
        len = omega (arith, ap (λ (r : Row). r.offset) row, ap (λ (r : Row). r.block_start) row, is.has.start);
        block_len = ap (λ (r : Row). r.block_len) row;
      },
    )

pub returns-in-Err-Read-clause-fails : goal.returns-in-Err-Read-clause-fails
returns-in-Err-Read-clause-fails g c =
    let P : EarlyFault → Type 0 =
    λ f. FailsBy {X = Unit {0}} (HasHeadOf c.args.row.now) (Err (ended_by f 0)) (g.S.Source.seen c.args.source.now) (g.S.Source.seen c.reread_head.new.source) in
    subst P c.in-Err-Read.field-0-is c.in-Err-Read.ensures.fails

use Rattle.std.proofs.Common.{ℕ, ◌*◌, List, [], Option, ap, refl, subst, arith}
use Rattle.warc_frame.specs.Effects.{ReadsOnly}
use Rattle.warc_frame.specs.Seen.{IsInRange}
use Rattle.warc_frame.specs.declared.fault.OutFault.TheVariants as outs
use Rattle.warc_frame.proofs.EffectLemmas.{reads_both, reads_within}
use Rattle.warc_reading.specs.Row.{Row}
use Rattle.warc_frame.specs.declared.fault.EarlyFault.TheVariants.{Read}
use Rattle.warc_rewrite.proofs.EmitLemmas.{both, of_fault, of_read, unkept}
use Rattle.warc_rewrite.proofs.SplitLemmas.{IsCutBy, segments_of_row, whole_of_row}
use Rattle.warc_rewrite.proofs.segments.put_split.Goals as goal

pub returns-in_default-clause-emits : goal.returns-in_default-clause-emits
returns-in_default-clause-emits g c =
    of_fault Read (outs.Read c.sent.result) c.sent.result refl c.sent.ensures c.in_default.ensures.reads.kept c.in_default.ensures.fails
    (λ bytes text (is, of_head).
    (omega (arith, is.whole.range.0, ap (λ (r : Row). r.block_start) is.row_is, ap (λ (r : Row). r.block_len) is.row_is), is.whole.range.1))

pub returns-in_default-cut_or_whole-clause-emits : goal.returns-in_default-cut_or_whole-clause-emits
returns-in_default-cut_or_whole-clause-emits g c =
    both (of_read {x = tt {0}} c.in-Ok.ensures.reads.kept c.in-Ok.ensures.fails.may) (unkept c.sent-in_default-cut_or_whole.result c.sent-in_default-cut_or_whole.ensures)
    (λ bytes text held is. ([], text, refl, refl, is))

pub returns-in-Some-clause-emits : goal.returns-in-Some-clause-emits
returns-in-Some-clause-emits g c =
    let P : Option (List ℕ) → Type 0 = λ uuid. IsCutBy c.args.size c.args.row.now c.args.head c.in-Ok.bad uuid in
    both (of_read {x = tt {0}} c.in-Ok.ensures.reads.kept c.in-Ok.ensures.fails.may) c.put_segments.ensures.emits
    (λ bytes text held is. (
      [],
      text,
      refl,
      refl,
      segments_of_row _ c.args.row.now c.args.head c.in-Ok.bad bytes text refl refl (ap (λ (r : Row). r.block_start) c.row.view_is) (ap (λ (r : Row). r.block_len) c.row.view_is)
          (subst P c.in-Some.is c.in-Ok-cut_or_whole.ensures.cut) (c.in-Ok.ensures.bad bytes held) is,
    ))

pub returns-in-Some-clause-reads : goal.returns-in-Some-clause-reads
returns-in-Some-clause-reads g c =
    let row = c.args.row.now in
    let start = ap (λ (r : Row). r.block_start) c.row.view_is in
    let len = ap (λ (r : Row). r.block_len) c.row.view_is in
    let second : ReadsOnly (IsInRange row.block_start row.block_len) (2 * row.block_len) _ _ =
    reads_within (λ at in_. (omega (arith, in_.0, start), omega (arith, in_.1, start, len))) (omega (arith, len)) c.put_segments.ensures.reads in
    reads_within (λ at in_. in_) (omega arith) (reads_both c.in-Ok.ensures.reads second)

pub returns-in-None-clause-emits : goal.returns-in-None-clause-emits
returns-in-None-clause-emits g c =
    let P : Option (List ℕ) → Type 0 = λ uuid. IsCutBy c.args.size c.args.row.now c.args.head c.in-Ok.bad uuid in
    both (of_read {x = tt {0}} c.in-Ok.ensures.reads.kept c.in-Ok.ensures.fails.may) c.put_copied.ensures.emits
    (λ bytes text held is. (
      [],
      text,
      refl,
      refl,
      whole_of_row _ c.args.size c.args.row.now c.args.head c.in-Ok.bad bytes text refl refl (ap (λ (r : Row). r.block_start) c.row.view_is) (ap (λ (r : Row). r.block_len) c.row.view_is)
          (subst P c.in-None.is c.in-Ok-cut_or_whole.ensures.cut) (c.in-Ok.ensures.bad bytes held) is,
    ))

pub returns-in-None-clause-reads : goal.returns-in-None-clause-reads
returns-in-None-clause-reads g c =
    let row = c.args.row.now in
    let start = ap (λ (r : Row). r.block_start) c.row.view_is in
    let len = ap (λ (r : Row). r.block_len) c.row.view_is in
    let second : ReadsOnly (IsInRange row.block_start row.block_len) row.block_len _ _ =
    reads_within (λ at in_. (omega (arith, in_.0, start), omega (arith, in_.1, start, len))) (omega (arith, len)) c.put_copied.ensures.reads in
    reads_within (λ at in_. in_) (omega arith) (reads_both c.in-Ok.ensures.reads second)

use Rattle.std.proofs.Common.{◌*◌, [], refl, arith}
use Rattle.warc_frame.specs.Effects.{ReadsOnly}
use Rattle.warc_frame.specs.Seen.{IsInRange}
use Rattle.warc_rewrite.proofs.EmitLemmas.{both, of_read, unkept}
use Rattle.warc_frame.proofs.EffectLemmas.{reads_both, reads_within}
use Rattle.warc_rewrite.proofs.SplitLemmas.{reads_piece, segment_copy}
use Rattle.warc_rewrite.proofs.segments.put_segment.Goals as goal

pub returns-in_default-segment_head-clause-emits : goal.returns-in_default-segment_head-clause-emits
returns-in_default-segment_head-clause-emits g c =
    both (of_read {x = tt {0}} c.in-Ok.ensures.reads.kept c.in-Ok.ensures.fails.may) (unkept c.sent-in_default-segment_head.result c.sent-in_default-segment_head.ensures)
    (λ bytes text held is. ([], text, refl, refl, is))

pub returns-in_default-segment_head-clause-reads : goal.returns-in_default-segment_head-clause-reads
returns-in_default-segment_head-clause-reads g c =
    let cut = c.args.cut.now in
    reads_piece cut.block_start cut.block_len (c.args.at * cut.size) c.min-len.result _
    (omega (arith, c.min-len.ensures, c.requires.inside)) (omega (arith, c.min-len.ensures)) c.in-Ok.ensures.reads

pub returns-clause-emits : goal.returns-clause-emits
returns-clause-emits g c =
    both (of_read {x = tt {0}} c.in-Ok.ensures.reads.kept c.in-Ok.ensures.fails.may) c.put_copied.ensures.emits
    (λ bytes text held is. (
      [],
      text,
      refl,
      refl,
      segment_copy c.args.cut.now _ c.part_at-part.result c.in-Ok.digest c.args.at bytes text c.requires.inside
          refl c.in-Ok-segment_head.ensures refl c.min-len.ensures (c.in-Ok.ensures.digest bytes held) c.part_at-part.ensures is,
    ))

pub returns-clause-reads : goal.returns-clause-reads
returns-clause-reads g c =
    let cut = c.args.cut.now in
    let n = c.min-len.result in
    let first : ReadsOnly (IsInRange cut.block_start cut.block_len) n _ _ = reads_piece cut.block_start cut.block_len (c.args.at * cut.size) n n (omega (arith, c.min-len.ensures, c.requires.inside)) (omega arith) c.in-Ok.ensures.reads in
    let second : ReadsOnly (IsInRange cut.block_start cut.block_len) n _ _ = reads_within (λ at in_. (omega (arith, in_.0), omega (arith, in_.1, c.min-len.ensures, c.requires.inside))) (omega arith) c.put_copied.ensures.reads in
    reads_within (λ at in_. in_) (omega (arith, c.min-len.ensures)) (reads_both first second)

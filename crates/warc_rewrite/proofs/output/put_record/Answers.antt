use Rattle.std.proofs.Common.{◌≡◌, ℕ, ◌+◌, ◌-◌, ◌≤◌, [], length, take, refl, ap, subst, sym, ◌∙◌, arith}
use Rattle.warc_rewrite.specs.Copied.{block_by, len_by, text_by}
use Rattle.warc_rewrite.specs.declared.output.Replacement.{Replacement}
use Rattle.warc_rewrite.specs.declared.output.Replacement.TheVariants.{As, Split}
use Rattle.warc_quick.specs.Canonical.{IsCanonicalHead}
use Rattle.warc_reading.specs.Row.{Row}
use Rattle.warc_rewrite.proofs.EmitLemmas.{both, of_fault, of_read}
use Rattle.warc_rewrite.proofs.WholeLemmas.{written_as_is}
use Rattle.warc_frame.proofs.EffectLemmas.{reads_both, reads_within}
use Rattle.warc_reading.proofs.ReadLemmas.{reads_block_of, reads_head_of}
use Rattle.warc_rewrite.proofs.output.put_record.Goals as goal

head_within : (replacement : Replacement) (row : Row) → row.block_start - row.offset ≤ len_by replacement row
head_within (As form) row = omega arith
head_within (Split size) row = omega arith

once_within : (replacement : Replacement) (row : Row) → (row.block_start - row.offset) + row.block_len ≤ len_by replacement row
once_within (As form) row = omega arith
once_within (Split size) row = omega arith

all_within : (replacement : Replacement) (row : Row) → (row.block_start - row.offset) + block_by replacement row ≤ len_by replacement row
all_within (As form) row = omega arith
all_within (Split size) row = omega arith

pub returns-in-Err-clause-emits : goal.returns-in-Err-clause-emits
returns-in-Err-clause-emits g c =
    of_fault c.in-Err.fault c.after.result c.sent.result c.after.ensures c.sent.ensures c.in-Err.ensures.reads.kept c.in-Err.ensures.fails
    (λ bytes text is. record { placed = is.placed; has = is.whole.head; row_is = is.row_is })

pub returns-in-Err-clause-reads : goal.returns-in-Err-clause-reads
returns-in-Err-clause-reads g c = reads_within (λ at in_. in_) (head_within c.args.replacement c.args.row.now) (reads_head_of c.args.row.now c.in-Err.ensures.reads)

pub returns-then-is_canonical_head-clause-emits : goal.returns-then-is_canonical_head-clause-emits
returns-then-is_canonical_head-clause-emits g c =
    let head = take c.in-Ok.len c.reread_text.new.buf in
    let len = ap (λ (r : Row). r.block_len) c.row.view_is in
    let P : ℕ → Type 0 = λ n. IsCanonicalHead head n in
    both (of_read {x = tt {0}} c.in-Ok.ensures.reads.kept c.in-Ok.ensures.fails.may) c.put_same.ensures.emits
    (λ bytes text held is.
    let block : length is.placed.content.block ≡ c.row.inside.block_len = sym (len ∙ ap (λ (r : Row). r.block_len) is.row_is) in
    let reads = c.in-Ok.ensures.text bytes held (record { placed = is.placed; has = is.whole.head; row_is = is.row_is }) in (
      [],
      text,
      refl,
      refl,
      written_as_is (text_by c.args.replacement) c.args.row.now head bytes text is
          (c.keeps.ensures c.if-keeps.true is.placed.content block) reads (subst P len (c.is_canonical_head.ensures c.if-is_canonical_head.true)),
    ))

pub returns-then-is_canonical_head-clause-reads : goal.returns-then-is_canonical_head-clause-reads
returns-then-is_canonical_head-clause-reads g c =
    let row = c.args.row.now in
    reads_within (λ at in_. in_) (once_within c.args.replacement row)
    (reads_both (reads_head_of row c.in-Ok.ensures.reads) (reads_block_of row row.block_len (omega (arith, c.in-Ok.ensures.size.1)) c.put_same.ensures.reads))

pub returns-clause-emits : goal.returns-clause-emits
returns-clause-emits g c =
    both (of_read {x = tt {0}} c.in-Ok.ensures.reads.kept c.in-Ok.ensures.fails.may) c.put_by_head.ensures.emits
    (λ bytes text held is. (
      [],
      text,
      refl,
      refl,
      (is, c.in-Ok.ensures.text bytes held (record { placed = is.placed; has = is.whole.head; row_is = is.row_is })),
    ))

pub returns-clause-reads : goal.returns-clause-reads
returns-clause-reads g c =
    let row = c.args.row.now in
    reads_within (λ at in_. in_) (all_within c.args.replacement row)
    (reads_both (reads_head_of row c.in-Ok.ensures.reads)
    (reads_block_of row (block_by c.args.replacement row) (omega (arith, c.in-Ok.ensures.size.1)) c.put_by_head.ensures.reads))

use Rattle.std.proofs.Common.{rules, ◌≡◌, List, None, Some, ap, length, subst, sym, ◌∙◌, arith}
use Rattle.std.specs.List.{slice_get}
use Rattle.warc_frame.specs.Record.{Record}
use Rattle.warc_frame.specs.Spelling.{canonical}
use Rattle.warc_portions.specs.Portions.{IsPortionOf}
use Rattle.warc_portions.proofs.CutLemmas.{cut_same, only_one, segment_there, segments_len}
use Rattle.warc_portions.proofs.PortionLemmas.{copied, len_at}
use Rattle.warc_reading.specs.Row.{Row}
use Rattle.warc_write.specs.Splitting.{segment_count}
use Rattle.warc_portions.proofs.segments.portion_split.Goals as goal

pub returns-then-at-count-clause-written : goal.returns-then-at-count-clause-written
returns-then-at-count-clause-written g c = λ p s at here.
    let r = p.content in
    let size = c.args.size in
    let uuid = c.in-Ok-Some.uuid in
    let some : c.in-Ok-Some.field-0 ≡ Some uuid = search rules in
    let cut = cut_same r size c.in-Ok-Some.field-0 (Some uuid) (c.in-Ok-Some.ensures.cut p s at (c.in-Ok.ensures.head p at) here) some in
    let P : List Record → Type 0 = λ l. slice_get l c.args.at ≡ Some s in
    let there = segment_there r s uuid size c.args.at (subst P cut here) in
    let len = len_at c.args.bytes.now c.args.row.now p at ∙ sym (ap (λ (r : Row). r.block_len) c.row.view_is) in
    let count = ap (λ n. segment_count size n) len ∙ sym c.segment_count-count.ensures.count in
    absurd (omega (arith, there.0, count, c.if-at-count.true))

pub returns-in-Ok-segment_at-clause-written : goal.returns-in-Ok-segment_at-clause-written
returns-in-Ok-segment_at-clause-written g c = λ p s at here.
    let r = p.content in
    let size = c.args.size in
    let uuid = c.in-Ok-Some.uuid in
    let head = c.in-Ok.ensures.head p at in
    let some : c.in-Ok-Some.field-0 ≡ Some uuid = search rules in
    let cut = cut_same r size c.in-Ok-Some.field-0 (Some uuid) (c.in-Ok-Some.ensures.cut p s at head here) some in
    let P : List Record → Type 0 = λ l. slice_get l c.args.at ≡ Some s in
    let there = segment_there r s uuid size c.args.at (subst P cut here) in
    let len = len_at c.args.bytes.now c.args.row.now p at ∙ sym (ap (λ (r : Row). r.block_len) c.row.view_is) in
    let count = ap (λ n. segment_count size n) len ∙ sym c.segment_count-count.ensures.count in
    let Q : Record → Type 0 = λ q. IsPortionOf c.in-Ok-segment_at.portion c.args.bytes.now (canonical q) in
    (subst Q (sym there.1) (c.in-Ok-segment_at.ensures.segment p at head), sym count ∙ sym (segments_len r uuid size) ∙ ap length (sym cut))

pub returns-in-Ok-portion_of-clause-written : goal.returns-in-Ok-portion_of-clause-written
returns-in-Ok-portion_of-clause-written g c = λ p s at here.
    let r = p.content in
    let head = c.in-Ok.ensures.head p at in
    let none : c.in-Ok-None.field-0 ≡ None = search rules in
    let cut = cut_same r c.args.size c.in-Ok-None.field-0 None (c.in-Ok-None.ensures.cut p s at head here) none in
    let P : List Record → Type 0 = λ l. slice_get l c.args.at ≡ Some s in
    let same = only_one r s c.args.at (subst P cut here) in
    let start = ap (λ (r : Row). r.block_start) c.row.view_is in
    let len = ap (λ (r : Row). r.block_len) c.row.view_is in
    let given = c.in-Ok-portion_of.ensures in
    let Q : Record → Type 0 = λ q. IsPortionOf c.in-Ok-portion_of.portion c.args.bytes.now (canonical q) in (
      subst Q (sym same) (copied c.in-Ok-portion_of.portion c.args.bytes.now c.args.row.now p _ _ at given.head head.version head.fields
          (given.start ∙ start) (given.len ∙ len)),
      ap length (sym cut),
    )

pub returns-clause-written : goal.returns-clause-written
returns-clause-written g c = λ p s at here. c.in-Err-cut_at.ensures.cut p s at (c.in-Ok.ensures.head p at) here

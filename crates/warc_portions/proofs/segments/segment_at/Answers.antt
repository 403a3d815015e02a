use Rattle.std.proofs.Common.{◌≡◌, ◌+◌, ◌-◌, ◌*◌, ap, drop, sym, take, ◌∙◌, arith}
use Rattle.sha1.specs.Sha1.{sha1}
use Rattle.warc_portions.proofs.PortionLemmas.{gives_segment}
use Rattle.warc_reading.specs.Row.{Row}
use Rattle.warc_write.specs.Cutting.{part_with}
use Rattle.warc_write.specs.Splitting.{piece_at}
use Rattle.warc_portions.proofs.segments.segment_at.Goals as goal

pub returns-in-Ok-clause-segment : goal.returns-in-Ok-clause-segment
returns-in-Ok-clause-segment g c = λ p at head.
    let row = c.args.row.now in
    let bytes = c.args.bytes.now in
    let row_start = ap (λ (r : Row). r.block_start) c.row.view_is in
    let row_len = ap (λ (r : Row). r.block_len) c.row.view_is in
    let gives = c.portion_of.ensures in
    let start = c.row.inside.block_start + c.args.at * c.args.size in
    let len = c.min-len.result in
    let size : (start + len) - start ≡ len = omega arith in
    gives_segment c.portion_of.result _ _ _ _ (gives.head, gives.start, gives.len, gives.memory) bytes row p c.args.head.now.fields c.args.uuid.now
    c.args.size c.args.at c.part_at-part.result _ at (omega (arith, c.requires.inside)) head.version head.fields c.in-Ok.ensures
    (omega (arith, row_start)) (omega (arith, c.min-len.ensures, row_len))
    (c.digest-digest.ensures ∙ ap (λ n. sha1 (take n (drop start bytes))) size)
    (λ block len_is. c.part_at-part.ensures block (len_is ∙ sym row_len) ∙ ap (λ n. part_with c.args.size n (piece_at c.args.size block c.args.at) c.args.at c.digest-digest.result) row_len)

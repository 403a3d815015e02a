use Rattle.std.proofs.Common.{◌≡◌, length, Ok, refl, subst, sym, ap, ◌∙◌}
use Rattle.warc_frame.specs.Record.{Record, block_len}
use Rattle.warc_write.specs.Splitting.{has_room, piece_at, segment_fields}
use Rattle.warc_write.proofs.PartLemmas.{refused_room, same_framed}
use Rattle.warc_write.proofs.CutLemmas.{part_from}
use Rattle.warc_write.proofs.SegmentLemmas.{segment_from, segment_reported}
use Rattle.warc_write.proofs.segments.segment.Goals as goal

pub returns-in-Ok-clause-made : goal.returns-in-Ok-clause-made
returns-in-Ok-clause-made g c =
    let piece = c.piece_at-piece.result.now in
    let part = c.part_at-part.result in
    let parts = segment_from c.args.framed.now c.args.uuid.now c.args.size c.args.at c.version.result c.in_ok-fields.fields c.in_ok-from_slice.field-0.items piece part
    c.version.ensures
    (c.in_ok-fields.ensures ∙ ap (λ fs. segment_fields fs c.args.uuid.now part) c.fields.ensures.fields)
    (part_from c.args.size c.block-block.result.now c.args.framed.now.block piece c.args.at _ part (c.part_at-part.ensures c.block-block.result.now refl) c.piece_at-piece.ensures c.digest.ensures c.block-block.ensures.block)
    (c.piece_at-piece.ensures ∙ ap (λ b. piece_at c.args.size b c.args.at) c.block-block.ensures.block)
    c.in_ok-from_slice.ensures.items in
    same_framed _ c.in-Ok.segment c.in-Ok.ensures.exact ∙ parts

pub returns-in-Err-clause-long : goal.returns-in-Err-clause-long
returns-in-Err-clause-long g c =
    let piece = c.piece_at-piece.result.now in
    let part = c.part_at-part.result in
    let parts = segment_from c.args.framed.now c.args.uuid.now c.args.size c.args.at c.version.result c.in_ok-fields.fields c.in_ok-from_slice.field-0.items piece part
    c.version.ensures
    (c.in_ok-fields.ensures ∙ ap (λ fs. segment_fields fs c.args.uuid.now part) c.fields.ensures.fields)
    (part_from c.args.size c.block-block.result.now c.args.framed.now.block piece c.args.at _ part (c.part_at-part.ensures c.block-block.result.now refl) c.piece_at-piece.ensures c.digest.ensures c.block-block.ensures.block)
    (c.piece_at-piece.ensures ∙ ap (λ b. piece_at c.args.size b c.args.at) c.block-block.ensures.block)
    c.in_ok-from_slice.ensures.items in
    let Reported : Record → Type 0 = λ r. block_len r.fields ≡ Ok (length r.block) in
    let reported = subst Reported (sym parts) (segment_reported c.args.framed.now c.args.uuid.now c.args.size c.args.at c.block-block.ensures.framed c.block-block.ensures.short) in
    ap has_room (sym parts) ∙ refused_room _ _ reported c.in-Err.ensures.exact

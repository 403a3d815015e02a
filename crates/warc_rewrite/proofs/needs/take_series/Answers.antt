use Rattle.std.proofs.Common.{◌≡◌, ◌∙◌, map, sym, subst, List, ℕ}
use Rattle.std.proofs.lemmas.List.{length-map}
use Rattle.warc_record.specs.Seen.{said}
use Rattle.warc_record.specs.declared.readings.SegmentNumber.TheVariants.{Number}
use Rattle.warc_segment.specs.Joined.{piece_placed}
use Rattle.warc_rewrite.specs.Marks.{MarksSegments}
use Rattle.warc_rewrite.proofs.MarkLemmas.{taken_series}
use Rattle.warc_rewrite.proofs.needs.take_series.Goals as goal

pub returns-clause-takes : goal.returns-clause-takes
returns-clause-takes g c all is len taken =
    let one : c.args.typed.now.segment.number ≡ Number 1 = cc in
    taken_series (map piece_placed all) (said c.args.typed.now) c.args.marks.now c.mark_segments.new.marks
    c.in_ok-segments.segments.items (len ∙ sym (length-map all piece_placed)) taken
    one (c.in_ok-segments.ensures all is)
    (subst (λ (ss : List ℕ). MarksSegments ss c.args.marks.now c.mark_segments.new.marks) c.deref.ensures.value
    c.mark_segments.ensures)

use Rattle.warc_rewrite.proofs.MarkLemmas.{segments_next}
use Rattle.warc_rewrite.proofs.needs.mark_segments.Goals as goal

pub marking-preserved : goal.marking-preserved
marking-preserved c =
    segments_next c.args.segments.now c.marking.segment-index c.args.marks.now c.marking.marks c.mark_segment.new.marks
    c.marking-test.true c.marking.invariant c.mark_segment.ensures.inside c.mark_segment.ensures.past

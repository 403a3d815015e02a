use Rattle.std.proofs.Common.{Some, ap, ◌∙◌}
use Rattle.example_library.proofs.MoveLemmas.{read_more, same_bytes}
use Rattle.example_library.proofs.round_trip.read_all.Goals as goal

pub loop-position-preserved : goal.loop-position-preserved
loop-position-preserved c =
    let before = c.loop-position.invariant in
    let takes = c.in_ok-record.ensures.takes in
    record {
      read = λ is. c.in-Ok.ensures.items
          ∙ read_more _ _ c.loop-position.archive.listing.rows c.loop-position.position c.loop-position.records.items c.in_ok-record.record before.rows
          (takes.taken _ (ap Some before.bytes)) is (before.read is);
      bytes = same_bytes _ _ takes.reads.kept ∙ before.bytes;
      rows = c.in_ok-record.ensures.unchanged.0 ∙ before.rows;
    }

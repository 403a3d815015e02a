use Rattle.std.proofs.Common.{Some, ◌≡◌, sym, ap, ◌∙◌}
use Rattle.std.specs.List.{slice_get}
use Rattle.warc_frame.proofs.EffectLemmas.{fails_more}
use Rattle.warc_reading.proofs.PlacedLemmas.{placed}
use Rattle.warc_replay.proofs.BlocksAgainLemmas.{adds_unknown, row_added, row_inside}
use Rattle.warc_replay.proofs.DigestLemmas.{text_at_row, text_there}
use Rattle.warc_replay.proofs.record.blocks_again.add_at.Goals as goal

pub returns-in_default : goal.returns-in_default
returns-in_default g c = adds_unknown c.add_unknown.result c.add_unknown.ensures.ok c.add_unknown.ensures.memory

pub returns : goal.returns
returns g c =
    let at : slice_get c.args.rows.now c.args.position ≡ Some c.in-Some.row = sym c.get.ensures ∙ c.in-Some.is in
    let adds = c.add_row.ensures in
    record {
      reported = λ bytes held is.
          let (p, there, same) = placed is.are.records c.args.position c.in-Some.row (ap (λ l. slice_get l c.args.position) (sym is.are.rows_are) ∙ at) in
          row_added c.add_row.result is.are.records c.args.position p _ _ there
          (adds.added bytes held (text_at_row c.head_of_spelled.ensures bytes c.args.rows.now c.args.position c.in-Some.row is p there same));
      early = adds.early;
      inside = row_inside c.head_of_spelled.ensures c.args.rows.now c.args.position c.in-Some.row _ at adds.reads;
      keeps = record { kept = adds.reads.kept; watched = adds.reads.watched };
      fails = fails_more (λ bytes held is. text_there c.head_of_spelled.ensures bytes c.args.rows.now c.args.position c.in-Some.row is at) adds.fails;
    }

pub returns-then-row-buf : goal.returns-then-row-buf
returns-then-row-buf g c = adds_unknown c.add_unknown-then-row-buf.result c.add_unknown-then-row-buf.ensures.ok c.add_unknown-then-row-buf.ensures.memory

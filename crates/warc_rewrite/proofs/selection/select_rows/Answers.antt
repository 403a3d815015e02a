use Rattle.std.proofs.Common.{refl}
use Rattle.warc_rewrite.proofs.SelectLemmas.{sends_selection}
use Rattle.warc_rewrite.proofs.selection.select_rows.Goals as goal

pub returns : goal.returns
returns g c = record {
  sends = sends_selection c.args.rows.now _ c.args.positions.now refl c.send_selected.ensures.sends;
  reads = c.send_selected.ensures.reads;
  device = c.send_selected.ensures.device;
}

use Rattle.std.proofs.Common.{refl}
use Rattle.warc_rewrite.specs.Copied.{text_by}
use Rattle.warc_rewrite.proofs.WholeLemmas.{output_texts}
use Rattle.warc_rewrite.proofs.output.write_each.Goals as goal

pub returns : goal.returns
returns g c = record {
  sends = output_texts c.head_of_spelled.ensures (text_by c.args.replacement) c.args.rows.now _ refl c.write_rows.ensures.sends;
  reads = c.write_rows.ensures.reads;
}

use Rattle.std.proofs.Common.{sym, ◌∙◌}
use Rattle.warc_fixity.proofs.WritesLemmas.{hex_first, then_base32}
use Rattle.warc_fixity.proofs.encoded.read_digest.Goals as goal

pub returns-in-Ok : goal.returns-in-Ok
returns-in-Ok g c = hex_first g.row.N c.args.text.now _ (sym c.in-Ok.is ∙ c.from_hex.ensures)

pub returns-in-Err : goal.returns-in-Err
returns-in-Err g c = then_base32 g.row.N c.args.text.now _ _ (sym c.in-Err.is ∙ c.from_hex.ensures) c.read_base32.ensures

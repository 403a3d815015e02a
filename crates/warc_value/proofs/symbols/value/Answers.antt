use Rattle.warc_value.proofs.Alphabet.{symbol_value-table, entry-most}
use Rattle.warc_value.proofs.symbols.value.Goals as goal

pub returns-clause-value : goal.returns-clause-value
returns-clause-value c = symbol_value-table c.args.symbol c.ranges.symbol.fits

pub returns-clause-most : goal.returns-clause-most
returns-clause-most c = entry-most c.args.symbol c.ranges.symbol.fits

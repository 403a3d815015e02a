use Rattle.std.proofs.Common.{arith}
use Rattle.std.proofs.lemmas.Grind.{common_steps}
use Rattle.warc_fixity.proofs.SymbolLemmas.{symbol_value-range}
use Rattle.warc_fixity.proofs.encoded.value.Goals as goal

pub returns-in-50-to-55-clause-value : goal.returns-in-50-to-55-clause-value
returns-in-50-to-55-clause-value c = let e = symbol_value-range c.args.byte c.ranges.byte.fits in grind (arith, common_steps)

pub returns-in-65-to-90-clause-value : goal.returns-in-65-to-90-clause-value
returns-in-65-to-90-clause-value c = let e = symbol_value-range c.args.byte c.ranges.byte.fits in grind (arith, common_steps)

pub returns-in_default-clause-value : goal.returns-in_default-clause-value
returns-in_default-clause-value c = let e = symbol_value-range c.args.byte c.ranges.byte.fits in grind (arith, common_steps)

pub returns-in_default-2-clause-value : goal.returns-in_default-2-clause-value
returns-in_default-2-clause-value c = let e = symbol_value-range c.args.byte c.ranges.byte.fits in grind (arith, common_steps)

pub returns-in_default-3-clause-value : goal.returns-in_default-3-clause-value
returns-in_default-3-clause-value c = let e = symbol_value-range c.args.byte c.ranges.byte.fits in grind (arith, common_steps)

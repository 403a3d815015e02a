use Rattle.std.proofs.Common.{arith}
use Rattle.warc_value.proofs.Bits.{base32_of-five}
use Rattle.warc_value.proofs.symbols.encode_group.Goals as goal

pub returns-clause-text : goal.returns-clause-text
returns-clause-text c = let e = base32_of-five c.args.group.now c.requires (λ k. let fits = c.type_inv.group k in omega (arith, fits)) in cc

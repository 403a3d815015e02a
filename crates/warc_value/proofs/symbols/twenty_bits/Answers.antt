use Rattle.std.proofs.Common.{refl, ◌+◌, ◌*◌}
use Rattle.warc_value.proofs.Twenty.{twenty-low, twenty-high}
use Rattle.warc_value.proofs.symbols.twenty_bits.Goals as goal

pub returns-then-bits-clause-bits : goal.returns-then-bits-clause-bits
returns-then-bits-clause-bits c =
    twenty-low c.args.symbols.now _ c.requires (rw (c.value-a.ensures.value, c.value-b.ensures.value, c.value-c.ensures.value, c.value-d.ensures.value) refl) c.if-bits.true

pub returns-else-bits-clause-bits : goal.returns-else-bits-clause-bits
returns-else-bits-clause-bits c =
    twenty-high c.args.symbols.now (((c.value-a.result * 32 + c.value-b.result) * 32 + c.value-c.result) * 32 + c.value-d.result) c.requires
    (rw (c.value-a.ensures.value, c.value-b.ensures.value, c.value-c.ensures.value, c.value-d.ensures.value) refl) c.if-bits.false

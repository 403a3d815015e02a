use Rattle.std.proofs.Common.{arith, ◌*◌, ◌+◌, ◌-◌}
use Rattle.std.proofs.lemmas.Grind.{common_steps}
use Rattle.warc_value.proofs.Bits.{decoded-more, decoded-whole, symbols-more, none-decoded}
use Rattle.warc_value.proofs.symbols.unbase32.Goals as goal

pub returns-in_err-decode_group : goal.returns-in_err-decode_group
returns-in_err-decode_group c =
    let g = c.loop-group.group in
    let none = none-decoded c.args.text.now (8 * g) (8 * g + 8 - 8 * g) (grind (arith, common_steps)) in
    grind (arith, common_steps)

pub returns : goal.returns
returns c =
    decoded-whole c.args.text.now c.loop-group.bytes (8 * c.loop-group.group) (5 * c.loop-group.group) c.if-text-ne32.false
    (omega arith) (omega arith) c.loop-group.invariant.1 c.loop-group.invariant.0

pub loop-group-preserved : goal.loop-group-preserved
loop-group-preserved c =
    let g = c.loop-group.group in (
      decoded-more (8 * g) (5 * g) (8 * g + 8 - 8 * g) (5 * g + 5 - 5 * g) (8 * (g + 1)) (5 * (g + 1)) c.args.text.now c.loop-group.bytes c.decode_group.new.bytes _
          (omega arith) (omega arith) (omega arith) (omega arith) (omega arith) (omega arith) (grind (arith, common_steps)) (grind (arith, common_steps)) c.loop-group.invariant.0,
      symbols-more (8 * g) (8 * g + 8 - 8 * g) (8 * (g + 1)) c.args.text.now c.decode_group.new.bytes (omega arith) (omega arith) c.loop-group.invariant.1 (grind (arith, common_steps)),
      grind (arith, common_steps),
    )

use Rattle.std.proofs.Common.{arith, ◌*◌, ◌+◌, ◌-◌}
use Rattle.std.proofs.lemmas.Grind.{common_steps}
use Rattle.warc_value.proofs.Bits.{encoded-more, encoded-whole}
use Rattle.warc_value.proofs.symbols.base32.Goals as goal

pub returns : goal.returns
returns c = encoded-whole _ _ (8 * c.loop-group.group) (5 * c.loop-group.group) (omega arith) (omega arith) c.loop-group.invariant.0

pub loop-group-preserved : goal.loop-group-preserved
loop-group-preserved c =
    let g = c.loop-group.group in (
      encoded-more (8 * g) (5 * g) (8 * g + 8 - 8 * g) (5 * g + 5 - 5 * g) (8 * (g + 1)) (5 * (g + 1)) c.loop-group.text c.args.bytes.now c.copy_from_slice.new.self _
          (omega arith) (omega arith) (omega arith) (omega arith) (omega arith) (omega arith) (grind (arith, common_steps)) (grind (arith, common_steps)) c.loop-group.invariant.0,
      grind (arith, common_steps),
    )

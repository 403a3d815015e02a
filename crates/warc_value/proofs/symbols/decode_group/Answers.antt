use Rattle.std.proofs.Common.{Some, List, ℕ, ap, ◌∙◌}
use Rattle.warc_value.proofs.Twenty.{decoded-halves, set-five}
use Rattle.warc_value.proofs.symbols.decode_group.Goals as goal

pub returns-clause-bytes : goal.returns-clause-bytes
returns-clause-bytes c = λ _.
    ap (λ (bytes : List ℕ). Some bytes) (set-five c.args.bytes.now _ _ _ _ _ c.requires.bytes)
    ∙ decoded-halves c.args.symbols.now c.in_ok-front.front c.in_ok-back.back c.requires.symbols c.in_ok-front.ensures.bits c.in_ok-back.ensures.bits

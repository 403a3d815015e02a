use Rattle.std.proofs.Common.{◌≡◌, ℕ, ◌+◌, ◌-◌, ◌%◌, ◌*◌, ◌^◌, List, ◌∷◌, ◌++◌, length, take, drop, replicate, slice_set, arith, ap, ap₂, ◌∙◌}
use Rattle.std.proofs.lemmas.List.{length-replicate, length-take-le, length-drop, length-set}
use Rattle.std.specs.Int.{w64, to_be_bytes}
use Rattle.warc_lanes.proofs.PadLemmas.{three_written}
use Rattle.warc_lanes.proofs.pad.Goals as goal

pub returns-clause-padded : goal.returns-clause-padded
returns-clause-padded c =
    let s : List ℕ = c.args.buffer.now in
    let used : ℕ = c.args.used in
    let z : ℕ = (119 - c.args.len % 64) % 64 in
    let one : List ℕ = slice_set s used 128 in
    let room : length (take (used + 1 + z - (used + 1)) (drop (used + 1) one)) ≡ z =
    length-take-le (used + 1 + z - (used + 1)) (drop (used + 1) one) (omega (arith, length-drop (used + 1) one, length-set s used 128)) ∙ omega arith in
    let zeros : c.fill.new.self ≡ replicate z 0 = c.fill.ensures.after (λ y same. same) ∙ ap (λ (n : ℕ). replicate n 0) room in
    let zeros_long : length c.fill.new.self ≡ z = ap length zeros ∙ length-replicate z 0 in
    let bits : c.copy_from_slice.new.self ≡ to_be_bytes w64 (c.args.len * 8 % 2 ^ 64) =
    c.copy_from_slice.ensures.after ∙ c.to_be_bytes.ensures ∙ ap (to_be_bytes w64) (omega arith) in
    three_written s c.fill.new.self c.copy_from_slice.new.self 128 used z _ _ (used + 1 + z + 8) (omega arith) (omega (arith, ap length bits)) zeros_long
    (omega arith) (omega (arith, ap length bits))
    ∙ ap₂ (λ (a b : List ℕ). take used s ++ 128 ∷ (a ++ b) ++ drop (used + 1 + z + 8) s) zeros bits

use Rattle.std.proofs.Common.{◌≡◌, ℕ, ◌≤◌, List, ◌++◌, length, drop, arith, ap, ◌∙◌}
use Rattle.std.proofs.lemmas.List.{length-append, take_at}
use Rattle.sha1.specs.Sha1.{padding}
use Rattle.warc_lanes.proofs.CallerLemmas.{padded_front}
use Rattle.warc_lanes.proofs.each.put_last.Goals as goal

pub returns-clause-last : goal.returns-clause-last
returns-clause-last c =
    let tail : List ℕ = c.args.last.now in
    let rest : List ℕ = drop (length tail) c.args.buffer.now in
    let copied : c.copy_from_slice.new.self ≡ tail = c.copy_from_slice.ensures.after in
    let within : length tail ≤ length (c.copy_from_slice.new.self ++ rest) = omega (arith, length-append c.copy_from_slice.new.self rest, ap length copied) in
    padded_front _ c.pad.new.buffer tail (padding c.args.len) (length tail) c.pad.result
    (take_at c.copy_from_slice.new.self rest (length tail) (ap length copied) ∙ copied) within c.pad.ensures.end c.pad.ensures.padded

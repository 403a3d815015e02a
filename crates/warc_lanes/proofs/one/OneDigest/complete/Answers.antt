use Rattle.std.proofs.Common.{◌≡◌, ℕ, ◌-◌, ◌*◌, ◌/◌, ◌++◌, List, length, take, arith, ap, ◌∙◌}
use Rattle.std.proofs.lemmas.List.{length-take-le}
use Rattle.warc_lanes.proofs.OneLemmas.{block_completed, completed, whole_absorbed}
use Rattle.warc_lanes.proofs.PadLemmas.{length-written}
use Rattle.warc_lanes.proofs.one.OneDigest.complete.Goals as goal

pub returns-clause-absorbed : goal.returns-clause-absorbed
returns-clause-absorbed c taken held at =
    let old = c.args.self.now in
    let used : ℕ = c.args.used in
    let part : List ℕ = take (64 - used) c.args.piece.now in
    let copied : List ℕ = c.copy_from_slice.new.self in
    let same : copied ≡ part = c.copy_from_slice.ensures.after in
    let long : length copied ≡ 64 - used = ap length same ∙ length-take-le (64 - used) c.args.piece.now (omega arith) in
    block_completed old.state _ old.buffer taken part _ used held at
    (completed old.buffer copied used (64 - used) (omega arith)
    (length-written old.buffer copied used (64 - used) (omega arith) long ∙ omega arith) (omega arith)
    ∙ ap (λ (xs : List ℕ). take used old.buffer ++ xs) same)
    (c.compress_all.ensures (take (length taken / 64 * 64) taken) (whole_absorbed old.state old.buffer taken held))

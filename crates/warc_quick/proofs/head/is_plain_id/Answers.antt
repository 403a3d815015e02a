use Rattle.std.proofs.Common.{◌≡◌, ℕ, ◌-◌, ◌<◌, false, arith, length, take, drop, get_or, subst, ap}
use Rattle.warc_record.specs.Ids.{ends_id}
use Rattle.warc_record.proofs.IdLemmas.{plain_id}
use Rattle.warc_quick.proofs.head.is_plain_id.Goals as goal

pub returns : goal.returns
returns c = λ none.
    let value = c.args.value.now in
    let same : take (length value - 1 - 1) (drop 1 value) ≡ take (length value - 2) (drop 1 value) = ap (λ n. take n (drop 1 value)) (omega arith) in
    plain_id value (omega (arith, c.if-len.false)) (omega (arith, c.if-value-ne60.false)) (omega (arith, c.if-value-len-ne62.false))
    (subst (λ text. (k : ℕ) → k < length text → ends_id (get_or text k 0) ≡ false) same (c.holds_no_id_end.ensures none))

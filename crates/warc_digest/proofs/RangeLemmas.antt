-- Reading a range in two parts, and as much of it as is judged.
use Rattle.std.proofs.Common.{◌≡◌, ◌+◌, ◌≤◌, ℕ, arith}
use Rattle.warc_value.specs.declared.hash.Wanted.{Wanted}
use Rattle.warc_value.specs.declared.hash.Wanted.TheVariants.{Sha1, Unchecked}
use Rattle.warc_digest.specs.Judging.{judged_len}
use Rattle.warc_frame.specs.Effects.{ReadsOnly, ReadsRange}
use Rattle.warc_frame.specs.Seen.{IsInRange, SeenSource}
use Rattle.warc_frame.proofs.EffectLemmas.{reads_both, reads_within}

pub reads_more : (at done n m : ℕ) {old mid new : SeenSource} → m ≡ n → ReadsRange at done old mid
    → ReadsRange (at + done) m mid new → ReadsRange at (done + n) old new
reads_more at done n m {old} {mid} {new} same first has =
    let front : ReadsOnly (IsInRange at (done + n)) done old mid =
    reads_within (λ q in_. (in_.0, omega (arith, in_.1))) (omega arith) first in
    let last : ReadsOnly (IsInRange at (done + n)) n mid new =
    reads_within (λ q in_. (omega (arith, in_.0), omega (arith, in_.1, same))) (omega (arith, same)) has in
    reads_both front last

pub judged_within : (wanted : Wanted) (len : ℕ) → judged_len wanted len ≤ len
judged_within Unchecked len = omega arith
judged_within (Sha1 digest) len = omega arith

pub reads_judged : (wanted : Wanted) (at len : ℕ) {old new : SeenSource} → ReadsRange at (judged_len wanted len) old new
    → ReadsRange at len old new
reads_judged wanted at len has =
    let less = judged_within wanted len in
    reads_within (λ q in_. (in_.0, omega (arith, in_.1, less))) less has

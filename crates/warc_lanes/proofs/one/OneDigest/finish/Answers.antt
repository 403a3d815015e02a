use Rattle.std.proofs.Common.{◌≡◌, ◌*◌, ◌/◌, ◌%◌, length, take, arith, ap, ◌∙◌}
use Rattle.sha1.specs.Sha1.{sha1}
use Rattle.warc_lanes.proofs.DigestLemmas.{digest_is}
use Rattle.warc_lanes.proofs.OneLemmas.{one_digest_is, short_message, whole_absorbed}
use Rattle.warc_lanes.specs.Digests.{DigestHasTaken}
use Rattle.warc_lanes.proofs.one.OneDigest.finish.Goals as goal

pub returns : goal.returns
unfolding DigestHasTaken
returns c taken held =
    let old = c.args.self in
    let at : c.used-used.result ≡ length taken % 64 = omega (arith, c.used-used.ensures, held.len_is) in
    c.bytes_of.ensures
    ∙ digest_is _ taken
    (one_digest_is old.state _ old.buffer taken _ c.used-used.result old.len held.absorbed at held.len_is c.put_last-end.ensures.last
    (c.compress_all.ensures (take (length taken / 64 * 64) taken) (whole_absorbed old.state old.buffer taken held.absorbed)))

pub returns-then-not-self : goal.returns-then-not-self
unfolding DigestHasTaken
returns-then-not-self c taken held =
    let old = c.args.self in
    let at : c.used-used.result ≡ length taken % 64 = omega (arith, c.used-used.ensures, held.len_is) in
    c.digest.ensures ∙ ap sha1 (short_message old.state old.buffer taken c.used-used.result held.absorbed (held.short (cc)) at)

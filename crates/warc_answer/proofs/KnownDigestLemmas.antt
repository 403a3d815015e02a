-- The digest of a payload that was hashed before.
use Rattle.std.proofs.Common.{◌≡◌, Bool, true, false, List, ℕ, drop, Some, refl, ap}
use Rattle.httparse.specs.Grammar.{ResponseHead}
use Rattle.warc_fixity.specs.Judged.{digest_seen}
use Rattle.warc_fixity.specs.declared.hasher.Digest.{Digest}
use Rattle.warc_payload.specs.Head.{IsInfoOf}
use Rattle.warc_payload.specs.declared.HeadInfo.{HeadInfo}
use Rattle.warc_answer.specs.Hashed.{IsDigestIn, StoredPayload}
use Rattle.warc_answer.specs.Known.{IsDigestOfAny}
use Rattle.warc_answer.proofs.HashedLemmas.{after_digest, whole_digest}

-- what follows an HTTP head has the digest that any payload in the text has
pub after_known : (bad : Bool) (text : List ℕ) (info : HeadInfo) (head : ResponseHead) (digest : Digest) → bad ≡ false
    → IsInfoOf text info head → IsDigestOfAny true text digest
    → IsDigestIn bad true (digest_seen digest).0 text (Some (record { digest = digest; coded = info.transfer_coded }))
after_known bad text info head digest fine is of =
    let p : StoredPayload = record { coded = info.transfer_coded; bytes = drop info.head_len text } in
    after_digest bad text p.bytes info head (digest_seen digest).0 digest fine is refl
    (ap (λ h. ((digest_seen digest).0, h)) (of p (head, is.front, is.transfer_coded)))

-- so has the whole text
pub whole_known : (bad : Bool) (text : List ℕ) (digest : Digest) → bad ≡ false → IsDigestOfAny false text digest
    → IsDigestIn bad false (digest_seen digest).0 text (Some (record { digest = digest; coded = false }))
whole_known bad text digest fine of =
    whole_digest bad text (digest_seen digest).0 digest fine
    (ap (λ h. ((digest_seen digest).0, h)) (of (record { coded = false; bytes = text }) (refl, refl)))

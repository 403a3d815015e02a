-- The payload of a stored HTTP response, by its block: one of these three facts holds.
use Rattle.std.specs.Prelude.{◌≡◌, ℕ, List, IsTrue}
use Rattle.std.specs.Bool.{IsFalse}
use Rattle.httparse.specs.Grammar.{ResponseHead, status_code}
use Rattle.warc_payload.specs.Coding.{is_coded}
use Rattle.warc_payload.specs.Head.{BeginsWithHead}

-- the block is a head with this status, and then this body, which isn't coded
abbrev pub GivesBody : List ℕ → ℕ → List ℕ → Type 0
GivesBody block status body =
    (head : ResponseHead) × BeginsWithHead block head body × (status ≡ status_code head) × IsFalse (is_coded head)

-- the block is a head, and then a body that is coded
abbrev pub GivesCodedBody : List ℕ → Type 0
GivesCodedBody block =
    (head : ResponseHead) × (body : List ℕ) × BeginsWithHead block head body × IsTrue (is_coded head)

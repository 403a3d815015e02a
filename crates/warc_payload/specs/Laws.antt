-- The laws of the definitions.
use Rattle.std.specs.Prelude.{◌≡◌, ◌⊎◌, ℕ, List}
use Rattle.httparse.specs.Grammar.{ResponseHead}
use Rattle.warc_payload.specs.declared.HeadInfo.{HeadInfo}
use Rattle.warc_payload.specs.Head.{BeginsWithHead, HasNoHead, IsInfoOf, front_of}
use Rattle.warc_payload.specs.Payload.{GivesBody, GivesCodedBody}

-- at most one head is at the front of a text, and so are its info and what follows it
abbrev pub AtMostOneHead : Type 0
AtMostOneHead = (text : List ℕ) (head other : ResponseHead) (rest more : List ℕ)
    → BeginsWithHead text head rest → BeginsWithHead text other more → (head ≡ other) × (rest ≡ more)

-- what is said of a text is said once
abbrev pub AtMostOneInfo : Type 0
AtMostOneInfo = (text : List ℕ) (info reported : HeadInfo) (head other : ResponseHead)
    → IsInfoOf text info head → IsInfoOf text reported other → info ≡ reported

-- a block's front has the head of the whole block
abbrev pub FrontHasHead : Type 0
FrontHasHead = (block : List ℕ) (info : HeadInfo) (head : ResponseHead)
    → IsInfoOf (front_of block) info head → IsInfoOf block info head

-- and that it has none
abbrev pub FrontHasNoHead : Type 0
FrontHasNoHead = (block : List ℕ) → HasNoHead (front_of block) → HasNoHead block

-- a block gives at most one body, under one status
abbrev pub AtMostOneBody : Type 0
AtMostOneBody = (block : List ℕ) (status code : ℕ) (body bytes : List ℕ)
    → GivesBody block status body → GivesBody block code bytes → (status ≡ code) × (body ≡ bytes)

-- a block that gives a body gives no coded one
abbrev pub NoBodyWhereCoded : Type 0
NoBodyWhereCoded = (block : List ℕ) (status : ℕ) (body : List ℕ)
    → GivesBody block status body → ¬ GivesCodedBody block

-- each block gives a body after its HTTP head, or a coded one, or has no such head
abbrev pub OneOfThree : Type 0
OneOfThree =
    (block : List ℕ) → ((status : ℕ) × (body : List ℕ) × GivesBody block status body)
    ⊎ (GivesCodedBody block ⊎ HasNoHead block)

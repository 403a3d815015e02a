-- The head of an HTTP response (RFC 9112, sections 2 to 5) at the front of a text.
use Rattle.std.specs.Prelude.{◌≡◌, ℕ, ◌≤◌, List, length, take, drop}
use Rattle.httparse.specs.Grammar.{ResponseHead, ReadsResponse, print_response, status_code}
use Rattle.warc_payload.specs.Coding.{is_coded, is_transfer_coded}
use Rattle.warc_payload.specs.declared.HeadInfo.{HeadInfo}

-- the most bytes of a block in which its head is looked for, and the most field lines of a head
abbrev pub most_head_bytes : ℕ
most_head_bytes = 65_536

abbrev pub most_field_lines : ℕ
most_field_lines = 256

-- the text is the head, which is no longer, and then the rest
pub record BeginsWithHead (text : List ℕ) (head : ResponseHead) (rest : List ℕ) : Type 0 where
  pub reads : ReadsResponse text head rest
  pub size : length (print_response head) ≤ most_head_bytes
  pub lines : length head.fields ≤ most_field_lines

-- no such head is at the front of the text
abbrev pub HasNoHead : List ℕ → Type 0
HasNoHead text = (head : ResponseHead) (rest : List ℕ) → ¬ BeginsWithHead text head rest

-- the info is what this head says, which is at the front of the text
pub record IsInfoOf (text : List ℕ) (info : HeadInfo) (head : ResponseHead) : Type 0 where
  pub front : BeginsWithHead text head (drop info.head_len text)
  pub head_len : info.head_len ≡ length (print_response head)
  pub status : info.status ≡ status_code head
  pub coded : info.coded ≡ is_coded head
  pub transfer_coded : info.transfer_coded ≡ is_transfer_coded head

-- the part of a block in which a head is looked for
unfoldable pub front_of : List ℕ → List ℕ
front_of block = take most_head_bytes block

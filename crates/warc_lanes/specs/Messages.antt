-- Which message is in each lane, and how far it is hashed: states of the code. No public clause cites them.
use Rattle.std.specs.Prelude.{◌≡◌, ◌≢◌, ℕ, ◌+◌, ◌-◌, ◌*◌, ◌/◌, ◌%◌, ◌<◌, ◌≤◌, List, [], length, take, drop, min, slice_index, slice_index_or, slice_set, sum}
use Rattle.std.specs.Borrow.{Bor}
use Rattle.std.specs.List.{sum_by}
use Rattle.sha1.specs.Sha1.{padded_message, sha1}
use Rattle.warc_lanes.specs.Digests.{LaneHasTaken}
use Rattle.warc_lanes.specs.Lanes.{InEachLane, bytes_in}
use Rattle.warc_lanes.specs.declared.FourDigests.{FourDigests}
use Rattle.warc_lanes.specs.declared.each.Hashing.{Hashing}
use Rattle.warc_lanes.specs.declared.each.Padded.{Padded}

-- the length of a message's whole blocks
abbrev pub whole_len : List ℕ → ℕ
whole_len message = length message / 64 * 64

-- what is kept of a message: its length with its padding, and what follows its whole blocks
pub record IsPadded (message : List ℕ) (padded : Padded) : Type 0 where
  pub len_is : padded.len ≡ length (padded_message message)
  pub tail_is : take (padded.len - whole_len message) padded.tail ≡ drop (whole_len message) (padded_message message)

-- a piece is the next whole blocks of a message with its padding, of which `left` bytes are left
pub record IsNextPiece (message : List ℕ) (left : ℕ) (piece : List ℕ) : Type 0 where
  pub some : 0 < length piece
  pub blocks : length piece % 64 ≡ 0
  pub is : piece ≡ take (length piece) (drop (length (padded_message message) - left) (padded_message message))

abbrev pub no_message : Padded
no_message = record { index = 0; len = 0; tail = [] }

-- what is kept of the message in a lane, and its index
abbrev pub padded_in : Hashing → ℕ → Padded
padded_in hashing lane = slice_index_or hashing.padded lane no_message

abbrev pub index_in : Hashing → ℕ → ℕ
index_in hashing lane = (padded_in hashing lane).index

-- the message in a lane
abbrev pub message_in : List (Bor (List ℕ)) → Hashing → ℕ → List ℕ
message_in messages hashing lane = bytes_in (index_in hashing lane) messages

-- a lane has a message, of which whole blocks are left, or it has none
pub record IsLane (messages : List (Bor (List ℕ))) (hashing : Hashing) (lane : ℕ) : Type 0 where
  pub within : index_in hashing lane ≤ length messages
  pub idle : index_in hashing lane ≡ length messages → slice_index hashing.left lane ≡ 0
  pub message : index_in hashing lane < length messages →
      IsPadded (message_in messages hashing lane) (padded_in hashing lane)
  pub left_within : slice_index hashing.left lane ≤ (padded_in hashing lane).len
  pub left_blocks : slice_index hashing.left lane % 64 ≡ 0

-- what is not left of a lane's message is hashed
abbrev pub HasHashed : List (Bor (List ℕ)) → FourDigests → Hashing → ℕ → Type 0
HasHashed messages digests hashing lane = index_in hashing lane < length messages →
    LaneHasTaken digests lane (take ((padded_in hashing lane).len - slice_index hashing.left lane)
    (padded_message (message_in messages hashing lane)))

-- a lane has bytes left, unless all messages are begun
abbrev pub IsReady : List (Bor (List ℕ)) → Hashing → ℕ → Type 0
IsReady messages hashing lane = slice_index hashing.left lane ≡ 0 →
    (index_in hashing lane ≡ length messages) × (hashing.next ≡ length messages)

-- messages are being hashed: the digest of each that was begun and is in no lane is written
pub record IsHashing (messages : List (Bor (List ℕ))) (lanes : FourDigests) (hashing : Hashing)
    (digests : List (List ℕ)) : Type 0 where
  pub next_within : hashing.next ≤ length messages
  pub messages_in : InEachLane (IsLane messages hashing)
  pub taken : InEachLane (HasHashed messages lanes hashing)
  pub room : length digests ≡ length messages
  pub given : (i : ℕ) → i < hashing.next → InEachLane (λ lane. index_in hashing lane ≢ i) →
      slice_index_or digests i [] ≡ sha1 (bytes_in i messages)

-- a lane begins the next message, if there is one
pub record Begins (messages : List (Bor (List ℕ))) (old new : Hashing) (lane : ℕ) : Type 0 where
  pub padded_is : new.padded ≡ slice_set old.padded lane (padded_in new lane)
  pub left_is : new.left ≡ slice_set old.left lane (padded_in new lane).len
  pub left_in : slice_index new.left lane ≡ (padded_in new lane).len
  pub index_is : index_in new lane ≡ old.next
  pub message : old.next < length messages → IsPadded (bytes_in old.next messages) (padded_in new lane)
  pub none : old.next ≡ length messages → (padded_in new lane).len ≡ 0
  pub next_is : new.next ≡ min (old.next + 1) (length messages)

-- the sum of the lengths of messages with their padding
abbrev pub padded_sum : List (Bor (List ℕ)) → ℕ
padded_sum messages = sum_by (λ message. length (padded_message message.now)) messages

-- how many bytes are left in the lanes and in the messages that were not begun
abbrev pub bytes_left : List (Bor (List ℕ)) → Hashing → ℕ
bytes_left messages hashing = sum hashing.left + padded_sum (drop hashing.next messages)

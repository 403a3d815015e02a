-- Which messages are in the lanes, and which digests are given, at each step of the code that hashes many messages.
use Rattle.std.proofs.Common.{◌≡◌, ◌≢◌, ℕ, ◌+◌, ◌-◌, ◌%◌, ◌<◌, ◌≤◌, List, [], ◌∷◌, ◌++◌, length, take, drop, map, min, slice_index, slice_index_or, slice_set, sum, arith, refl, ap, sym, ◌∙◌, inl, inr}
use Rattle.std.specs.Borrow.{Bor}
use Rattle.std.proofs.lemmas.Bool.{cases_eq, cases_lt}
use Rattle.std.proofs.lemmas.List.{ext_get_or, get_or-map, get_or-set_other, get_or-set_same, length-map, length-set, take_all}
use Rattle.std.proofs.lemmas.List.Sums.{sum_by-drop_more, sum_by-set}
use Rattle.sha1.specs.Sha1.{padded_message, sha1}
use Rattle.warc_lanes.specs.Digests.{LaneHasTaken}
use Rattle.warc_lanes.specs.Lanes.{InEachLane, bytes_in, shortest}
use Rattle.warc_lanes.specs.Messages.{Begins, HasHashed, IsHashing, IsLane, IsNextPiece, IsReady, bytes_left, index_in, message_in, no_message, padded_in, padded_sum}
use Rattle.warc_lanes.specs.declared.FourDigests.{FourDigests}
use Rattle.warc_lanes.specs.declared.each.Hashing.{Hashing}
use Rattle.warc_lanes.specs.declared.each.Padded.{Padded}
use Rattle.warc_lanes.proofs.CallerLemmas.{taken_along}
use Rattle.warc_lanes.proofs.DigestLemmas.{shortest_le}
use Rattle.warc_lanes.proofs.LaneLemmas.{of_lanes}
use Rattle.warc_lanes.proofs.PieceLemmas.{more_taken, padded_is_some, padded_is_whole}

-- ---- bytes left

-- the sum of four numbers
four_summed : (xs : List ℕ) → length xs ≡ 4 → sum xs ≡ slice_index xs 0 + slice_index xs 1 + slice_index xs 2 + slice_index xs 3
four_summed (a ∷ b ∷ c ∷ d ∷ []) h = omega arith
four_summed [] h = absurd (omega arith)
four_summed (a ∷ []) h = absurd (omega arith)
four_summed (a ∷ b ∷ []) h = absurd (omega arith)
four_summed (a ∷ b ∷ c ∷ []) h = absurd (omega arith)
four_summed (a ∷ b ∷ c ∷ d ∷ e ∷ xs) h = absurd (omega arith)

-- less is left in four lanes after a step, where one had bytes left
pub less_left : (old : List ℕ) (a b c d n lane : ℕ) → length old ≡ 4 → a ≡ slice_index old 0 - n → b ≡ slice_index old 1 - n → c ≡ slice_index old 2 - n
    → d ≡ slice_index old 3 - n → lane < 4 → 0 < n → 0 < slice_index old lane → sum (a ∷ b ∷ c ∷ d ∷ []) < sum old
less_left old a b c d n lane room first second third fourth below some left =
    let before = four_summed old room in
    of_lanes (λ j. 0 < slice_index old j → sum (a ∷ b ∷ c ∷ d ∷ []) < sum old) (λ h. omega arith) (λ h. omega arith) (λ h. omega arith) (λ h. omega arith) lane below left

abbrev nothing : Bor (List ℕ)
nothing = record { ref_ptr = (0, 0); now = [] }

-- a message, read in two ways
pub bytes_in_is : (messages : List (Bor (List ℕ))) (i : ℕ) (d : Bor (List ℕ)) → i < length messages → bytes_in i messages ≡ (slice_index_or messages i d).now
bytes_in_is messages i d below = get_or-map (λ (message : Bor (List ℕ)). message.now) messages i d [] below

-- what is left stays the same where a lane that has ended begins the next message
pub left_along : (messages : List (Bor (List ℕ))) (left : List ℕ) (lane len next new_next : ℕ) → lane < length left → slice_index left lane ≡ 0 → next ≤ length messages
    → (next < length messages → len ≡ length (padded_message (bytes_in next messages))) → (next ≡ length messages → len ≡ 0)
    → new_next ≡ min (next + 1) (length messages)
    → sum (slice_set left lane len) + padded_sum (drop new_next messages) ≡ sum left + padded_sum (drop next messages)
left_along messages left lane len next new_next below ended within long none step =
    let at_lane : sum (slice_set left lane len) ≡ sum left + len = omega (arith, sum_by-set (λ (x : ℕ). x) left lane len 0 below) in
    elim (cases_lt next (length messages)) [
      | inl more ↦
          let one : new_next ≡ next + 1 = omega arith in
          let first : len ≡ length (padded_message (slice_index_or messages next nothing).now) =
          long more ∙ ap (λ (m : List ℕ). length (padded_message m)) (bytes_in_is messages next nothing more) in
          let rest : padded_sum (drop new_next messages) ≡ padded_sum (drop (next + 1) messages) = ap (λ (n : ℕ). padded_sum (drop n messages)) one in
          omega (arith, sum_by-drop_more (λ (message : Bor (List ℕ)). length (padded_message message.now)) messages next nothing more)
      | inr all ↦
          let same : new_next ≡ next = omega arith in
          let rest : padded_sum (drop new_next messages) ≡ padded_sum (drop next messages) = ap (λ (n : ℕ). padded_sum (drop n messages)) same in
          let zero_len : len ≡ 0 = none (omega arith) in
          omega arith
    ]

-- less is left after a step of all lanes
pub step_less : (messages : List (Bor (List ℕ))) (old stepped new : Hashing) → bytes_left messages new ≡ bytes_left messages stepped → stepped.next ≡ old.next
    → sum stepped.left < sum old.left → bytes_left messages new < bytes_left messages old
step_less messages old stepped new same next less =
    let rest : padded_sum (drop stepped.next messages) ≡ padded_sum (drop old.next messages) = ap (λ (n : ℕ). padded_sum (drop n messages)) next in
    omega arith

-- ---- a step of all lanes

-- a lane whose message stays, and of which n bytes fewer are left
lane_along : (messages : List (Bor (List ℕ))) (old new : Hashing) (j n : ℕ) → IsLane messages old j → padded_in new j ≡ padded_in old j
    → slice_index new.left j ≡ slice_index old.left j - n → n % 64 ≡ 0 → IsLane messages new j
lane_along messages old new j n held same left blocks =
    let index : index_in new j ≡ index_in old j = ap (λ (p : Padded). p.index) same in
    record {
      within = rw index held.within;
      idle = λ e. omega (arith, held.idle (sym index ∙ e));
      message = rw (message_in, index, same) held.message;
      left_within = rw (same, left) (omega (arith, held.left_within));
      left_blocks = rw left (omega (arith, held.left_blocks));
    }

left_some : (messages : List (Bor (List ℕ))) (hashing : Hashing) (j : ℕ) → IsReady messages hashing j → index_in hashing j < length messages → 0 < slice_index hashing.left j
left_some messages hashing j ready below = elim (cases_lt 0 (slice_index hashing.left j)) [
  | inl some ↦ some
  | inr none ↦ absurd (omega (arith, (ready (omega arith)).0))
]

lane_taken : (messages : List (Bor (List ℕ))) (lanes lanes' : FourDigests) (old new : Hashing) (j n : ℕ) (piece : List ℕ) → IsLane messages old j → IsReady messages old j
    → HasHashed messages lanes old j → padded_in new j ≡ padded_in old j → slice_index new.left j ≡ slice_index old.left j - n
    → (0 < slice_index old.left j → IsNextPiece (message_in messages old j) (slice_index old.left j) piece) → n ≤ length piece
    → ((taken : List ℕ) → LaneHasTaken lanes j taken → LaneHasTaken lanes' j (taken ++ take n piece)) → HasHashed messages lanes' new j
lane_taken messages lanes lanes' old new j n piece held ready taken same left next fits hashed =
    let index : index_in new j ≡ index_in old j = ap (λ (p : Padded). p.index) same in
    rw (message_in, index, same, left) (λ below.
    let some : 0 < slice_index old.left j = left_some messages old j ready below in
    let len_is = (held.message below).len_is in
    taken_along lanes' j _ _ (hashed _ (taken below))
    (more_taken (message_in messages old j) piece (padded_in old j).len (slice_index old.left j) n len_is held.left_within (next some) fits))

pub advanced : (messages pieces : List (Bor (List ℕ))) (lanes lanes' : FourDigests) (old new : Hashing) (digests : List (List ℕ)) (n : ℕ) → IsHashing messages lanes old digests
    → InEachLane (IsReady messages old) → new.padded ≡ old.padded → new.next ≡ old.next → InEachLane (λ j. slice_index new.left j ≡ slice_index old.left j - n)
    → InEachLane (λ j. 0 < slice_index old.left j → IsNextPiece (message_in messages old j) (slice_index old.left j) (bytes_in j pieces)) → n ≡ shortest pieces → n % 64 ≡ 0
    → InEachLane (λ j. (taken : List ℕ) → LaneHasTaken lanes j taken → LaneHasTaken lanes' j (taken ++ take n (bytes_in j pieces)))
    → IsHashing messages lanes' new digests
advanced messages pieces lanes lanes' old new digests n held ready padded next left pieces_next short blocks hashed =
    let same : (j : ℕ) → padded_in new j ≡ padded_in old j = λ j. ap (λ (ps : List Padded). slice_index_or ps j no_message) padded in
    record {
      next_within = rw next held.next_within;
      messages_in = λ j h. lane_along messages old new j n (held.messages_in j h) (same j) (left j h) blocks;
      taken = λ j h. lane_taken messages lanes lanes' old new j n (bytes_in j pieces) (held.messages_in j h) (ready j h) (held.taken j h) (same j) (left j h) (pieces_next j h)
          (omega (arith, shortest_le pieces j h)) (hashed j h);
      room = held.room;
      given = λ i below none. held.given i (omega arith) (λ j h e. none j h (ap (λ (p : Padded). p.index) (same j) ∙ e));
    }

-- ---- a lane begins the next message

-- the lanes that stay as they are
other_padded : (messages : List (Bor (List ℕ))) (old new : Hashing) (lane j : ℕ) → Begins messages old new lane → j ≢ lane → padded_in new j ≡ padded_in old j
other_padded messages old new lane j begins differs =
    ap (λ (ps : List Padded). slice_index_or ps j no_message) begins.padded_is ∙ get_or-set_other old.padded lane j (padded_in new lane) no_message differs

other_left : (messages : List (Bor (List ℕ))) (old new : Hashing) (lane j : ℕ) → Begins messages old new lane → j ≢ lane → slice_index new.left j ≡ slice_index old.left j
other_left messages old new lane j begins differs =
    ap (λ (ns : List ℕ). slice_index ns j) begins.left_is ∙ get_or-set_other old.left lane j (padded_in new lane).len 0 differs

-- how long what a lane begins is: whole blocks, and none where no message is left
begun_len : (messages : List (Bor (List ℕ))) (old new : Hashing) (lane : ℕ) → Begins messages old new lane → old.next ≤ length messages
    → ((padded_in new lane).len % 64 ≡ 0) × ((padded_in new lane).len ≡ 0 → old.next ≡ length messages)
begun_len messages old new lane begins within = elim (cases_lt old.next (length messages)) [
  | inl more ↦
      let long = (begins.message more).len_is in
      (omega (arith, padded_is_whole (bytes_in old.next messages)), λ e. absurd (omega (arith, long, padded_is_some (bytes_in old.next messages))))
  | inr none ↦
      let zero_len : (padded_in new lane).len ≡ 0 = begins.none (omega arith) in
      (omega arith, λ e. omega arith)
]

lane_begun : (messages : List (Bor (List ℕ))) (old new : Hashing) (lane : ℕ) → Begins messages old new lane → old.next ≤ length messages → IsLane messages new lane
lane_begun messages old new lane begins within =
    let len = begun_len messages old new lane begins within in
    let left_in : slice_index new.left lane ≡ (padded_in new lane).len = begins.left_in in
    let index : index_in new lane ≡ old.next = begins.index_is in
    record {
      within = omega arith;
      idle = λ e. left_in ∙ begins.none (sym index ∙ e);
      message = λ below. rw index (begins.message (omega arith));
      left_within = omega arith;
      left_blocks = omega (arith, len.0);
    }

-- no message is left where a lane begins none
pub ready_begun : (messages : List (Bor (List ℕ))) (old new : Hashing) (lane : ℕ) → Begins messages old new lane → old.next ≤ length messages → IsReady messages new lane
ready_begun messages old new lane begins within = λ ended.
    let none : old.next ≡ length messages = (begun_len messages old new lane begins within).1 (sym begins.left_in ∙ ended) in
    (begins.index_is ∙ none, omega (arith, begins.next_is))

pub ready_along : (messages : List (Bor (List ℕ))) (old new : Hashing) (lane j : ℕ) → Begins messages old new lane → j ≢ lane → IsReady messages old j → IsReady messages new j
ready_along messages old new lane j begins differs ready = λ ended.
    let was = ready (sym (other_left messages old new lane j begins differs) ∙ ended) in
    (ap (λ (p : Padded). p.index) (other_padded messages old new lane j begins differs) ∙ was.0, omega (arith, was.1, begins.next_is))

-- the digest of a message that has ended
ended_digest : (messages : List (Bor (List ℕ))) (lanes : FourDigests) (hashing : Hashing) (lane : ℕ) (digest : List ℕ) → IsLane messages hashing lane
    → HasHashed messages lanes hashing lane → slice_index hashing.left lane ≡ 0
    → ((message : List ℕ) → LaneHasTaken lanes lane (padded_message message) → digest ≡ sha1 message) → index_in hashing lane < length messages
    → digest ≡ sha1 (message_in messages hashing lane)
ended_digest messages lanes hashing lane digest held taken ended finished below =
    let m : List ℕ = message_in messages hashing lane in
    let done : ℕ = (padded_in hashing lane).len - slice_index hashing.left lane in
    let len_is = (held.message below).len_is in
    finished m (taken_along lanes lane _ _ (taken below) (take_all done (padded_message m) (omega arith)))

-- the digests that are given once that one is
digests_given : (messages : List (Bor (List ℕ))) (lanes : FourDigests) (old new : Hashing) (digests : List (List ℕ)) (lane : ℕ) (digest : List ℕ)
    → IsHashing messages lanes old digests → Begins messages old new lane → lane < 4 → (index_in old lane < length messages → digest ≡ sha1 (message_in messages old lane))
    → (i : ℕ) → i < new.next → InEachLane (λ j. index_in new j ≢ i) → slice_index_or (slice_set digests (index_in old lane) digest) i [] ≡ sha1 (bytes_in i messages)
digests_given messages lanes old new digests lane digest held begins lane_below right i below none =
    let at : ℕ = index_in old lane in
    let not_next : old.next ≡ i → ⊥ = λ e. none lane lane_below (begins.index_is ∙ e) in
    let differs : i ≢ old.next = λ e. not_next (sym e) in
    let early : i < old.next = omega (arith, begins.next_is) in
    elim (cases_eq i at) [
      | inl here ↦
          let fits : at < length digests = omega (arith, held.room, held.next_within) in
          let within : at < length messages = omega (arith, held.next_within) in
          rw here (get_or-set_same digests at digest [] fits ∙ right within)
      | inr elsewhere ↦
          get_or-set_other digests at i digest [] elsewhere
          ∙ held.given i early (λ j h e. elim (cases_eq j lane) [
            | inl same ↦ elsewhere (sym (ap (index_in old) (sym same) ∙ e))
            | inr other ↦ none j h (ap (λ (p : Padded). p.index) (other_padded messages old new lane j begins other) ∙ e)
          ])
    ]

-- each lane after that
messages_after : (messages : List (Bor (List ℕ))) (lanes : FourDigests) (old new : Hashing) (digests : List (List ℕ)) (lane : ℕ) → IsHashing messages lanes old digests
    → Begins messages old new lane → InEachLane (IsLane messages new)
messages_after messages lanes old new digests lane held begins = λ j h. elim (cases_eq j lane) [
  | inl same ↦ rw same (lane_begun messages old new lane begins held.next_within)
  | inr other ↦
      lane_along messages old new j 0 (held.messages_in j h) (other_padded messages old new lane j begins other)
      (other_left messages old new lane j begins other ∙ omega arith) refl
]

taken_after : (messages : List (Bor (List ℕ))) (lanes lanes' : FourDigests) (old new : Hashing) (digests : List (List ℕ)) (lane : ℕ) → IsHashing messages lanes old digests
    → Begins messages old new lane → LaneHasTaken lanes' lane []
    → ((other : ℕ) (taken : List ℕ) → other ≢ lane → LaneHasTaken lanes other taken → LaneHasTaken lanes' other taken) → InEachLane (HasHashed messages lanes' new)
taken_after messages lanes lanes' old new digests lane held begins begun others = λ j h. elim (cases_eq j lane) [
  | inl same ↦
      rw same (λ below.
      let none : (padded_in new lane).len - slice_index new.left lane ≡ 0 = omega (arith, begins.left_in) in
      taken_along lanes' lane _ _ begun (ap (λ (n : ℕ). take n (padded_message (message_in messages new lane))) (sym none)))
  | inr other ↦
      let same = other_padded messages old new lane j begins other in
      let index : index_in new j ≡ index_in old j = ap (λ (p : Padded). p.index) same in
      rw (message_in, index, same, other_left messages old new lane j begins other) (λ below. others j _ other (held.taken j h below))
]

pub refilled : (messages : List (Bor (List ℕ))) (lanes lanes' : FourDigests) (old new : Hashing) (digests digests' : List (List ℕ)) (lane : ℕ) (digest : List ℕ)
    → IsHashing messages lanes old digests → lane < 4 → slice_index old.left lane ≡ 0
    → ((message : List ℕ) → LaneHasTaken lanes lane (padded_message message) → digest ≡ sha1 message) → LaneHasTaken lanes' lane []
    → ((other : ℕ) (taken : List ℕ) → other ≢ lane → LaneHasTaken lanes other taken → LaneHasTaken lanes' other taken)
    → digests' ≡ slice_set digests (index_in old lane) digest → Begins messages old new lane → IsHashing messages lanes' new digests'
refilled messages lanes lanes' old new digests digests' lane digest held below ended finished begun others put begins =
    let right : index_in old lane < length messages → digest ≡ sha1 (message_in messages old lane) =
    ended_digest messages lanes old lane digest (held.messages_in lane below) (held.taken lane below) ended finished in
    record {
      next_within = omega (arith, begins.next_is, held.next_within);
      messages_in = messages_after messages lanes old new digests lane held begins;
      taken = taken_after messages lanes lanes' old new digests lane held begins begun others;
      room = ap length put ∙ length-set digests (index_in old lane) digest ∙ held.room;
      given = rw put (digests_given messages lanes old new digests lane digest held begins below right);
    }

-- ---- the beginning and the end

-- no message is begun
pub none_begun : (messages : List (Bor (List ℕ))) (lanes : FourDigests) (hashing : Hashing) (digests : List (List ℕ)) → length digests ≡ length messages
    → InEachLane (λ j. index_in hashing j ≡ length messages) → InEachLane (λ j. slice_index hashing.left j ≡ 0) → hashing.next ≡ 0
    → IsHashing messages lanes hashing digests
none_begun messages lanes hashing digests room idle ended next = record {
  next_within = omega arith;
  messages_in = λ j h.
      let index = idle j h in
      let left = ended j h in
      record {
        within = omega arith;
        idle = λ e. left;
        message = λ below. absurd (omega arith);
        left_within = omega arith;
        left_blocks = rw left refl;
      };
  taken = λ j h below. absurd (omega (arith, idle j h));
  room = room;
  given = λ i below none. absurd (omega arith);
}

-- all digests are given where each lane has ended
pub all_given : (messages : List (Bor (List ℕ))) (lanes : FourDigests) (hashing : Hashing) (digests : List (List ℕ)) → IsHashing messages lanes hashing digests
    → InEachLane (IsReady messages hashing) → InEachLane (λ j. slice_index hashing.left j ≡ 0) → digests ≡ map (λ message. sha1 message.now) messages
all_given messages lanes hashing digests held ready ended =
    let next : hashing.next ≡ length messages = (ready 0 (omega arith) (ended 0 (omega arith))).1 in
    ext_get_or [] digests (map (λ (message : Bor (List ℕ)). sha1 message.now) messages) (held.room ∙ sym (length-map messages (λ (message : Bor (List ℕ)). sha1 message.now)))
    (λ i below.
    let within : i < length messages = omega (arith, held.room) in
    held.given i (omega arith) (λ j h e. omega (arith, (ready j h (ended j h)).0))
    ∙ ap sha1 (bytes_in_is messages i nothing within)
    ∙ sym (get_or-map (λ (message : Bor (List ℕ)). sha1 message.now) messages i nothing [] within))

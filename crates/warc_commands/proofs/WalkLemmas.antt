-- Walks over the pieces of a source.
use Rattle.std.proofs.Common.{◌≡◌, ℕ, ◌+◌, ◌^◌, ◌<◌, ◌≤◌, Bool, true, false, List, [], ◌∷◌, ◌++◌, length, length-drop, take, drop, Option, None, Some, Result, Ok, Err, refl, sym, ap, subst, ◌∙◌, arith, ⊎_elim}
use Rattle.std.proofs.lemmas.List.{length-take}
use Rattle.warc_frame.specs.Record.{max_archive}
use Rattle.warc_frame.specs.Seen.{IfHeld, SeenSource}
use Rattle.warc_frame.specs.declared.fault.Fault.{Fault}
use Rattle.warc_reading.specs.Fronts.{reach_of}
use Rattle.warc_pieces.specs.Laws.{count_in, offset_of}
use Rattle.warc_pieces.specs.Pieces.{AreFirst, IsPiece, piece_len, near}
use Rattle.warc_pieces.specs.Reader.{Advances, AreBefore, GivesMore, GoesBy, AreGiven, faults_after_stop}
use Rattle.warc_pieces.specs.declared.piece.Piece.{Piece}
use Rattle.warc_pieces.specs.declared.piece.Piece.TheVariants.{Records, Damage}
use Rattle.warc_pieces.proofs.PieceLemmas.{first_within, piece_within}
use Rattle.warc_commands.specs.Pieces.{good_bytes_in, has_damage, records_in}
use Rattle.warc_commands.specs.Reads.{AsksNear}
use Rattle.warc_commands.specs.Walking.{HasEnded, HasWalked, IsTallyOf}
use Rattle.warc_commands.specs.declared.walk.Tally.{Tally}

-- ---- one more piece in the counts

pub records_more : (pieces : List Piece) (piece : Piece) → records_in (pieces ++ piece ∷ []) ≡ records_in pieces + count_in piece
records_more [] (Records offset len count) = omega arith
records_more [] (Damage offset len fault) = refl
records_more (Records offset len count ∷ pieces) piece = omega (arith, records_more pieces piece)
records_more (Damage offset len fault ∷ pieces) piece = records_more pieces piece

pub bytes_more : (pieces : List Piece) (offset len count : ℕ) → good_bytes_in (pieces ++ Records offset len count ∷ []) ≡ good_bytes_in pieces + len
bytes_more [] offset len count = omega arith
bytes_more (Records o l n ∷ pieces) offset len count = omega (arith, bytes_more pieces offset len count)
bytes_more (Damage o l fault ∷ pieces) offset len count = bytes_more pieces offset len count

pub bytes_same : (pieces : List Piece) (offset len : ℕ) (fault : Fault) → good_bytes_in (pieces ++ Damage offset len fault ∷ []) ≡ good_bytes_in pieces
bytes_same [] offset len fault = refl
bytes_same (Records o l n ∷ pieces) offset len fault = ap (λ k. l + k) (bytes_same pieces offset len fault)
bytes_same (Damage o l f ∷ pieces) offset len fault = bytes_same pieces offset len fault

pub bytes_most : (pieces : List Piece) (piece : Piece) → good_bytes_in (pieces ++ piece ∷ []) ≤ good_bytes_in pieces + piece_len piece
bytes_most pieces (Records offset len count) = omega (arith, bytes_more pieces offset len count)
bytes_most pieces (Damage offset len fault) = omega (arith, bytes_same pieces offset len fault)

pub damage_same : (pieces : List Piece) (offset len count : ℕ) → has_damage (pieces ++ Records offset len count ∷ []) ≡ has_damage pieces
damage_same [] offset len count = refl
damage_same (Records o l n ∷ pieces) offset len count = damage_same pieces offset len count
damage_same (Damage o l fault ∷ pieces) offset len count = refl

pub damage_more : (pieces : List Piece) (offset len : ℕ) (fault : Fault) → has_damage (pieces ++ Damage offset len fault ∷ []) ≡ true
damage_more [] offset len fault = refl
damage_more (Records o l n ∷ pieces) offset len fault = damage_more pieces offset len fault
damage_more (Damage o l f ∷ pieces) offset len fault = refl

-- the records of good pieces are no more than their bytes
pub order_more : (pieces : List Piece) (piece : Piece) → records_in pieces ≤ good_bytes_in pieces → count_in piece ≤ piece_len piece → records_in (pieces ++ piece ∷ []) ≤ good_bytes_in (pieces ++ piece ∷ [])
order_more pieces (Records offset len count) low few = omega (arith, low, few, records_more pieces (Records offset len count), bytes_more pieces offset len count)
order_more pieces (Damage offset len fault) low few = omega (arith, low, records_more pieces (Damage offset len fault), bytes_same pieces offset len fault)

pub tally_run : (tally : Tally) (pieces : List Piece) (piece : Piece) (offset len count : ℕ) → piece ≡ Records offset len count → IsTallyOf tally pieces
    → IsTallyOf (record { records = tally.records + count; bytes = tally.bytes + len; is_damaged = tally.is_damaged }) (pieces ++ piece ∷ [])
tally_run tally pieces piece offset len count same is =
    let P : Piece → Type 0 = λ p. IsTallyOf (record { records = tally.records + count; bytes = tally.bytes + len; is_damaged = tally.is_damaged }) (pieces ++ p ∷ []) in
    subst P (sym same) (record {
      records_is = omega (arith, is.records_is, records_more pieces (Records offset len count));
      bytes_is = omega (arith, is.bytes_is, bytes_more pieces offset len count);
      damage_is = is.damage_is ∙ sym (damage_same pieces offset len count);
    })

pub tally_damage : (tally : Tally) (pieces : List Piece) (piece : Piece) (offset len : ℕ) (fault : Fault) → piece ≡ Damage offset len fault → IsTallyOf tally pieces
    → IsTallyOf (record { records = tally.records; bytes = tally.bytes; is_damaged = true }) (pieces ++ piece ∷ [])
tally_damage tally pieces piece offset len fault same is =
    let P : Piece → Type 0 = λ p. IsTallyOf (record { records = tally.records; bytes = tally.bytes; is_damaged = true }) (pieces ++ p ∷ []) in
    subst P (sym same) (record {
      records_is = omega (arith, is.records_is, records_more pieces (Damage offset len fault));
      bytes_is = is.bytes_is ∙ sym (bytes_same pieces offset len fault);
      damage_is = sym (damage_more pieces offset len fault);
    })

-- ---- one more step

-- a walk begins
pub walk_begins : (s : SeenSource) (at : ℕ) (failure : Option Fault) (tally : Tally) → at ≡ 0 → failure ≡ None → tally ≡ record { records = 0; bytes = 0; is_damaged = false } → HasWalked s s at failure tally []
walk_begins s at failure tally start sound none =
    let F : Option Fault → Type 0 = λ x. IfHeld s.holds (λ bytes. AreGiven bytes at x []) in
    record {
      given = subst F (sym sound) (λ bytes held. start);
      kept = record { kept = refl; watched = refl };
      near = λ off. refl;
      cause = sym (ap (λ x. faults_after_stop x s.faults) sound);
      counted = record { records_is = ap (λ (t : Tally). t.records) none; bytes_is = ap (λ (t : Tally). t.bytes) none; damage_is = ap (λ (t : Tally). t.is_damaged) none };
      order = omega (arith, ap (λ (t : Tally). t.records) none);
      within = omega (arith, ap (λ (t : Tally). t.bytes) none);
      limit = omega (arith, start);
    }

-- a reader that gives something hasn't failed
sound_before : (before : Option Fault) (x : Option Piece) (answer : Result (Option Piece) Fault) → answer ≡ Ok x → ((f : Fault) → before ≡ Some f → answer ≡ Err f) → before ≡ None
sound_before None x answer is failed = refl
sound_before (Some f) x answer is failed =
    let no : ◌≡◌ {A = Result (Option Piece) Fault} (Ok x) (Err f) = sym is ∙ failed f refl in
    absurd (cc no)

pub asks_both : (begun old now : SeenSource) → old.watches ≡ begun.watches → AsksNear begun old → AsksNear old now → AsksNear begun now
asks_both begun old now watched first then = λ off. then (λ q low. ap (λ (w : ℕ → Bool). w q) watched ∙ off q low) ∙ first off

module _ (begun old now : SeenSource) (at after : ℕ) (before failure : Option Fault) (tally more : Tally) (given : List Piece) (answer : Result (Option Piece) Fault)
    (walked : HasWalked begun old at before tally given)
    (gives : IfHeld old.holds (λ bytes. (pieces : List Piece) → AreGiven bytes at before pieces → GivesMore bytes after failure pieces answer))
    (advances : before ≡ None → Advances old now at after failure answer)
    (failed : (f : Fault) → before ≡ Some f → (answer ≡ Err f) × (now ≡ old)) where
  gives_now : (a : Result (Option Piece) Fault) → answer ≡ a → IfHeld begun.holds (λ bytes. GivesMore bytes after failure given a)
  gives_now a is bytes held =
      let P : Result (Option Piece) Fault → Type 0 = λ x. GivesMore bytes after failure given x in
      subst P is (gives bytes (walked.kept.kept ∙ held) given (walked.given bytes held))

  goes_now : (a : Result (Option Piece) Fault) → answer ≡ a → before ≡ None → GoesBy at after failure a
  goes_now a is none =
      let P : Result (Option Piece) Fault → Type 0 = λ x. GoesBy at after failure x in
      subst P is (advances none).goes

  -- before a failure, the source has failed as often as at the beginning
  cause_now : before ≡ None → now.faults ≡ faults_after_stop failure begun.faults
  cause_now none =
      let same : old.faults ≡ begun.faults = walked.cause ∙ ap (λ x. faults_after_stop x begun.faults) none in
      (advances none).cause ∙ ap (faults_after_stop failure) same

  -- by a piece
  pub walk_more : (piece : Piece) → answer ≡ Ok (Some piece) → ((pieces : List Piece) → IsTallyOf tally pieces → IsTallyOf more (pieces ++ piece ∷ []))
      → HasWalked begun now after failure more (given ++ piece ∷ []) × (at < after) × (offset_of piece + piece_len piece ≤ max_archive)
  walk_more piece is counts =
      let none = sound_before before (Some piece) answer is (λ f same. (failed f same).0) in
      let adv = advances none in
      let (place, end, some, few) = goes_now (Ok (Some piece)) is none in
      let counted = counts given walked.counted in
      let low : records_in given ≤ good_bytes_in given = omega (arith, walked.order, walked.counted.records_is, walked.counted.bytes_is) in (
        record {
          given = gives_now (Ok (Some piece)) is;
          kept = record { kept = adv.kept ∙ walked.kept.kept; watched = adv.watched ∙ walked.kept.watched };
          near = asks_both begun old now walked.kept.watched walked.near adv.near;
          cause = cause_now none;
          counted = counted;
          order = omega (arith, order_more given piece low few, counted.records_is, counted.bytes_is);
          within = omega (arith, bytes_most given piece, counted.bytes_is, walked.counted.bytes_is, walked.within, end);
          limit = adv.limit;
        },
        omega (arith, end, some),
        omega (arith, place, end, adv.limit),
      )

  -- there is room for it in the counts
  pub walk_room : (piece : Piece) → answer ≡ Ok (Some piece) → (tally.records + count_in piece < 2 ^ 64) × (tally.bytes + piece_len piece < 2 ^ 64)
  walk_room piece is =
      let none = sound_before before (Some piece) answer is (λ f same. (failed f same).0) in
      let adv = advances none in
      let (place, end, some, few) = goes_now (Ok (Some piece)) is none in
      (omega (arith, end, few, walked.order, walked.within, adv.limit), omega (arith, end, walked.within, adv.limit))

  -- to the end
  pub walk_end : answer ≡ Ok None → HasEnded begun now at None tally given
  walk_end is =
      let none = sound_before before None answer is (λ f same. (failed f same).0) in
      let adv = advances none in
      let sound = (goes_now (Ok None) is none).1 in
      let P : Option Fault → Type 0 = λ x. IfHeld begun.holds (λ bytes. AreGiven bytes at x given) in
      record {
        walked = record {
          given = subst P none walked.given;
          kept = record { kept = adv.kept ∙ walked.kept.kept; watched = adv.watched ∙ walked.kept.watched };
          near = asks_both begun old now walked.kept.watched walked.near adv.near;
          cause = cause_now none ∙ ap (λ x. faults_after_stop x begun.faults) sound;
          counted = walked.counted;
          order = walked.order;
          within = walked.within;
          limit = walked.limit;
        };
        are = gives_now (Ok None) is;
      }

  -- to a failure
  stop_walked : (f : Fault) → answer ≡ Err f → now.holds ≡ old.holds → now.watches ≡ old.watches → AsksNear old now → now.faults ≡ faults_after_stop (Some f) begun.faults → HasEnded begun now at (Some f) tally given
  stop_walked f is kept watched near cause = record {
    walked = record {
      given = λ bytes held. gives_now (Err f) is bytes held;
      kept = record { kept = kept ∙ walked.kept.kept; watched = watched ∙ walked.kept.watched };
      near = asks_both begun old now walked.kept.watched walked.near near;
      cause = cause;
      counted = walked.counted;
      order = walked.order;
      within = walked.within;
      limit = walked.limit;
    };
    are = λ bytes held. gives_now (Err f) is bytes held;
  }

  stop_by : (was : Option Fault) → before ≡ was → (f : Fault) → answer ≡ Err f → HasEnded begun now at (Some f) tally given
  stop_by None none f is =
      let adv = advances none in
      let kept = goes_now (Err f) is none in
      stop_walked f is adv.kept adv.watched adv.near (cause_now none ∙ ap (λ x. faults_after_stop x begun.faults) kept)
  stop_by (Some g) was f is =
      let (again, same) = failed g was in
      let e : ◌≡◌ {A = Result (Option Piece) Fault} (Err g) (Err f) = sym again ∙ is in
      let one : g ≡ f = cc e in
      let near : AsksNear old now = λ off. ap (λ (s : SeenSource). s.watched_reads) same in
      stop_walked f is (ap (λ (s : SeenSource). s.holds) same) (ap (λ (s : SeenSource). s.watches) same) near
      (ap (λ (s : SeenSource). s.faults) same ∙ walked.cause ∙ ap (λ x. faults_after_stop x begun.faults) (was ∙ ap Some one))

  pub walk_stop : (f : Fault) → answer ≡ Err f → HasEnded begun now at (Some f) tally given
  walk_stop f is = stop_by before refl f is

-- ---- after a step

-- the source was read besides, and hasn't failed
pub walk_on : (begun mid now : SeenSource) (at : ℕ) (failure : Option Fault) (tally : Tally) (pieces : List Piece) → HasWalked begun mid at failure tally pieces
    → now.holds ≡ mid.holds → now.watches ≡ mid.watches → AsksNear mid now → now.faults ≡ mid.faults → HasWalked begun now at failure tally pieces
walk_on begun mid now at failure tally pieces walked kept watched near sound = record {
  given = walked.given;
  kept = record { kept = kept ∙ walked.kept.kept; watched = watched ∙ walked.kept.watched };
  near = asks_both begun mid now walked.kept.watched walked.near near;
  cause = sound ∙ walked.cause;
  counted = walked.counted;
  order = walked.order;
  within = walked.within;
  limit = walked.limit;
}

-- the reader is where it was
pub walk_at : (begun now : SeenSource) (at other : ℕ) (failure kept : Option Fault) (tally : Tally) (pieces : List Piece) → other ≡ at → kept ≡ failure → HasWalked begun now at failure tally pieces → HasWalked begun now other kept tally pieces
walk_at begun now at other failure kept tally pieces there same walked =
    let P : ℕ → Type 0 = λ n. HasWalked begun now n kept tally pieces in
    let Q : Option Fault → Type 0 = λ x. HasWalked begun now at x tally pieces in
    subst P (sym there) (subst Q (sym same) walked)

-- ---- pieces lie in the bytes

-- these pieces end by an offset
abbrev EndBy : ℕ → List Piece → Type 0
EndBy n [] = Unit {0}
EndBy n (piece ∷ pieces) = (offset_of piece + piece_len piece ≤ n) × EndBy n pieces

end_last : (n : ℕ) (pieces : List Piece) (piece : Piece) → EndBy n (pieces ++ piece ∷ []) → offset_of piece + piece_len piece ≤ n
end_last n [] piece (one, none) = one
end_last n (first ∷ pieces) piece (one, more) = end_last n pieces piece more

end_more : (n : ℕ) (pieces : List Piece) (piece : Piece) → EndBy n pieces → offset_of piece + piece_len piece ≤ n → EndBy n (pieces ++ piece ∷ [])
end_more n [] piece is low = (low, tt)
end_more n (first ∷ pieces) piece (one, more) low = (one, end_more n pieces piece more low)

begins_at : (at : ℕ) (text : List ℕ) (piece : Piece) → IsPiece at text piece → offset_of piece ≡ at
begins_at at text (Records offset len count) is = is.0
begins_at at text (Damage offset len fault) is = is.0

ends_of_first : (at : ℕ) (text : List ℕ) (pieces : List Piece) (end : ℕ) → AreFirst at text pieces end → (n : ℕ) → at + length text ≤ n → EndBy n pieces
ends_of_first at text [] end is n low = tt
ends_of_first at text (piece ∷ pieces) end (one, more) n low =
    let len = piece_len piece in
    let inside = piece_within at text piece one in
    let later = ends_of_first (at + len) (drop len text) pieces end more n (omega (arith, inside, length-drop len text, low)) in
    (omega (arith, begins_at at text piece one, inside, low), later)

near_within : (bytes : List ℕ) → length (near bytes) ≤ length bytes
unfolding near
near_within bytes = omega (arith, length-take max_archive bytes)

ends_before : (bytes : List ℕ) (f : Fault) (pieces : List Piece) → AreBefore bytes f pieces → EndBy (length (near bytes)) pieces
ends_before bytes f pieces before =
    let P : List Piece → Type 0 = λ ps. EndBy (length (near bytes)) ps in
    let text = take (reach_of f) (near bytes) in
    let first = ends_of_first 0 (near bytes) before.first before.at before.are (length (near bytes)) (omega arith) in
    let low = first_within 0 (near bytes) before.first before.at before.are in
    ⊎_elim (λ has. subst P (sym has.0) first)
    (λ has.
    let (run, same, is, one, end) = has in
    let inside = piece_within before.at (drop before.at text) run one in
    let low_end : offset_of run + piece_len run ≤ length (near bytes) =
    omega (arith, inside, low, begins_at before.at (drop before.at text) run one, length-drop before.at text, length-take (reach_of f) (near bytes)) in
    subst P (sym same) (end_more (length (near bytes)) before.first run first low_end))
    before.last

ends_of_given : (bytes : List ℕ) (at : ℕ) (failure : Option Fault) (pieces : List Piece) → AreGiven bytes at failure pieces → EndBy (length (near bytes)) pieces
ends_of_given bytes at None pieces given = ends_of_first 0 (near bytes) pieces at given (length (near bytes)) (omega arith)
ends_of_given bytes at (Some f) pieces given = ends_before bytes f pieces given

-- the last piece that was given does
pub last_within : (bytes : List ℕ) (at : ℕ) (failure : Option Fault) (pieces : List Piece) (piece : Piece) → AreGiven bytes at failure (pieces ++ piece ∷ []) → offset_of piece + piece_len piece ≤ length bytes
last_within bytes at failure pieces piece given =
    let end = end_last (length (near bytes)) pieces piece (ends_of_given bytes at failure (pieces ++ piece ∷ []) given) in
    omega (arith, end, near_within bytes)

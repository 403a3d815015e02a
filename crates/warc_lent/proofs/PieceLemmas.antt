-- What is put of the pieces that a reader gives, one after another.
use Rattle.std.proofs.Common.{◌≡◌, ◌≢◌, inl, inr, ℕ, ◌+◌, ◌-◌, ◌<◌, ◌≤◌, List, [], ◌∷◌, ◌++◌, length, map, set, take, Option, None, Some, Result, Ok, Err, refl, sym, ap, subst, ◌∙◌, arith}
use Rattle.std.specs.Prelude.{option_map}
use Rattle.std.proofs.lemmas.List.{drop-set-lt, length-map, length_push, map-append}
use Rattle.warc_frame.specs.Reading.{fault}
use Rattle.warc_frame.specs.Record.{max_archive}
use Rattle.warc_frame.specs.Seen.{IfHeld, SeenSource}
use Rattle.warc_frame.specs.declared.fault.Fault.{Fault}
use Rattle.warc_frame.specs.declared.fault.FaultKind.{FaultKind}
use Rattle.warc_frame.specs.declared.fault.FaultKind.TheVariants.{Memory, Read, TooLong}
use Rattle.warc_pieces.specs.Reader.{Advances, AreGiven, GivesMore, GoesBy, faults_after_stop}
use Rattle.warc_pieces.specs.declared.piece.Piece.{Piece}
use Rattle.warc_lent.specs.Pieces.{HoldsPieces, IsWalkPut, NoneIsPut, PutsPieceNumbers, SomeArePut, piece_numbers}
use Rattle.warc_lent.specs.declared.pieces.PieceNumbers.{PieceNumbers}
use Rattle.warc_lent.specs.declared.problem.Problem.TheVariants as problems
use Rattle.warc_lent.proofs.BufferLemmas.{drop_further, front_nil, front_push}

-- ---- the buffer

pub holds_none : (out : List PieceNumbers) → HoldsPieces [] out out
holds_none out = record { front = front_nil out; rest = refl }

-- one more piece
pub holds_more : (pieces : List Piece) (piece : Piece) (count : ℕ) (old mid : List PieceNumbers) → count ≡ length pieces → HoldsPieces pieces old mid
    → HoldsPieces (pieces ++ piece ∷ []) old (set mid count (piece_numbers piece))
holds_more pieces piece count old mid is holds =
    let new = set mid count (piece_numbers piece) in
    let size : length (map piece_numbers pieces) ≡ count = length-map pieces piece_numbers ∙ sym is in
    let P : List PieceNumbers → Type 0 = λ l. take (length l) new ≡ take (length new) l in
    let n = length (pieces ++ piece ∷ []) in
    let more : n ≡ length pieces + 1 = length_push pieces piece in
    record {
      front = subst P (sym (map-append piece_numbers pieces (piece ∷ []))) (front_push (map piece_numbers pieces) mid count (piece_numbers piece) size holds.front);
      rest = drop-set-lt n mid count (piece_numbers piece) (omega (arith, more, is)) ∙ drop_further (length pieces) n mid old (omega (arith, more)) holds.rest;
    }

-- ---- the walk

-- The pieces that a reader has given are put. A state of the code
pub record HasPutPieces (begun now : SeenSource) (at : ℕ) (failure : Option Fault) (count : ℕ) (old new : List PieceNumbers) : Type 0 where
  pub pieces : List Piece
  pub given : IfHeld begun.holds (λ bytes. AreGiven bytes at failure pieces)
  pub kept : now.holds ≡ begun.holds
  pub cause : now.faults ≡ faults_after_stop failure begun.faults
  pub count_is : count ≡ length pieces
  pub within : count ≤ at
  pub limit : at ≤ max_archive
  pub put : HoldsPieces pieces old new

-- none is put before the walk
pub walk_begins : (s : SeenSource) (at : ℕ) (failure : Option Fault) (out : List PieceNumbers) → at ≡ 0 → failure ≡ None → HasPutPieces s s at failure 0 out out
walk_begins s at failure out start sound =
    let F : Option Fault → Type 0 = λ x. IfHeld s.holds (λ bytes. AreGiven bytes at x []) in
    record {
      pieces = [];
      given = subst F (sym sound) (λ bytes held. start);
      kept = refl;
      cause = sym (ap (λ x. faults_after_stop x s.faults) sound);
      count_is = refl;
      within = omega arith;
      limit = omega (arith, start);
      put = holds_none out;
    }

-- a reader that gives something hasn't failed
sound_before : (before : Option Fault) (x : Option Piece) (answer : Result (Option Piece) Fault) → answer ≡ Ok x → ((f : Fault) → before ≡ Some f → answer ≡ Err f) → before ≡ None
sound_before None x answer is failed = refl
sound_before (Some f) x answer is failed =
    let no : ◌≡◌ {A = Result (Option Piece) Fault} (Ok x) (Err f) = sym is ∙ failed f refl in
    absurd (cc no)

module _ (begun old now : SeenSource) (at after : ℕ) (before failure : Option Fault) (count : ℕ) (out mid : List PieceNumbers) (answer : Result (Option Piece) Fault)
    (has : HasPutPieces begun old at before count out mid)
    (gives : IfHeld old.holds (λ bytes. (pieces : List Piece) → AreGiven bytes at before pieces → GivesMore bytes after failure pieces answer))
    (advances : before ≡ None → Advances old now at after failure answer)
    (failed : (f : Fault) → before ≡ Some f → (answer ≡ Err f) × (now ≡ old)) where
  gives_now : (a : Result (Option Piece) Fault) → answer ≡ a → IfHeld begun.holds (λ bytes. GivesMore bytes after failure has.pieces a)
  gives_now a is bytes held =
      let P : Result (Option Piece) Fault → Type 0 = λ x. GivesMore bytes after failure has.pieces x in
      subst P is (gives bytes (has.kept ∙ held) has.pieces (has.given bytes held))

  goes_now : (a : Result (Option Piece) Fault) → answer ≡ a → before ≡ None → GoesBy at after failure a
  goes_now a is none =
      let P : Result (Option Piece) Fault → Type 0 = λ x. GoesBy at after failure x in
      subst P is (advances none).goes

  cause_now : before ≡ None → now.faults ≡ faults_after_stop failure begun.faults
  cause_now none =
      let same : old.faults ≡ begun.faults = has.cause ∙ ap (λ x. faults_after_stop x begun.faults) none in
      (advances none).cause ∙ ap (faults_after_stop failure) same

  is_sound : (x : Option Piece) → answer ≡ Ok x → before ≡ None
  is_sound x is = sound_before before x answer is (λ f same. (failed f same).0)

  -- by a piece
  pub walk_more : (piece : Piece) (new : List PieceNumbers) → answer ≡ Ok (Some piece) → new ≡ set mid count (piece_numbers piece)
      → HasPutPieces begun now after failure (count + 1) out new
  walk_more piece new is put =
      let P : List PieceNumbers → Type 0 = λ l. HoldsPieces (has.pieces ++ piece ∷ []) out l in
      let none = is_sound (Some piece) is in
      let adv = advances none in
      let (place, end, some, few) = goes_now (Ok (Some piece)) is none in
      record {
        pieces = has.pieces ++ piece ∷ [];
        given = gives_now (Ok (Some piece)) is;
        kept = adv.kept ∙ has.kept;
        cause = cause_now none;
        count_is = omega (arith, has.count_is, length_push has.pieces piece);
        within = omega (arith, has.within, end, some);
        limit = adv.limit;
        put = subst P (sym put) (holds_more has.pieces piece count out mid has.count_is has.put);
      }

  pub walk_on : (piece : Piece) → answer ≡ Ok (Some piece) → max_archive - after < max_archive - at
  walk_on piece is =
      let none = is_sound (Some piece) is in
      let (place, end, some, few) = goes_now (Ok (Some piece)) is none in
      omega (arith, end, some, (advances none).limit)

  -- to the end
  pub walk_end : answer ≡ Ok None → IsWalkPut begun now count None out mid
  walk_end is = record {
    pieces = has.pieces;
    are = gives_now (Ok None) is;
    number_is = has.count_is;
    cause = tt;
    put = has.put;
  }

  fails_once : (was : Option Fault) → before ≡ was → (f : Fault) → answer ≡ Err f → now.faults ≡ faults_after_stop (Some f) begun.faults
  fails_once None none f is = cause_now none ∙ ap (λ x. faults_after_stop x begun.faults) (goes_now (Err f) is none)
  fails_once (Some g) was f is =
      let (again, same) = failed g was in
      let e : ◌≡◌ {A = Result (Option Piece) Fault} (Err g) (Err f) = sym again ∙ is in
      let one : g ≡ f = cc e in
      ap (λ (s : SeenSource). s.faults) same ∙ has.cause ∙ ap (λ x. faults_after_stop x begun.faults) (was ∙ ap Some one)

  -- to a failure
  pub walk_stop : (f : Fault) → answer ≡ Err f → IsWalkPut begun now count (Some f) out mid
  walk_stop f is = record {
    pieces = has.pieces;
    are = gives_now (Err f) is;
    number_is = has.count_is;
    cause = fails_once before refl f is;
    put = has.put;
  }

-- ---- over lent bytes, whose source never fails

not_read : (kind : FaultKind) → 0 ≡ faults_after_stop (Some (record { kind = kind; offset = 0 })) 0 → kind ≢ Read
not_read Read sound = absurd (omega (arith, sound))
not_read kind sound = λ read. cc read

some_put : (bytes : List ℕ) (begun now : SeenSource) (number : ℕ) (f : Fault) (old new : List PieceNumbers) → begun.holds ≡ Some bytes
    → begun.faults ≡ 0 → now.faults ≡ 0 → IsWalkPut begun now number (Some f) old new → SomeArePut bytes number (problems.Fault f) old new
some_put bytes begun now number f old new held first last walk =
    record {
      pieces = walk.pieces;
      fault = f;
      are = walk.are bytes held;
      sound = not_read f.kind (sym last ∙ walk.cause ∙ ap (faults_after_stop (Some f)) first);
      number_is = walk.number_is;
      problem_is = refl;
      put = walk.put;
    }

pub walk_put : (bytes : List ℕ) (begun now : SeenSource) (number : ℕ) (stop : Option Fault) (old new : List PieceNumbers) → begun.holds ≡ Some bytes
    → begun.faults ≡ 0 → now.faults ≡ 0 → IsWalkPut begun now number stop old new → PutsPieceNumbers bytes number (option_map (λ f. problems.Fault f) stop) old new
walk_put bytes begun now number None old new held first last walk =
    let (are, whole) = walk.are bytes held in record {
      pieces = walk.pieces;
      are = are;
      whole = whole;
      number_is = walk.number_is;
      put = walk.put;
    }
walk_put bytes begun now number (Some f) old new held first last walk = inl (some_put bytes begun now number f old new held first last walk)

-- without memory nothing is put
pub none_put : (f : Fault) (out : List PieceNumbers) → f ≡ fault Memory 0 → NoneIsPut 0 (problems.Fault f) out out
none_put f out is = record { number_is = refl; problem_is = ap problems.Fault is; same = refl }

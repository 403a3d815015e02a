-- Reading the pieces of a source one after another.
use Rattle.std.specs.Prelude.{◌≡◌, ◌≢◌, ℕ, ◌+◌, ◌-◌, ◌*◌, ◌<◌, ◌≤◌, ◌⊎◌, List, [], ◌∷◌, ◌++◌, length, take, drop, Bool, true, false, Option, None, Some, Result, Ok, Err, IfSome}
use Rattle.warc_frame.specs.Faults.{ReadsAs}
use Rattle.warc_frame.specs.Record.{max_archive}
use Rattle.warc_frame.specs.Seen.{AsksOnly, SeenSource}
use Rattle.warc_frame.specs.declared.fault.Fault.{Fault}
use Rattle.warc_frame.specs.declared.fault.FaultKind.{FaultKind}
use Rattle.warc_frame.specs.declared.fault.FaultKind.TheVariants.{Memory, Read, TooLong}
use Rattle.warc_record.specs.Heads.{head_fault}
use Rattle.warc_reading.specs.Fronts.{BeginsWithNone, reach_of}
use Rattle.warc_pieces.specs.Judging.{IsUnreadAt}
use Rattle.warc_pieces.specs.Laws.{count_in, offset_of}
use Rattle.warc_pieces.specs.Pieces.{AreFirst, ArePieces, IsPiece, piece_len, near}
use Rattle.warc_pieces.specs.Search.{lines_in}
use Rattle.warc_pieces.specs.Window.{Shown, Shows, faults_by, own_reads}
use Rattle.warc_pieces.specs.declared.piece.Piece.{Piece}
use Rattle.warc_pieces.specs.declared.pieces.Walk.{Walk}
use Rattle.warc_pieces.specs.declared.piece.Piece.TheVariants.{Records, Damage}

-- a source, the offset at which its next piece begins, why it can't be read on, if it can't, and the offset up to which
-- it was read in order
pub record Reader (S : Type 0) : Type 0 where
  pub source : S
  pub at : ℕ
  pub failure : Option Fault
  pub reached : ℕ

-- this is the fault of what begins at an offset, where damage was found there
abbrev pub IsDamagedAt : ℕ → List ℕ → Option Fault → Type 0
IsDamagedAt at bytes None = Unit {0}
IsDamagedAt at bytes (Some f) = ReadsAs head_fault at (drop at (near bytes)) [] (Some f)

-- why no piece is given after those that end at an offset: a read failed or memory ran out for the record at `stop`; or
-- the bytes go on at offset 2^48, where the pieces end
abbrev pub StopsBy : FaultKind → List ℕ → ℕ → ℕ → Fault → Type 0
StopsBy Read bytes end stop f = IsUnreadAt stop bytes f.offset
StopsBy Memory bytes end stop f = (f.offset ≡ stop) × (stop < length (near bytes))
StopsBy TooLong bytes end stop f = (f.offset ≡ max_archive) × (end ≡ max_archive) × (max_archive < length bytes)
StopsBy kind bytes end stop f = ⊥

-- Reading stops after pieces that end at an offset. No good record is passed over: none begins from there to `stop`
-- that is whole in what was read.
pub record IsStop (bytes : List ℕ) (end : ℕ) (f : Fault) : Type 0 where
  pub stop : ℕ
  pub after : end ≤ stop
  pub none : (q : ℕ) → end ≤ q → q < stop → BeginsWithNone (drop q (take (reach_of f) (near bytes)))
  pub by : StopsBy f.kind bytes end stop f

abbrev pub IsStoppedBy : List ℕ → ℕ → Option Fault → Type 0
IsStoppedBy bytes end None = Unit {0}
IsStoppedBy bytes end (Some f) = IsStop bytes end f

-- a reader is before a piece of these bytes. A state of the code
pub record IsWalkBefore (bytes : List ℕ) (w : Shown) (at : ℕ) (damage : Option Fault) : Type 0 where
  pub shows : Shows bytes w
  pub within : at ≤ length (near bytes)
  pub found : IsDamagedAt at bytes damage

-- a walk along a source is before a piece of these bytes
abbrev pub IsWalkAt : {A : Type 0} → List ℕ → Walk A → Type 0
IsWalkAt bytes walk = IsWalkBefore bytes walk.window walk.at walk.damage

-- it may go on by its window, unless a failure ended it
pub record MayGoOn {A : Type 0} (walk : Walk A) : Type 0 where
  pub limit : walk.at ≤ max_archive
  pub begin : walk.failure ≡ None → walk.window.begin ≤ walk.at

abbrev pub is_run : Piece → Bool
is_run (Records offset len count) = true
is_run (Damage offset len fault) = false

-- how far bytes are read: to where a failure is
abbrev pub read_reach : Option Fault → ℕ
read_reach None = max_archive
read_reach (Some f) = reach_of f

-- the next piece of bytes; if reading fails after it, it is the run of good records before the failure
pub record IsPieceAt (bytes : List ℕ) (at after : ℕ) (failure : Option Fault) (piece : Piece) : Type 0 where
  pub is : IsPiece at (drop at (take (read_reach failure) (near bytes))) piece
  pub after_is : after ≡ at + piece_len piece
  pub before : failure ≢ None → is_run piece ≡ true
  pub stops : IsStoppedBy bytes after failure

-- what a reader gives of bytes at an offset: a piece; or none, at their end; or a failure
abbrev pub GivesOf : List ℕ → ℕ → ℕ → Option Fault → Result (Option Piece) Fault → Type 0
GivesOf bytes at after failure (Ok (Some piece)) = IsPieceAt bytes at after failure piece
GivesOf bytes at after failure (Ok None) = (at ≡ length bytes) × (failure ≡ None)
GivesOf bytes at after failure (Err f) = IsStop bytes at f × (after ≡ at)

-- how often a source has failed after a call: once more exactly if a read failed
abbrev pub faults_after_stop : Option Fault → ℕ → ℕ
faults_after_stop None n = n
faults_after_stop (Some f) n = faults_by f.kind n

-- how a reader goes on by an answer: by the piece that it gives, which begins where it was; at the end it stays there
-- and keeps no failure
abbrev pub GoesBy : ℕ → ℕ → Option Fault → Result (Option Piece) Fault → Type 0
GoesBy at after failure (Ok (Some piece)) = (offset_of piece ≡ at) × (after ≡ at + piece_len piece)
    × (0 < piece_len piece) × (count_in piece ≤ piece_len piece)
GoesBy at after failure (Ok None) = (after ≡ at) × (failure ≡ None)
GoesBy at after failure (Err f) = failure ≡ Some f

-- A reader goes on by a piece, or finds the end of its source or a failure, which it keeps. The source holds and
-- watches what it did, has failed once more exactly if the failure is a failed read, at the offset asked last, and was
-- asked for no byte above offset 2^48.
pub record Advances (old new : SeenSource) (at after : ℕ) (failure : Option Fault)
    (answer : Result (Option Piece) Fault) : Type 0 where
  pub kept : new.holds ≡ old.holds
  pub watched : new.watches ≡ old.watches
  pub cause : new.faults ≡ faults_after_stop failure old.faults
  pub near : AsksOnly (λ q. q ≤ max_archive) old new
  pub asked : IfSome failure (λ f. f.kind ≡ Read → f.offset ≡ new.asked)
  pub goes : GoesBy at after failure answer
  pub limit : after ≤ max_archive

-- at how many offsets after the first one of damage, and before another one, a version line begins
abbrev pub lines_between : List ℕ → ℕ → ℕ → ℕ
lines_between bytes at end = lines_in (drop (at + 1) (near bytes)) (end - (at + 1))

-- how many records an answer is about, and how many version lines of damage
abbrev pub judged_for : List ℕ → ℕ → Result (Option Piece) Fault → ℕ
judged_for bytes at (Ok (Some (Records offset len count))) = count
judged_for bytes at (Ok (Some (Damage offset len fault))) = lines_between bytes at (at + len)
judged_for bytes at (Ok None) = 0
judged_for bytes at (Err f) = lines_between bytes at f.offset

-- How often a reader reads for an answer: at most once for each byte by which it reads on in order, and besides that
-- `own_reads + 1` times for each record and version line, and for `more` more of these.
abbrev pub ReadsFew : List ℕ → ℕ → Result (Option Piece) Fault → ℕ → ℕ → ℕ → SeenSource → SeenSource → Type 0
ReadsFew bytes at answer more was now old new =
    new.reads + was ≤ old.reads + now + (own_reads + 1) * (judged_for bytes at answer + more)

-- The pieces before a failure: those that end before it, and then the run of good records before it, if there is one.
-- They end at an offset, after which it is why no other is given.
pub record AreBefore (bytes : List ℕ) (f : Fault) (pieces : List Piece) : Type 0 where
  pub first : List Piece
  pub at : ℕ
  pub end : ℕ
  pub are : AreFirst 0 (near bytes) first at
  pub last : ((pieces ≡ first) × (end ≡ at)) ⊎ ((run : Piece) × (pieces ≡ first ++ run ∷ []) × (is_run run ≡ true)
      × IsPiece at (drop at (take (reach_of f) (near bytes))) run × (end ≡ at + piece_len run))
  pub stops : IsStop bytes end f

-- these are the pieces that a reader has given, to where it is or to a failure
abbrev pub AreGiven : List ℕ → ℕ → Option Fault → List Piece → Type 0
AreGiven bytes at None pieces = AreFirst 0 (near bytes) pieces at
AreGiven bytes at (Some f) pieces = AreBefore bytes f pieces

-- what a reader has given after one more answer: the next piece too; or all pieces, at the end; or those before a
-- failure
abbrev pub GivesMore : List ℕ → ℕ → Option Fault → List Piece → Result (Option Piece) Fault → Type 0
GivesMore bytes after failure pieces (Ok (Some piece)) = AreGiven bytes after failure (pieces ++ piece ∷ [])
GivesMore bytes after failure pieces (Ok None) = ArePieces bytes pieces × (length bytes ≤ max_archive)
GivesMore bytes after failure pieces (Err f) = AreBefore bytes f pieces

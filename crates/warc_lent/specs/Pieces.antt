-- Pieces of bytes, as numbers for callers in other languages. This project's own notion.
use Rattle.std.specs.Prelude.{◌≡◌, ◌≢◌, ◌⊎◌, ◌≤◌, ℕ, List, length, map, Option, Some, None, IfSome}
use Rattle.warc_frame.specs.Record.{max_archive}
use Rattle.warc_frame.specs.Seen.{IfHeld, SeenSource}
use Rattle.warc_frame.specs.declared.fault.Fault.{Fault}
use Rattle.warc_frame.specs.declared.fault.FaultKind.TheVariants.{Memory, Read}
use Rattle.warc_pieces.specs.Pieces.{ArePieces}
use Rattle.warc_pieces.specs.Reader.{AreBefore, faults_after_stop}
use Rattle.warc_pieces.specs.declared.piece.Piece.{Piece}
use Rattle.warc_pieces.specs.declared.piece.Piece.TheVariants.{Records, Damage}
use Rattle.warc_lent.specs.Buffers.{HoldsFront, KeepsAfter}
use Rattle.warc_lent.specs.Problems.{fault_numbers}
use Rattle.warc_lent.specs.declared.pieces.PieceNumbers.{PieceNumbers}
use Rattle.warc_lent.specs.declared.problem.Problem.{Problem}
use Rattle.warc_lent.specs.declared.problem.Problem.TheVariants as problems

-- a run of good records has no fault, and damage no records
abbrev pub piece_numbers : Piece → PieceNumbers
piece_numbers (Records offset len count) =
    record { offset = offset; length = len; count = count; fault = record { code = 0; detail = 0; number = 0 } }
piece_numbers (Damage offset len fault) =
    record { offset = offset; length = len; count = 0; fault = fault_numbers fault }

-- these pieces are put, as many as there is room for; what follows them in the buffer stays
pub record HoldsPieces (pieces : List Piece) (old new : List PieceNumbers) : Type 0 where
  pub front : HoldsFront (map piece_numbers pieces) new
  pub rest : KeepsAfter (length pieces) old new

-- all pieces of bytes are put, and this is their number
pub record AllArePut (bytes : List ℕ) (number : ℕ) (old new : List PieceNumbers) : Type 0 where
  pub pieces : List Piece
  pub are : ArePieces bytes pieces
  pub whole : length bytes ≤ max_archive
  pub number_is : number ≡ length pieces
  pub put : HoldsPieces pieces old new

-- the pieces of bytes before a fault are put, this is their number and this the problem: memory ran out, or the bytes
-- go on at offset 2^48
pub record SomeArePut (bytes : List ℕ) (number : ℕ) (problem : Problem) (old new : List PieceNumbers) : Type 0 where
  pub pieces : List Piece
  pub fault : Fault
  pub are : AreBefore bytes fault pieces
  pub sound : fault.kind ≢ Read
  pub number_is : number ≡ length pieces
  pub problem_is : problem ≡ problems.Fault fault
  pub put : HoldsPieces pieces old new

-- there is no memory to begin with, and nothing is put
pub record NoneIsPut (number : ℕ) (problem : Problem) (old new : List PieceNumbers) : Type 0 where
  pub number_is : number ≡ 0
  pub problem_is : problem ≡ problems.Fault (record { kind = Memory; offset = 0 })
  pub same : new ≡ old

-- all pieces of bytes are put, or those before the problem, and this is their number
abbrev pub PutsPieceNumbers : List ℕ → ℕ → Option Problem → List PieceNumbers → List PieceNumbers → Type 0
PutsPieceNumbers bytes number None old new = AllArePut bytes number old new
PutsPieceNumbers bytes number (Some problem) old new =
    SomeArePut bytes number problem old new ⊎ NoneIsPut number problem old new

-- these are the pieces of bytes to the end, or those before what stops reading
abbrev pub AreReadTo : List ℕ → Option Fault → List Piece → Type 0
AreReadTo bytes None pieces = ArePieces bytes pieces × (length bytes ≤ max_archive)
AreReadTo bytes (Some f) pieces = AreBefore bytes f pieces

-- the pieces that a reader gives are put, and this is their number, and what stops it, if something does; the source
-- has failed once more exactly if that is a failed read
pub record IsWalkPut (begun now : SeenSource) (number : ℕ) (stop : Option Fault) (old new : List PieceNumbers)
    : Type 0 where
  pub pieces : List Piece
  pub are : IfHeld begun.holds (λ bytes. AreReadTo bytes stop pieces)
  pub number_is : number ≡ length pieces
  pub cause : IfSome stop (λ f. now.faults ≡ faults_after_stop (Some f) begun.faults)
  pub put : HoldsPieces pieces old new

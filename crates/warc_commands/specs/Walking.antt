-- What a walk over the pieces of a source finds, and what is written of them. A state of the code.
use Rattle.std.specs.Prelude.{◌≡◌, ℕ, ◌+◌, ◌^◌, ◌<◌, ◌≤◌, List, [], ◌∷◌, ◌++◌, length, Option, Result, Ok, IfErr, IfOk, OnOk, is_err, if◌then◌else◌}
use Rattle.std.specs.Io.KnownBytes.{append_known}
use Rattle.warc_frame.specs.Count.{raised}
use Rattle.warc_frame.specs.Device.{Staged}
use Rattle.warc_frame.specs.Effects.{FailsBy, IsOfDevice, IsRange, Preserves, Puts, ReadsRange}
use Rattle.warc_frame.specs.Failing.{failed_by}
use Rattle.warc_frame.specs.Record.{max_archive}
use Rattle.warc_frame.specs.Seen.{IfHeld, Seen, SeenSource}
use Rattle.warc_frame.specs.Send.{IsStaged, WentOut, sent_of}
use Rattle.warc_frame.specs.declared.fault.Fault.{Fault}
use Rattle.warc_frame.specs.declared.fault.OutFault.{OutFault}
use Rattle.warc_frame.specs.declared.send.SendFault.{SendFault}
use Rattle.warc_pieces.specs.Laws.{count_in, offset_of, salvaged}
use Rattle.warc_pieces.specs.Pieces.{piece_len}
use Rattle.warc_pieces.specs.Reader.{AreGiven, faults_after_stop}
use Rattle.warc_pieces.specs.declared.piece.Piece.{Piece}
use Rattle.warc_pieces.specs.declared.piece.Piece.TheVariants.{Records, Damage}
use Rattle.warc_commands.specs.Pieces.{AreRead, ReportsEach, good_bytes_in, damage_lines, has_damage, pieces_text, records_in}
use Rattle.warc_commands.specs.Reads.{AsksNear}
use Rattle.warc_commands.specs.declared.walk.Found.{Found}
use Rattle.warc_commands.specs.declared.walk.Step.{Step}
use Rattle.warc_commands.specs.declared.walk.Step.TheVariants.{More, End}
use Rattle.warc_commands.specs.declared.walk.Tally.{Tally}

-- how many records and bytes the runs among pieces have, and whether there is damage
pub record IsTallyOf (tally : Tally) (pieces : List Piece) : Type 0 where
  pub records_is : tally.records ≡ records_in pieces
  pub bytes_is : tally.bytes ≡ good_bytes_in pieces
  pub damage_is : tally.is_damaged ≡ has_damage pieces

-- there is room for one more piece in the counts
abbrev pub HasRoomToCount : Tally → Piece → Type 0
HasRoomToCount tally piece = (tally.records + count_in piece < 2 ^ 64) × (tally.bytes + piece_len piece < 2 ^ 64)

-- The pieces of a source were given one after another, from its beginning to an offset or to a failure. No byte above
-- offset 2^48 was asked for, and the source has failed once more exactly if the failure is a failed read.
pub record HasWalked (begun now : SeenSource) (at : ℕ) (failure : Option Fault) (tally : Tally) (pieces : List Piece)
    : Type 0 where
  pub given : IfHeld begun.holds (λ bytes. AreGiven bytes at failure pieces)
  pub kept : Preserves begun now
  pub near : AsksNear begun now
  pub cause : now.faults ≡ faults_after_stop failure begun.faults
  pub counted : IsTallyOf tally pieces
  pub order : tally.records ≤ tally.bytes
  pub within : tally.bytes ≤ at
  pub limit : at ≤ max_archive

-- all pieces of a source were given, or those before what stopped reading
pub record HasEnded (begun now : SeenSource) (at : ℕ) (stop : Option Fault) (tally : Tally) (pieces : List Piece)
    : Type 0 where
  pub walked : HasWalked begun now at stop tally pieces
  pub are : IfHeld begun.holds (λ bytes. AreRead bytes stop pieces)

-- a step of a walk: a piece more; or the end, or what stopped reading
abbrev pub Walks : SeenSource → SeenSource → ℕ → ℕ → Option Fault → Tally → List Piece → Step → Type 0
Walks begun now at after failure tally pieces (More piece) =
    HasWalked begun now after failure tally (pieces ++ piece ∷ []) × (at < after)
    × (offset_of piece + piece_len piece ≤ max_archive)
Walks begun now at after failure tally pieces (End stop) = HasEnded begun now at stop tally pieces

-- what was found of a source at the end of a walk
abbrev pub IsFoundOf : SeenSource → Option Fault → Tally → List Piece → Found → Type 0
IsFoundOf begun stop tally pieces found =
    (found.stop ≡ stop) × (found.tally ≡ tally) × IfHeld begun.holds (λ bytes. AreRead bytes stop pieces)

-- a line was added to the output for each piece that was given
pub record HasPut (begun now : SeenSource) (at : ℕ) (failure : Option Fault) (tally : Tally) (before after : Seen)
    (waits waiting : Staged) : Type 0 where
  pub pieces : List Piece
  pub walked : HasWalked begun now at failure tally pieces
  pub puts : Puts {X = Unit {0}} before after waits waiting (Ok tt) (pieces_text pieces)

-- to the end, or to a failed write
pub record PutsPieces (begun now : SeenSource) (before after : Seen) (waits waiting : Staged)
    (answer : Result Found SendFault) : Type 0 where
  pub pieces : List Piece
  pub stop : Option Fault
  pub at : ℕ
  pub tally : Tally
  pub walked : HasWalked begun now at stop tally pieces
  pub puts : Puts before after waits waiting answer (pieces_text pieces)
  pub ended : IfOk answer (IsFoundOf begun stop tally pieces)

-- the lines went out, or a front of them
pub record SendsPieces (begun now : SeenSource) (before after : Seen) (answer : Result Found SendFault) : Type 0 where
  pub pieces : List Piece
  pub stop : Option Fault
  pub at : ℕ
  pub tally : Tally
  pub walked : HasWalked begun now at stop tally pieces
  pub reported : OnOk answer (after.reports ≡ append_known before.reports (pieces_text pieces))
  pub cut : IfErr answer (λ e. WentOut before.reports (pieces_text pieces) after.reports e.sent)
  pub cause : after.faults ≡ (if is_err answer then raised before.faults else before.faults)
  pub ended : IfOk answer (IsFoundOf begun stop tally pieces)

-- the text is the bytes of a run, and empty of damage
abbrev pub IsGoodOf : Piece → List ℕ → List ℕ → Type 0
IsGoodOf (Records offset len count) bytes text = IsRange offset len bytes text
IsGoodOf (Damage offset len fault) bytes text = text ≡ []

-- the bytes of a run were read, and none of damage
abbrev pub ReadsGood : Piece → SeenSource → SeenSource → Type 0
ReadsGood (Records offset len count) old new = ReadsRange offset len old new
ReadsGood (Damage offset len fault) old new = new ≡ old

-- the bytes of all runs among pieces of a source of fewer than 2^64 bytes were added to an output
pub record CopiesRuns {X : Type 0} (holds : Option (List ℕ)) (pieces : List Piece) (before after : Seen)
    (waits waiting : Staged) (answer : Result X OutFault) : Type 0 where
  pub out : IfHeld holds (λ bytes. length bytes < 2 ^ 64 → (start : Option (List ℕ)) (output : List ℕ)
      → IsStaged start output before.reports waits
      → OnOk answer (IsStaged start (output ++ salvaged bytes pieces) after.reports waiting))
  pub cut : IfHeld holds (λ bytes. length bytes < 2 ^ 64 → (start : Option (List ℕ)) (output : List ℕ)
      → IsStaged start output before.reports waits
      → IfErr answer (λ e. WentOut start (output ++ salvaged bytes pieces) after.reports (sent_of e)))
  pub cause : after.faults ≡ failed_by answer before.faults

-- the good records of each piece that was given were added to the output, and each damage was reported
pub record HasCopied (begun now : SeenSource) (at : ℕ) (failure : Option Fault) (tally : Tally) (before after : Seen)
    (waits waiting : Staged) (err err_now : Seen) : Type 0 where
  pub pieces : List Piece
  pub walked : HasWalked begun now at failure tally pieces
  pub copies : CopiesRuns {X = Unit {0}} begun.holds pieces before after waits waiting (Ok tt)
  pub damages : ReportsEach (damage_lines pieces) err err_now

-- to the end, or to a failed read or write after a step of the walk
pub record CopiesPieces (begun now : SeenSource) (before after : Seen) (waits waiting : Staged) (err err_now : Seen)
    (answer : Result Found OutFault) : Type 0 where
  pub pieces : List Piece
  pub stop : Option Fault
  pub at : ℕ
  pub tally : Tally
  pub mid : SeenSource
  pub walked : HasWalked begun mid at stop tally pieces
  pub copies : CopiesRuns begun.holds pieces before after waits waiting answer
  pub device : IfErr answer IsOfDevice
  pub fails : FailsBy (λ bytes. length bytes < 2 ^ 64) answer mid now
  pub kept : now.holds ≡ begun.holds
  pub near : AsksNear begun now
  pub damages : ReportsEach (damage_lines pieces) err err_now
  pub ended : IfOk answer (IsFoundOf begun stop tally pieces)

-- the good records went out, or a front of them
pub record SendsRuns (begun now : SeenSource) (before after err err_now : Seen) (answer : Result Found OutFault)
    : Type 0 where
  pub pieces : List Piece
  pub stop : Option Fault
  pub at : ℕ
  pub tally : Tally
  pub mid : SeenSource
  pub walked : HasWalked begun mid at stop tally pieces
  pub out : IfHeld begun.holds (λ bytes. length bytes < 2 ^ 64
      → OnOk answer (after.reports ≡ append_known before.reports (salvaged bytes pieces)))
  pub cut : IfHeld begun.holds (λ bytes. length bytes < 2 ^ 64
      → IfErr answer (λ e. WentOut before.reports (salvaged bytes pieces) after.reports (sent_of e)))
  pub device : IfErr answer IsOfDevice
  pub cause : after.faults ≡ failed_by answer before.faults
  pub fails : FailsBy (λ bytes. length bytes < 2 ^ 64) answer mid now
  pub kept : now.holds ≡ begun.holds
  pub near : AsksNear begun now
  pub damages : ReportsEach (damage_lines pieces) err err_now
  pub ended : IfOk answer (IsFoundOf begun stop tally pieces)

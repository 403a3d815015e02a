-- How `pieces` and `salvage --all` end.
use Rattle.std.specs.Prelude.{◌≡◌, ℕ, ◌+◌, ◌^◌, ◌<◌, ◌≤◌, ◌⊎◌, Bool, true, false, if◌then◌else◌, List, [], ◌∷◌, ◌++◌, length, codes, decimal, Option, None, Some, option_map, Err}
use Rattle.std.specs.Io.KnownBytes.{append_known}
use Rattle.std.specs.Option.{option_to_list}
use Rattle.warc_frame.specs.Count.{raised}
use Rattle.warc_frame.specs.Effects.{IsOfDevice}
use Rattle.warc_frame.specs.Failing.{HasFailedBy, MayHaveFailedBy, failed_with}
use Rattle.warc_frame.specs.FaultText.{fault_text, out_fault_text}
use Rattle.warc_frame.specs.Record.{max_archive}
use Rattle.warc_frame.specs.Seen.{IfHeld, Seen}
use Rattle.warc_frame.specs.Send.{WentOut, sent_of}
use Rattle.warc_frame.specs.declared.fault.Fault.{Fault}
use Rattle.warc_frame.specs.declared.fault.FaultKind.TheVariants.{Memory}
use Rattle.warc_frame.specs.declared.fault.OutFault.{OutFault}
use Rattle.warc_frame.specs.declared.fault.OutFault.TheVariants.{Write}
use Rattle.warc_pieces.specs.Pieces.{ArePieces}
use Rattle.warc_pieces.specs.Laws.{salvaged}
use Rattle.warc_pieces.specs.Reader.{AreBefore, AreGiven, faults_after_stop}
use Rattle.warc_pieces.specs.declared.piece.Piece.{Piece}
use Rattle.warc_pieces.specs.declared.piece.Piece.TheVariants.{Records, Damage}
use Rattle.warc_arguments.specs.declared.status.Status.{Status}
use Rattle.warc_arguments.specs.declared.status.Status.TheVariants.{Done, Refused, Failed}
use Rattle.warc_commands.specs.Devices.{Devices}
use Rattle.warc_commands.specs.Program.{Reports, fault_line, status_of_kind, reported_line}
use Rattle.warc_commands.specs.Salvage.{amount_line}

-- the line of a piece
abbrev pub piece_line : Piece → List ℕ
piece_line (Records offset len count) =
    codes "records\t" ++ decimal offset ++ codes "\t" ++ decimal len ++ codes "\t" ++ decimal count ++ codes "\n"
piece_line (Damage offset len fault) =
    codes "damage\t" ++ decimal offset ++ codes "\t" ++ decimal len ++ codes "\t" ++ fault_text fault ++ codes "\n"

abbrev pub pieces_text : List Piece → List ℕ
pieces_text [] = []
pieces_text (piece ∷ pieces) = piece_line piece ++ pieces_text pieces

-- the pieces of bytes, if reading came to their end; or those before what stopped it
abbrev pub AreRead : List ℕ → Option Fault → List Piece → Type 0
AreRead bytes None pieces = ArePieces bytes pieces × (length bytes ≤ max_archive)
AreRead bytes (Some f) pieces = AreBefore bytes f pieces

abbrev pub has_damage : List Piece → Bool
has_damage [] = false
has_damage (Records offset len count ∷ pieces) = has_damage pieces
has_damage (Damage offset len fault ∷ pieces) = true

-- the status: of what stopped reading, and else by whether there is damage
abbrev pub pieces_status : Option Fault → List Piece → Status
pieces_status None pieces = if has_damage pieces then Refused else Done
pieces_status (Some f) pieces = status_of_kind f.kind

-- lines were written, one after another
abbrev pub ReportsEach : List (List ℕ) → Seen → Seen → Type 0
ReportsEach [] old new = new ≡ old
ReportsEach (line ∷ lines) old new = (mid : Seen) × Reports line old mid × ReportsEach lines mid new

-- the line of what stopped reading, if anything did
abbrev pub stop_lines : Option Fault → List (List ℕ)
stop_lines stop = option_to_list (option_map fault_line stop)

-- a line went out for each piece, to the end or to what stopped reading
pub record ArePrinted (old new : Devices) (status : Status) : Type 0 where
  pub pieces : List Piece
  pub stop : Option Fault
  pub are : IfHeld old.source.holds (λ bytes. AreRead bytes stop pieces)
  pub reported : new.out.reports ≡ append_known old.out.reports (pieces_text pieces)
  pub unfailed : new.out.faults ≡ old.out.faults
  pub source : new.source.faults ≡ faults_after_stop stop old.source.faults
  pub err : ReportsEach (stop_lines stop) old.err new.err
  pub status_is : status ≡ pieces_status stop pieces

-- a write failed: a front of the lines of the pieces that were found so far went out
pub record ArePrintedInPart (old new : Devices) (status : Status) : Type 0 where
  pub pieces : List Piece
  pub stop : Option Fault
  pub at : ℕ
  pub are : IfHeld old.source.holds (λ bytes. AreGiven bytes at stop pieces)
  pub sent : ℕ
  pub front : WentOut old.out.reports (pieces_text pieces) new.out.reports sent
  pub failed : new.out.faults ≡ raised old.out.faults
  pub source : new.source.faults ≡ faults_after_stop stop old.source.faults
  pub reported : Reports (reported_line (out_fault_text (Write sent))) old.err new.err
  pub status_is : status ≡ Failed

-- there is no memory to begin with
pub record IsUnbegun (old new : Devices) (status : Status) : Type 0 where
  pub same : new.source ≡ old.source
  pub untouched : new.out ≡ old.out
  pub reported : Reports (fault_line (record { kind = Memory; offset = 0 })) old.err new.err
  pub status_is : status ≡ Failed

-- how `pieces` ends
abbrev pub PiecesEnd : Devices → Devices → Status → Type 0
PiecesEnd old new status = ArePrinted old new status ⊎ (ArePrintedInPart old new status ⊎ IsUnbegun old new status)

-- the line of a damage
abbrev pub damage_line : ℕ → ℕ → Fault → List ℕ
damage_line offset len fault =
    reported_line (codes "damage " ++ decimal offset ++ codes " " ++ decimal len ++ codes " " ++ fault_text fault)

-- the lines of the damages among pieces, in order
abbrev pub damage_lines : List Piece → List (List ℕ)
damage_lines [] = []
damage_lines (Records offset len count ∷ pieces) = damage_lines pieces
damage_lines (Damage offset len fault ∷ pieces) = damage_line offset len fault ∷ damage_lines pieces

-- how many records and how many bytes the runs among pieces have
abbrev pub records_in : List Piece → ℕ
records_in [] = 0
records_in (Records offset len count ∷ pieces) = count + records_in pieces
records_in (Damage offset len fault ∷ pieces) = records_in pieces

abbrev pub good_bytes_in : List Piece → ℕ
good_bytes_in [] = 0
good_bytes_in (Records offset len count ∷ pieces) = len + good_bytes_in pieces
good_bytes_in (Damage offset len fault ∷ pieces) = good_bytes_in pieces

-- the last line of `salvage --all`: all was good, or so much was
abbrev pub salvaged_line : Option Fault → List Piece → List ℕ
salvaged_line None pieces =
    if has_damage pieces then amount_line (codes "salvaged") (records_in pieces) (good_bytes_in pieces)
    else amount_line (codes "good") (records_in pieces) (good_bytes_in pieces)
salvaged_line (Some f) pieces = amount_line (codes "salvaged") (records_in pieces) (good_bytes_in pieces)

-- all good records went out, of a source of fewer than 2^64 bytes, and each damage was reported
pub record AreSalvaged (old new : Devices) (status : Status) : Type 0 where
  pub pieces : List Piece
  pub stop : Option Fault
  pub are : IfHeld old.source.holds (λ bytes. AreRead bytes stop pieces)
  pub reported : IfHeld old.source.holds (λ bytes. length bytes < 2 ^ 64
      → new.out.reports ≡ append_known old.out.reports (salvaged bytes pieces))
  pub unfailed : new.out.faults ≡ old.out.faults
  pub source : new.source.faults ≡ faults_after_stop stop old.source.faults
  pub err : ReportsEach (damage_lines pieces ++ stop_lines stop ++ salvaged_line stop pieces ∷ []) old.err new.err
  pub status_is : status ≡ pieces_status stop pieces

-- a read or a write failed while they were written
pub record AreSalvagedInPart (old new : Devices) (status : Status) : Type 0 where
  pub pieces : List Piece
  pub stop : Option Fault
  pub at : ℕ
  pub are : IfHeld old.source.holds (λ bytes. AreGiven bytes at stop pieces)
  pub fault : OutFault
  pub device : IsOfDevice fault
  pub front : IfHeld old.source.holds (λ bytes. length bytes < 2 ^ 64
      → WentOut old.out.reports (salvaged bytes pieces) new.out.reports (sent_of fault))
  pub source : IfHeld old.source.holds (λ bytes. length bytes < 2 ^ 64
      → HasFailedBy {X = ℕ} (Err fault) (faults_after_stop stop old.source.faults) new.source.faults)
  pub may : MayHaveFailedBy {X = ℕ} (Err fault) (faults_after_stop stop old.source.faults) new.source.faults
  pub failed : new.out.faults ≡ failed_with fault old.out.faults
  pub err : ReportsEach (damage_lines pieces ++ reported_line (out_fault_text fault) ∷ []) old.err new.err
  pub status_is : status ≡ Failed

-- how `salvage --all` ends
abbrev pub SalvageAllEnds : Devices → Devices → Status → Type 0
SalvageAllEnds old new status =
    AreSalvaged old new status ⊎ (AreSalvagedInPart old new status ⊎ IsUnbegun old new status)

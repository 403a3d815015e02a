-- How a run of the program ends, by its words and by what the system gives it.
use Rattle.std.specs.Prelude.{◌≡◌, ℕ, ◌+◌, ◌<◌, ◌≤◌, ◌&&◌, ◌||◌, unwrap_or, Bool, true, false, List, [], length, nat_le, take, Option, Some, None, Result, Ok, Err, MatchOption, MatchResult, codes, ◌⊎◌, if◌then◌else◌}
use Rattle.std.specs.Str.{bytes_eq}
use Rattle.std.specs.IoError.{error_kind}
use Rattle.std.specs.declared.io.Error.{Error}
use Rattle.std.specs.declared.io.ErrorKind.{ErrorKind}
use Rattle.std.specs.declared.io.ErrorKind.TheVariants.{OutOfMemory}
use Rattle.warc_frame.specs.FaultText.{out_fault_text}
use Rattle.warc_frame.specs.Seen.{IfHeld, SeenSource}
use Rattle.warc_frame.specs.declared.fault.OutFault.TheVariants.{Memory}
use Rattle.warc_arguments.specs.Command.{list_word, path_word, reads_once}
use Rattle.warc_arguments.specs.Parsed.{IsParsed, ReadLine}
use Rattle.warc_arguments.specs.declared.status.Status.{Status}
use Rattle.warc_arguments.specs.declared.status.Status.TheVariants.{Refused, Failed}
use Rattle.warc_commands.specs.Devices.{Outputs, devices}
use Rattle.warc_commands.specs.Ends.{Ends, IsStatusOf, writes_front}
use Rattle.warc_commands.specs.Program.{FaultEnds, IsNotRead, Reports, reported_line}
use Rattle.warc_commands.specs.Reads.{CommandReads}
use Rattle.warc_commands.specs.declared.runs.Location.{Location}
use Rattle.warc_commands.specs.declared.runs.Location.TheVariants.{File, Memory as InMemory, Input}
use Rattle.warc_commands.specs.declared.runs.RunSource.{RunSource}
use Rattle.warc_commands.specs.declared.runs.RunSource.TheVariants as sources
use Rattle.warc_arguments.specs.declared.command.Command.{Command}
use Rattle.warc_arguments.specs.declared.parser.CommandFault.{CommandFault}
use Rattle.warc_arguments.specs.declared.command.Request.{Request}

-- what the system may give a run: for a path a file or an error; standard input as a file, if it is one; standard input
-- as it comes
pub data Offer : Type 0 where
  opened : List ℕ → Result SeenSource Error → Offer
  redirected : Option SeenSource → Offer
  streamed : SeenSource → Offer

-- where the bytes of a command are, by its path
abbrev pub place_at : List ℕ → Location
place_at path =
    if bytes_eq path (codes "-") then Input else (if bytes_eq path (codes "/dev/stdin") then InMemory else File)

-- why a run can't begin, by the kind of an error
abbrev pub stop_text : List ℕ → ErrorKind → List ℕ
stop_text why OutOfMemory = out_fault_text (Memory 0)
stop_text why kind = why

-- a run couldn't begin: a line says why, nothing went to standard output, and the status is 3
pub record IsStopped (why : List ℕ) (old new : Outputs) (status : Status) : Type 0 where
  pub untouched : new.out ≡ old.out
  pub reported : Reports (reported_line why) old.err new.err
  pub status_is : status ≡ Failed

-- a command was done over a list and a source, which it left in a last state
pub record IsRunOver (command : Command) (list : List ℕ) (source last : SeenSource) (old new : Outputs)
    (status : Status) : Type 0 where
  -- the source still holds what it held
  pub kept : last.holds ≡ source.holds
  pub ends : Ends command list (devices source old.out old.err) (devices last new.out new.err) status
  -- what it asks of the source
  pub reads : CommandReads command source last
  -- nothing is written where the archive is refused, whatever the source holds, but by `pieces` and `salvage`
  pub silent : writes_front command ≡ false → status ≡ Refused
      → (new.out.reports ≡ old.out.reports) × (new.out.faults ≡ old.out.faults)
  pub answers : IsStatusOf command status

-- what is seen of what a run gives back, if it read something of the system's
abbrev pub run_left : {F S : Type 0} → (F → SeenSource) → (S → SeenSource) → RunSource F S → Option SeenSource
run_left file stream (sources.File f) = Some (file f)
run_left file stream (sources.Stream s) = Some (stream s)
run_left file stream sources.Nothing = None

-- a command was done over a source of the system's, which was given back
abbrev pub IsRunOnLeft : Command → List ℕ → SeenSource → Option SeenSource → Outputs → Outputs → Status → Type 0
IsRunOnLeft command list source None old new status = ⊥
IsRunOnLeft command list source (Some last) old new status = IsRunOver command list source last old new status

-- the most bytes of standard input that are kept in memory, and of a list
abbrev pub max_input : ℕ
max_input = 1073741824

-- a path of standard input
abbrev pub is_input : List ℕ → Bool
is_input path = bytes_eq path (codes "-") || bytes_eq path (codes "/dev/stdin")

-- the system gave this source at the path of a list: standard input as it comes, or a file
abbrev pub GivesList : Bool → (Offer → Type 0) → List ℕ → SeenSource → Type 0
GivesList true gives path source = gives (streamed source)
GivesList false gives path source = gives (opened path (Ok source))

-- a list is all bytes at a path
pub record IsListAt (gives : Offer → Type 0) (path list : List ℕ) : Type 0 where
  pub source : SeenSource
  pub given : GivesList (is_input path) gives path source
  pub few : length list ≤ max_input
  pub are : IfHeld source.holds (λ all. list ≡ all)

-- the list of a command, by its path; a command that has no such path reads no list
abbrev pub IsListOf : (Offer → Type 0) → Option (List ℕ) → List ℕ → Type 0
IsListOf gives None list = list ≡ []
IsListOf gives (Some path) list = IsListAt gives path list

-- a list has too many bytes
pub record IsListTooLong (source last : SeenSource) (old new : Outputs) (status : Status) : Type 0 where
  pub long : IfHeld source.holds (λ all. max_input < length all)
  pub sound : last.faults ≡ source.faults
  pub stopped : IsStopped (codes "the positions are too long") old new status

-- the bytes of a list weren't read, or they are too many
abbrev pub IsListCut : SeenSource → SeenSource → Outputs → Outputs → Status → Type 0
IsListCut source last old new status =
    IsListTooLong source last old new status
    ⊎ IsNotRead (devices source old.out old.err) (devices last new.out new.err) status

-- the file of a list didn't open
pub record IsListUnopened (gives : Offer → Type 0) (left : Option SeenSource) (path : List ℕ) (old new : Outputs)
    (status : Status) : Type 0 where
  pub error : Error
  pub given : gives (opened path (Err error))
  pub none : left ≡ None
  pub stopped : IsStopped (stop_text (codes "open failed") (error_kind error)) old new status

-- the source of a list was read, and is given back
pub record IsListUnread (gives : Offer → Type 0) (left : Option SeenSource) (path : List ℕ) (old new : Outputs)
    (status : Status) : Type 0 where
  pub source : SeenSource
  pub given : GivesList (is_input path) gives path source
  pub last : SeenSource
  pub given_back : left ≡ Some last
  pub ends : IsListCut source last old new status

-- a run stops since it has no list
abbrev pub LacksList : (Offer → Type 0) → Option SeenSource → Option (List ℕ) → Outputs → Outputs → Status → Type 0
LacksList gives left None old new status = ⊥
LacksList gives left (Some path) old new status =
    IsListUnopened gives left path old new status ⊎ IsListUnread gives left path old new status

-- a command was done over its list and a source of the system's
pub record IsRunWithList (gives : Offer → Type 0) (left : Option SeenSource) (command : Command) (source : SeenSource)
    (old new : Outputs) (status : Status) : Type 0 where
  pub list : List ℕ
  pub is : IsListOf gives (list_word command) list
  pub over : IsRunOnLeft command list source left old new status

-- a command reads its list, after its source was opened
abbrev pub RunsOver : (Offer → Type 0) → Option SeenSource → Command → SeenSource → Outputs → Outputs → Status → Type 0
RunsOver gives left command source old new status =
    IsRunWithList gives left command source old new status ⊎ LacksList gives left (list_word command) old new status

-- a command reads the file at its path
pub record ReadsFile (gives : Offer → Type 0) (left : Option SeenSource) (path : List ℕ) (command : Command)
    (old new : Outputs) (status : Status) : Type 0 where
  pub file : Result SeenSource Error
  pub given : gives (opened path file)
  pub ends : MatchResult file (λ source. RunsOver gives left command source old new status)
      (λ error. IsStopped (stop_text (codes "open failed") (error_kind error)) old new status)

-- a source of bytes in memory, which nobody has read
abbrev pub in_memory : List ℕ → SeenSource
in_memory bytes = record {
  holds = Some bytes;
  faults = 0;
  reads = 0;
  asked = 0;
  watches = λ _. false;
  watched_reads = 0;
  next = None;
  jumps = 0;
}

-- a command was done over bytes in memory: no read of them failed
pub record IsRunInMemory (command : Command) (list bytes : List ℕ) (old new : Outputs) (status : Status) : Type 0 where
  pub last : SeenSource
  pub sound : last.faults ≡ 0
  pub over : IsRunOver command list (in_memory bytes) last old new status

-- a command over bytes in memory, if they are few enough
abbrev pub MemoryEnds : Bool → List ℕ → Command → List ℕ → List ℕ → Outputs → Outputs → Status → Type 0
MemoryEnds true long command list bytes old new status = IsRunInMemory command list bytes old new status
MemoryEnds false long command list bytes old new status = IsStopped long old new status

-- a command was done over all bytes of a source, which were read into memory, or stopped since they are too long
pub record IsDoneInMemory (long : List ℕ) (command : Command) (list : List ℕ) (source last : SeenSource)
    (old new : Outputs) (status : Status) : Type 0 where
  pub bytes : List ℕ
  pub are : IfHeld source.holds (λ all. bytes ≡ take (max_input + 1) all)
  pub sound : last.faults ≡ source.faults
  pub ends : MemoryEnds (nat_le (length bytes) max_input) long command list bytes old new status

-- a command reads standard input into memory, and gives it back; where reading fails the run stops
pub record ReadsInto (gives : Offer → Type 0) (left : Option SeenSource) (long : List ℕ) (command : Command)
    (list : List ℕ) (old new : Outputs) (status : Status) : Type 0 where
  pub source : SeenSource
  pub given : gives (streamed source)
  pub last : SeenSource
  pub given_back : left ≡ Some last
  pub ends : IsDoneInMemory long command list source last old new status
      ⊎ IsNotRead (devices source old.out old.err) (devices last new.out new.err) status

-- it reads its list before that
pub record IsReadWithList (gives : Offer → Type 0) (left : Option SeenSource) (long : List ℕ) (command : Command)
    (old new : Outputs) (status : Status) : Type 0 where
  pub list : List ℕ
  pub is : IsListOf gives (list_word command) list
  pub over : ReadsInto gives left long command list old new status

abbrev pub ReadsMemory : (Offer → Type 0) → Option SeenSource → List ℕ → Command → Outputs → Outputs → Status → Type 0
ReadsMemory gives left long command old new status =
    IsReadWithList gives left long command old new status ⊎ LacksList gives left (list_word command) old new status

-- a command reads standard input as it comes, and no list
pub record ReadsStream (gives : Offer → Type 0) (left : Option SeenSource) (command : Command) (old new : Outputs)
    (status : Status) : Type 0 where
  pub source : SeenSource
  pub given : gives (streamed source)
  pub ends : IsRunOnLeft command [] source left old new status

abbrev pub two_inputs : List ℕ
two_inputs = codes "the archive and the positions can't both be standard input"

abbrev pub too_long : List ℕ
too_long = codes "standard input is too long for this command; write it to a file first"

-- a command reads standard input that is no file: as it comes, if it can ask for each offset once, in order
abbrev pub PipeEnds : Bool → (Offer → Type 0) → Option SeenSource → Command → Outputs → Outputs → Status → Type 0
PipeEnds true gives left command old new status = ReadsStream gives left command old new status
PipeEnds false gives left command old new status = ReadsMemory gives left too_long command old new status

-- a command reads standard input: at any offset where it is a file
pub record ReadsInput (gives : Offer → Type 0) (left : Option SeenSource) (command : Command) (old new : Outputs)
    (status : Status) : Type 0 where
  pub file : Option SeenSource
  pub given : gives (redirected file)
  pub ends : MatchOption file (PipeEnds (reads_once command) gives left command old new status)
      (λ source. RunsOver gives left command source old new status)

-- how a command over the bytes at a path ends, by where they are
abbrev pub PlaceEnds : Location → (Offer → Type 0) → Option SeenSource → List ℕ → Command → Outputs → Outputs → Status
    → Type 0
PlaceEnds File gives left path command old new status = ReadsFile gives left path command old new status
PlaceEnds InMemory gives left path command old new status =
    ReadsMemory gives left (codes "read failed after 0") command old new status
PlaceEnds Input gives left path command old new status = ReadsInput gives left command old new status

-- a command names standard input for its archive and for its list
abbrev pub names_input_twice : List ℕ → Command → Bool
names_input_twice path command = is_input path && is_input (unwrap_or (list_word command) [])

-- how a command over the bytes at a path ends: without a read, if it names standard input twice
abbrev pub PathEnds : Bool → (Offer → Type 0) → Option SeenSource → List ℕ → Command → Outputs → Outputs → Status
    → Type 0
PathEnds true gives left path command old new status = IsStopped two_inputs old new status
PathEnds false gives left path command old new status =
    PlaceEnds (place_at path) gives left path command old new status

-- how a command ends, by the path of its file; without one it reads nothing
abbrev pub CommandEnds : Option (List ℕ) → (Offer → Type 0) → Option SeenSource → Command → Outputs → Outputs → Status
    → Type 0
CommandEnds None gives left command old new status = IsRunInMemory command [] [] old new status
CommandEnds (Some path) gives left command old new status =
    PathEnds (names_input_twice path command) gives left path command old new status

-- how a run ends, by its words
pub record WordsEnd (gives : Offer → Type 0) (left : Option SeenSource) (words : List (List ℕ)) (old new : Outputs)
    (status : Status) : Type 0 where
  pub parsed : Result Request CommandFault
  pub is : IsParsed words parsed
  pub ends : MatchResult parsed
      (λ request. CommandEnds (path_word request) gives left request.command old new status)
      (λ fault. FaultEnds fault old.out new.out old.err new.err status)

-- How a run ends, by what the system gives and by what is seen of the source that it gives back: a failed read is
-- reported only where that source has failed.
abbrev pub RunEnds : (Offer → Type 0) → Option SeenSource → Result ReadLine Error → Outputs → Outputs → Status → Type 0
RunEnds gives left (Ok line) old new status = WordsEnd gives left line.words old new status
RunEnds gives left (Err error) old new status =
    IsStopped (stop_text (codes "the arguments aren't text") (error_kind error)) old new status

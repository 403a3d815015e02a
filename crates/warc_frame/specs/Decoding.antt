-- What a decoder's state says of the bytes. A state of the code.
use Rattle.std.specs.Prelude.{◌≡◌, ℕ, ◌+◌, ◌-◌, ◌<◌, ◌≤◌, nat_le, ◌&&◌, Bool, List, [], ◌∷◌, ◌++◌, length, take, Option, Some, None, Result, Ok, Err}
use Rattle.warc_field.specs.Lines.{crlf_at}
use Rattle.warc_frame.specs.declared.version.Version.{Version}
use Rattle.warc_frame.specs.declared.fault.FaultKind.TheVariants.{Truncated}
use Rattle.warc_frame.specs.declared.fault.Fault.{Fault}
use Rattle.warc_frame.specs.declared.stream.Event.{Event}
use Rattle.warc_frame.specs.declared.stream.Event.TheVariants as events
use Rattle.warc_frame.specs.declared.stream.Phase.{Phase}
use Rattle.warc_frame.specs.declared.stream.Phase.TheVariants as phases
use Rattle.warc_frame.specs.Record.{max_head, max_archive}
use Rattle.warc_frame.specs.Spelling.{SpellsAll}
use Rattle.warc_frame.specs.Reading.{version_of, empty_line, head_len, fault}
use Rattle.warc_frame.specs.Faults.{IsFrameFault}
use Rattle.warc_frame.specs.Reported.{Unclosed, Reported, report, MayReport, IsHeadOf, IsExact, IfReported}

-- a decoder: where it is, the bytes of the head that it keeps, how many bytes of the block are to come, and how many of
-- the CRLF CRLF after it were taken
pub record State : Type 0 where
  pub phase : Phase
  pub position : ℕ
  pub kept : List ℕ
  pub left : ℕ
  pub matched : ℕ

-- what is true of every decoder, whatever it took
pub record IsSound (position : ℕ) (kept : List ℕ) (matched : ℕ) : Type 0 where
  pub limit : position ≤ max_archive
  pub room : length kept ≤ max_head
  pub taken : length kept ≤ position
  pub unended : empty_line kept ≡ None
  pub fewer : matched < 4
  pub following : matched ≤ position

-- what closes a record
abbrev pub closing : List ℕ
closing = 13 ∷ 10 ∷ 13 ∷ 10 ∷ []

-- in a head: all bytes so far are kept, they are no whole head, and nothing speaks against one
pub record InHead (rest : List ℕ) (unclosed : Option Unclosed) (kept : List ℕ) : Type 0 where
  pub reported : unclosed ≡ None
  pub kept_is : kept ≡ rest
  pub version : Version
  pub version_is : version_of rest ≡ Some version
  pub unended : head_len rest ≡ None
  pub room : length rest < max_head

-- after a head: `left` bytes of the block are to come, `matched` bytes of what closes the record are there
pub record InBlock (rest : List ℕ) (unclosed : Option Unclosed) (left matched : ℕ) : Type 0 where
  pub head : List ℕ
  pub part : Unclosed
  pub reported : unclosed ≡ Some part
  pub head_is : IsHeadOf part head
  pub count : part.block_len ≡ length part.bytes + left
  pub rest_is : rest ≡ head ++ (part.bytes ++ take matched closing)
  pub fewer : matched < 4
  pub block_first : 0 < left → matched ≡ 0

abbrev pub PhaseIs : List ℕ → Option Unclosed → State → Phase → Type 0
PhaseIs rest unclosed d phases.Head = InHead rest unclosed d.kept
PhaseIs rest unclosed d phases.Block = (d.kept ≡ []) × InBlock rest unclosed d.left d.matched
PhaseIs rest unclosed d (phases.Failed f) = ⊥

-- the decoder, which began at offset `at` and didn't fail, took these bytes and reported this
pub record IsAt (at : ℕ) (taken : List ℕ) (reported : Reported) (d : State) : Type 0 where
  pub front : List ℕ
  pub rest : List ℕ
  pub taken_is : taken ≡ front ++ rest
  pub spelled : SpellsAll reported.records front
  pub position_is : d.position ≡ at + length taken
  pub phase_is : PhaseIs rest reported.unclosed d d.phase

-- the decoder failed
abbrev pub IsFailed : State → Fault → Type 0
IsFailed d f = d.phase ≡ phases.Failed f

-- what `finish` says of the bytes taken: they are whole records, or their frame fault is that they end too early
abbrev pub Finishes : ℕ → List ℕ → Reported → Result (Unit {0}) Fault → Type 0
Finishes at taken reported (Ok u) = (reported.unclosed ≡ None) × SpellsAll reported.records taken
Finishes at taken reported (Err f) = (f ≡ fault Truncated (at + length taken)) × IsFrameFault at taken f

-- how many bytes a step takes of a piece of n bytes, and what it reports
abbrev pub TakesWithin : {A : Type 0} → ℕ → ℕ → Event A → Type 0
TakesWithin n took events.More = took ≡ n
TakesWithin n took (events.Head version fields length) = (0 < took) × (took ≤ n)
TakesWithin n took (events.Part from to) = (from < to) × (to ≡ took) × (took ≤ n)
TakesWithin n took events.End = (0 < took) × (took ≤ n)

-- what a step says that took bytes of a piece and reported an event
pub record Takes {A : Type 0} (at : ℕ) (taken : List ℕ) (reported : Reported) (new : State) (piece : List ℕ) (took : ℕ)
    (event : Event A) : Type 0 where
  pub may : MayReport reported.unclosed event
  pub is_at : IsAt at (taken ++ take took piece) (report reported piece event) new
  pub exact : IfReported event (IsExact (taken ++ take took piece) (report reported piece event))

-- a CRLF CRLF ends with the byte at this place
abbrev pub ends_after : List ℕ → ℕ → Bool
ends_after t e = nat_le 3 e && (crlf_at t (e - 3) && crlf_at t (e - 1))

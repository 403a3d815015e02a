-- What reading a stream piece by piece keeps and returns. A state of the code.
use Rattle.std.specs.Prelude.{◌≡◌, ◌≢◌, ℕ, ◌+◌, ◌≤◌, List, ◌++◌, length, Option, Some, None}
use Rattle.warc_frame.specs.declared.fault.FaultKind.TheVariants.{Truncated, Memory}
use Rattle.warc_frame.specs.declared.fault.Fault.{Fault}
use Rattle.warc_frame.specs.declared.stream.Event.{Event}
use Rattle.warc_frame.specs.declared.stream.Event.TheVariants as events
use Rattle.warc_frame.specs.Record.{Record, IsFramed}
use Rattle.warc_frame.specs.Spelling.{SpellsAll}
use Rattle.warc_frame.specs.Faults.{IsFrameFault}
use Rattle.warc_frame.specs.Reported.{Unclosed, Reported}
use Rattle.warc_frame.specs.Decoding.{State, IsAt}

abbrev pub ClosesFramed : Option Unclosed → Type 0
ClosesFramed None = Unit {0}
ClosesFramed (Some u) = IsFramed (record { version = u.version; fields = u.fields; block = u.bytes })

-- a part is in the piece, and what an end closes can be framed
abbrev pub MayKeep : {A : Type 0} → ℕ → Option Unclosed → Event A → Type 0
MayKeep n unclosed events.More = Unit {0}
MayKeep n unclosed (events.Head version fields number) = Unit {0}
MayKeep n unclosed (events.Part from to) = (from ≤ to) × (to ≤ n)
MayKeep n unclosed events.End = ClosesFramed unclosed

-- an offset is the one after the text of these records, at the front of a text that begins at offset `at`
pub record AreRecordsBefore (at : ℕ) (text : List ℕ) (records : List Record) (offset : ℕ) : Type 0 where
  pub front : List ℕ
  pub rest : List ℕ
  pub text_is : text ≡ front ++ rest
  pub spelled : SpellsAll records front
  pub offset_is : offset ≡ at + length front

-- where the record begins that isn't ended, once this event is reported whose bytes end before offset `following`
abbrev pub start_on : {A : Type 0} → ℕ → ℕ → Event A → ℕ
start_on start following events.More = start
start_on start following (events.Head version fields number) = start
start_on start following (events.Part from to) = start
start_on start following events.End = following

-- what was reported, and where the record begins that isn't ended
pub record Keeping : Type 0 where
  pub reported : Reported
  pub start : ℕ

-- what is kept of the bytes taken
pub record Keeps (at : ℕ) (taken : List ℕ) (kept : Keeping) (d : State) : Type 0 where
  pub is_at : IsAt at taken kept.reported d
  pub start : AreRecordsBefore at taken kept.reported.records kept.start

-- unless memory ran out: the frame fault of a text, which stays whatever follows
abbrev pub IsPieceFault : ℕ → List ℕ → Fault → Type 0
IsPieceFault at text f = f.kind ≢ Memory → IsFrameFault at text f × (f.kind ≢ Truncated)

-- unless memory ran out: the frame fault of a text
abbrev pub IsPiecesFault : ℕ → List ℕ → Fault → Type 0
IsPiecesFault at text f = f.kind ≢ Memory → IsFrameFault at text f

-- memory ran out for a record that begins at the fault's offset: after whole records, or at the text's front
abbrev pub IsMemoryFault : ℕ → List ℕ → Fault → Type 0
IsMemoryFault at text f = f.kind ≡ Memory → (records : List Record) × AreRecordsBefore at text records f.offset

-- What the steps of a reader of a stream reported, and what of it is in the bytes. This project's own notion.
use Rattle.std.specs.Prelude.{◌≡◌, ◌≢◌, ℕ, ◌+◌, List, [], ◌∷◌, ◌++◌, length, take, drop, slice_range, Option, Some, None, IsSome, Result, Ok, Err}
use Rattle.warc_field.specs.Area.{Pair}
use Rattle.warc_frame.specs.declared.version.Version.{Version}
use Rattle.warc_frame.specs.declared.fault.FaultKind.{FaultKind}
use Rattle.warc_frame.specs.declared.fault.FaultKind.TheVariants.{Truncated, Memory}
use Rattle.warc_frame.specs.declared.fault.Fault.{Fault}
use Rattle.warc_frame.specs.declared.stream.Event.{Event}
use Rattle.warc_frame.specs.declared.stream.Event.TheVariants as events
use Rattle.warc_frame.specs.Record.{Record}
use Rattle.warc_frame.specs.Spelling.{SpellsAll}
use Rattle.warc_frame.specs.Reading.{Judgement, Head, any_fields, head_of, record_of, fault}
use Rattle.warc_frame.specs.Faults.{AllAccepted, ReadsAs, within_limit, goes_on, limited}

-- a record whose head was reported and whose end wasn't, with the bytes of its block that were reported
pub record Unclosed : Type 0 where
  pub version : Version
  pub fields : List Pair
  pub block_len : ℕ
  pub bytes : List ℕ

-- the records whose end was reported, and the one after them
pub record Reported : Type 0 where
  pub records : List Record
  pub unclosed : Option Unclosed

-- nothing was reported yet
abbrev pub nothing : Reported
nothing = record { records = []; unclosed = None }

abbrev pub with_bytes : Option Unclosed → List ℕ → Option Unclosed
with_bytes None bytes = None
with_bytes (Some u) bytes =
    Some (record { version = u.version; fields = u.fields; block_len = u.block_len; bytes = u.bytes ++ bytes })

abbrev pub ended : Option Unclosed → List Record
ended None = []
ended (Some u) = record { version = u.version; fields = u.fields; block = u.bytes } ∷ []

-- what was reported once this event, at this piece, is reported too
abbrev pub report : {A : Type 0} → Reported → List ℕ → Event A → Reported
report reported piece events.More = reported
report reported piece (events.Head version fields n) =
    let opened : Unclosed = record { version = version; fields = fields; block_len = n; bytes = [] } in
    record { records = reported.records; unclosed = Some opened }
report reported piece (events.Part from to) =
    record { records = reported.records; unclosed = with_bytes reported.unclosed (slice_range piece from to) }
report reported piece events.End = record { records = reported.records ++ ended reported.unclosed; unclosed = None }

-- all of a block was reported
abbrev pub IsWhole : Option Unclosed → Type 0
IsWhole None = ⊥
IsWhole (Some u) = length u.bytes ≡ u.block_len

-- a head is reported only between records, a part only after a head, and an end only after the whole block
abbrev pub MayReport : {A : Type 0} → Option Unclosed → Event A → Type 0
MayReport unclosed events.More = Unit {0}
MayReport unclosed (events.Head version fields n) = unclosed ≡ None
MayReport unclosed (events.Part from to) = IsSome unclosed
MayReport unclosed events.End = IsWhole unclosed

abbrev pub opened : Result Head Fault → List ℕ → Option Unclosed
opened (Ok head) t =
    let bytes = take head.block_len (drop head.len t) in
    Some (record { version = head.version; fields = head.fields; block_len = head.block_len; bytes = bytes })
opened (Err f) t = None

-- what of a text that is less than a record is reported: its head, if it is whole and can be framed, and the bytes of
-- its block
abbrev pub unclosed_of : List ℕ → Option Unclosed
unclosed_of t = opened (head_of any_fields t) t

-- a text ends before the record at its front does
abbrev pub IsCut : List ℕ → Type 0
IsCut t = record_of any_fields t ≡ Err (fault Truncated (length t))

-- what was reported is exactly what is in the text: its whole records, the head after them, the bytes of its block
pub record Lies (text : List ℕ) (reported : Reported) : Type 0 where
  pub front : List ℕ
  pub rest : List ℕ
  pub text_is : text ≡ front ++ rest
  pub spelled : SpellsAll reported.records front
  pub cut : IsCut rest
  pub unclosed_is : reported.unclosed ≡ unclosed_of rest

-- a text is the whole head of a record
abbrev pub IsHeadOf : Unclosed → List ℕ → Type 0
IsHeadOf u head = head_of any_fields head
    ≡ Ok (record { version = u.version; fields = u.fields; len = length head; block_len = u.block_len })

abbrev pub EndsThere : List ℕ → Option Unclosed → Type 0
EndsThere rest None = rest ≡ []
EndsThere rest (Some u) = (head : List ℕ) × IsHeadOf u head × (rest ≡ head ++ u.bytes)

-- the text ends where what was reported ends: after a record, after a head, or in a block after the reported bytes
pub record IsExact (text : List ℕ) (reported : Reported) : Type 0 where
  pub front : List ℕ
  pub rest : List ℕ
  pub text_is : text ≡ front ++ rest
  pub spelled : SpellsAll reported.records front
  pub ends : EndsThere rest reported.unclosed

-- a judgement finds no fault in the fields of the head reported last, if its record's end wasn't reported
abbrev pub AcceptsOpen : Judgement → Option Unclosed → Type 0
AcceptsOpen judge None = Unit {0}
AcceptsOpen judge (Some u) = judge u.fields ≡ None

-- nor in those of any head that was reported
abbrev pub AcceptsReported : Judgement → Reported → Type 0
AcceptsReported judge reported = AllAccepted judge reported.records × AcceptsOpen judge reported.unclosed

-- where an event reports something
abbrev pub IfReported : {A : Type 0} → Event A → Type 0 → Type 0
IfReported events.More P = Unit {0}
IfReported (events.Head version fields n) P = P
IfReported (events.Part from to) P = P
IfReported events.End P = P

-- the frame fault of a text that begins at offset `at`, which stays whatever follows; what was reported is all that
-- is before it: the records, and of what the fault is in, a head that is whole and can be framed and the bytes of its
-- block
pub record Refutes (at : ℕ) (text : List ℕ) (reported : Reported) (f : Fault) : Type 0 where
  pub found : Option Fault
  pub reads : ReadsAs any_fields at (within_limit at text) reported.records found
  pub limit : limited (goes_on at text) found ≡ Some f
  pub settled : f.kind ≢ Truncated
  pub unclosed_is : reported.unclosed ≡ unclosed_of reads.rest

-- memory ran out for the head of the record after those that were reported
pub record WantsMemory (at : ℕ) (text : List ℕ) (reported : Reported) (f : Fault) : Type 0 where
  pub front : List ℕ
  pub rest : List ℕ
  pub text_is : within_limit at text ≡ front ++ rest
  pub spelled : SpellsAll reported.records front
  pub offset_is : f.offset ≡ at + length front
  pub unclosed_is : reported.unclosed ≡ None

abbrev pub RefusesAs : FaultKind → ℕ → List ℕ → Reported → Fault → Type 0
RefusesAs Memory at text reported f = WantsMemory at text reported f
RefusesAs kind at text reported f = Refutes at text reported f

-- what a step that fails says of the bytes taken and its piece, together
abbrev pub Refuses : ℕ → List ℕ → Reported → Fault → Type 0
Refuses at text reported f = RefusesAs f.kind at text reported f

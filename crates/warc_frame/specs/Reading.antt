-- The record at the front of a text, or the first row of the table of refusals that fits the text. What a record is:
-- ISO 28500:2017, which is WARC 1.1, section 4, file and record model. The table of refusals is this project's own
-- notion.
use Rattle.std.specs.Prelude.{◌≡◌, ℕ, suc, ◌+◌, ◌-◌, ◌&&◌, Bool, not, nat_le, nat_lt, nat_eq, List, [], ◌∷◌, ◌++◌, length, take, drop, slice_range, Option, Some, None, option_map, is_none, Result, Ok, Err, if◌then◌else◌}
use Rattle.std.specs.List.{starts_with}
use Rattle.warc_field.specs.Area.{Pair, area_of}
use Rattle.warc_field.specs.Lines.{crlf, empty_at}
use Rattle.warc_frame.specs.declared.version.Version.{Version}
use Rattle.warc_frame.specs.declared.version.Version.TheVariants.{V1_0, V1_1}
use Rattle.warc_frame.specs.declared.fault.FaultKind.{FaultKind}
use Rattle.warc_frame.specs.declared.fault.FaultKind.TheVariants.{Version as NoVersion, HeadTooLong, Truncated, Field, End, Memory}
use Rattle.warc_frame.specs.declared.fault.Fault.{Fault}
use Rattle.warc_frame.specs.Record.{Record, block_len, canonical_len, max_head}
use Rattle.warc_frame.specs.VersionLine.{version_line}

abbrev pub fault : FaultKind → ℕ → Fault
fault kind offset = record { kind = kind; offset = offset }

-- what a reader asks of a head's fields beyond framing: its first fault, or none
abbrev pub Judgement : Type 0
Judgement = List Pair → Option FaultKind

-- framing asks no more
abbrev pub any_fields : Judgement
any_fields fields = None

-- whether the text, as far as it goes, begins as `wanted`
abbrev pub begins : List ℕ → List ℕ → Bool
begins text wanted = starts_with nat_eq wanted (take (length wanted) text)

-- the version whose line the text, as far as it goes, begins with
unfoldable pub version_of : List ℕ → Option Version
version_of t =
    if begins t (version_line V1_1) then Some V1_1
    else if begins t (version_line V1_0) then Some V1_0
    else None

-- the first empty line: the first place of a CRLF CRLF
unfoldable pub empty_line : List ℕ → Option ℕ
empty_line [] = None
empty_line (b ∷ bs) = if empty_at (b ∷ bs) 0 then Some 0 else option_map suc (empty_line bs)

-- the part of a text in which its head must end
unfoldable pub head_front : List ℕ → List ℕ
head_front t = take max_head t

-- the length of the head: it ends with the first CRLF CRLF
unfoldable pub head_len : List ℕ → Option ℕ
head_len t = option_map (λ place. place + 4) (empty_line (head_front t))

infixl 10 ◌>>=◌
-- what comes next in a table: the first row that refuses decides
abbrev pub ◌>>=◌ : {A B E : Type 0} → Result A E → (A → Result B E) → Result B E
(Ok x) >>= f = f x
(Err e) >>= f = Err e

-- a row of the table: the fault, where its test holds
abbrev pub refuses : Bool → Fault → Result (Unit {0}) Fault
refuses test f = if test then Err f else Ok tt

-- a row of the table: the fault, where there is nothing
abbrev pub needs : {A : Type 0} → Option A → Fault → Result A Fault
needs None f = Err f
needs (Some x) f = Ok x

-- a row of the table: the fault at the record's first byte, where there is one
abbrev pub accepts : Option FaultKind → Result (Unit {0}) Fault
accepts None = Ok tt
accepts (Some kind) = Err (fault kind 0)

-- a row of the table: what it reads, or the fault at the record's first byte
abbrev pub at_front : {A : Type 0} → Result A FaultKind → Result A Fault
at_front (Ok x) = Ok x
at_front (Err kind) = Err (fault kind 0)

abbrev pub fields_or_line : Result (List Pair) ℕ → Result (List Pair) Fault
fields_or_line (Ok fields) = Ok fields
fields_or_line (Err at) = Err (fault Field (10 + at))

-- a head: its version and fields, its length, and the length of the block after it
pub record Head : Type 0 where
  pub version : Version
  pub fields : List Pair
  pub len : ℕ
  pub block_len : ℕ

-- a record's head of n bytes
abbrev pub headed : Record → ℕ → Head
headed r n = record { version = r.version; fields = r.fields; len = n; block_len = length r.block }

-- the head at the front of a text. Its rows are the table's, in the table's order: Version; HeadTooLong or Truncated
-- of a head without an end; Field; HeadTooLong of the canonical head; Missing, Repeated or Length of the only
-- Content-Length; what the judgement finds of type, id and date
unfoldable pub head_of : Judgement → List ℕ → Result Head Fault
head_of judge t = do
  version ← needs (version_of t) (fault NoVersion 0)
  _ ← refuses (is_none (head_len t) && nat_le max_head (length t)) (fault HeadTooLong 0)
  len ← needs (head_len t) (fault Truncated (length t))
  fields ← fields_or_line (area_of (slice_range t 10 (len - 2)))
  _ ← refuses (nat_lt max_head (canonical_len version fields)) (fault HeadTooLong 0)
  n ← at_front (block_len fields)
  _ ← accepts (judge fields)
  Ok (record { version = version; fields = fields; len = len; block_len = n })

-- the block of n bytes at a place, if two CRLFs close it. The table's last rows: End, Truncated
unfoldable pub block_at : ℕ → ℕ → List ℕ → Result (List ℕ) Fault
block_at place n t = do
  _ ← refuses (not (begins (drop (place + n) t) (crlf ++ crlf))) (fault End (place + n))
  _ ← refuses (nat_lt (length t) (place + n + 4)) (fault Truncated (length t))
  Ok (slice_range t place (place + n))

-- the record at the front of a text, and its length
unfoldable pub record_of : Judgement → List ℕ → Result (Record × ℕ) Fault
record_of judge t = do
  head ← head_of judge t
  block ← block_at head.len head.block_len t
  Ok (record { version = head.version; fields = head.fields; block = block }, head.len + head.block_len + 4)

-- a failed allocation is reported at offset 0, and any other fault as a fact says
abbrev pub OrMemory : FaultKind → ℕ → Type 0 → Type 0
OrMemory Memory offset P = offset ≡ 0
OrMemory kind offset P = P

-- what a call returned, seen by view, is what reading gives, unless memory ran out
abbrev pub AnswersAs : {X Y : Type 0} → (X → Y) → Result X Fault → Result Y Fault → Type 0
AnswersAs view (Ok x) read = read ≡ Ok (view x)
AnswersAs view (Err f) read = OrMemory f.kind f.offset (read ≡ Err f)

-- What closes a record, and where a head says that its block ends. A state of the code.
use Rattle.std.specs.Prelude.{◌≡◌, ℕ, ◌+◌, ◌<◌, ◌≤◌, ◌⊎◌, nat_lt, not, true, List, ◌++◌, length, take, drop, Result, Ok, Err}
use Rattle.warc_field.specs.Lines.{crlf}
use Rattle.warc_frame.specs.Reading.{◌>>=◌, Head, begins, fault, head_of, refuses}
use Rattle.warc_frame.specs.Record.{max_block}
use Rattle.warc_frame.specs.Seen.{SeenSource}
use Rattle.warc_frame.specs.declared.fault.Fault.{Fault}
use Rattle.warc_frame.specs.declared.fault.FaultKind.{FaultKind}
use Rattle.warc_frame.specs.declared.fault.FaultKind.TheVariants.{End, Memory, Read, Truncated}
use Rattle.warc_record.specs.Heads.{head_fault}
use Rattle.warc_pieces.specs.Pieces.{near}

-- what is wrong after a block that ends at a place of a text, if anything is
unfoldable pub closed_at : ℕ → List ℕ → Result (Unit {0}) Fault
closed_at end t =
    refuses (not (begins (drop end t) (crlf ++ crlf))) (fault End end)
    >>= λ _. refuses (nat_lt (length t) (end + 4)) (fault Truncated (length t))

-- a text begins with a good head, after which the block ends at a place
pub record HasBlockEnd (text : List ℕ) (end : ℕ) : Type 0 where
  pub head : Head
  pub reads : head_of head_fault text ≡ Ok head
  pub end_is : end ≡ head.len + head.block_len
  pub limit : end ≤ length text + max_block
  pub some : 0 < length text

-- the fault of a text that begins with no good head
pub record HasHeadFault (text : List ℕ) (f : Fault) : Type 0 where
  pub reads : head_of head_fault text ≡ Err f

-- why no good head was read at the front of a text: memory ran out, or none is there
abbrev pub HeadMisses : FaultKind → List ℕ → Fault → Type 0
HeadMisses Memory text f = (f.offset ≡ 0) × (0 < length text)
HeadMisses kind text f = HasHeadFault text f

-- the front of what a text has from an offset on, all or as far as it closes a record
pub record IsFrontRead (at len : ℕ) (t front : List ℕ) : Type 0 where
  pub same : front ≡ take (length front) (drop at t)
  pub whole : begins front (crlf ++ crlf) ≡ true → front ≡ take len (drop at t)

-- it closes a record, as far as it goes
pub record IsFrontOpen (at : ℕ) (t front : List ℕ) : Type 0 where
  pub same : front ≡ take (length front) (drop at t)
  pub begins_as : begins front (crlf ++ crlf) ≡ true

-- a failed read at the offset asked last, which is one of `len` from `at` on
pub record IsReadFaultIn (at len : ℕ) (f : Fault) (new : SeenSource) : Type 0 where
  pub kind : f.kind ≡ Read
  pub from : at ≤ f.offset
  pub before : f.offset < at + len
  pub asked : f.offset ≡ new.asked

-- nothing in the bytes before an offset closes a block that ends at `end`, and nothing there is wrong
abbrev pub IsOpenBefore : ℕ → ℕ → List ℕ → Type 0
IsOpenBefore offset end t = closed_at end (take offset t) ≡ Err (fault Truncated (length (take offset t)))

-- what is wrong after a block that ends at an offset of a source, if anything is; a failed read is reported at an
-- offset from there or from `known` on, before which the block is open
abbrev pub ClosesBy : FaultKind → ℕ → ℕ → List ℕ → Fault → Type 0
ClosesBy Read known end bytes f = ((known ≤ f.offset) ⊎ (end ≤ f.offset)) × IsOpenBefore f.offset end (near bytes)
ClosesBy kind known end bytes f = closed_at end (near bytes) ≡ Err f

abbrev pub Closes : ℕ → ℕ → List ℕ → Result (Unit {0}) Fault → Type 0
Closes known end bytes (Ok u) = closed_at end (near bytes) ≡ Ok tt
Closes known end bytes (Err f) = ClosesBy f.kind known end bytes f

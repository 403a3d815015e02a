-- What a source over a reader gives, whose bytes come once, in order. This project's own notion.
use Rattle.std.specs.Prelude.{◌≡◌, ◌≢◌, ◌↔◌, ℕ, ◌+◌, ◌<◌, List, Option, None, Result, Ok, IfOk, IsErr, IsOkAnd, IsSome, OnErr}
use Rattle.std.specs.Io.KnownBytes.{ReadConsumes}
use Rattle.warc_frame.specs.Count.{capped}
use Rattle.warc_stream.specs.declared.stream.Stop.{Stop}
use Rattle.warc_stream.specs.declared.stream.Stop.TheVariants.{End, Failure}

-- a reader, the offset of its next byte, the stop that waits for the next read, how often it was read, how often that
-- failed, the offset asked for last, and how many reads asked elsewhere than at the next byte
pub record Streamed (R : Type 0) : Type 0 where
  pub reader : R
  pub position : ℕ
  pub pending : Option Stop
  pub reads : ℕ
  pub faults : ℕ
  pub asked : ℕ
  pub jumps : ℕ

-- over a reader whose next byte is at offset 0, and which nobody has read
abbrev pub unread : {R : Type 0} → R → Streamed R
unread reader =
    record { reader = reader; position = 0; pending = None; reads = 0; faults = 0; asked = 0; jumps = 0 }

-- a read at an offset gave the next bytes of a reader, which is at a position before and after, and has these bytes
-- left before and after, where they are known. Only a read at the position gives any; a read that fails takes none
pub record GivesNext {E : Type 0} (at position position' : ℕ) (left left' : Option (List ℕ)) (answer : Result ℕ E)
    (buf : List ℕ) : Type 0 where
  pub here : IfOk answer (λ n. at ≡ position)
  pub goes_on : IfOk answer (λ n. position' ≡ capped (position + n))
  pub stays : OnErr answer (position' ≡ position)
  pub given : ReadConsumes left left' answer buf

-- an end is answered by no byte, and a failure by a failure
abbrev pub IsAnswerOf : {E : Type 0} → Stop → Result ℕ E → Type 0
IsAnswerOf End answer = answer ≡ Ok 0
IsAnswerOf Failure answer = IsErr answer

-- a stop that waits is what the next read at the position answers, and the reader isn't asked
pub record AnswersStop {R E : Type 0} (at : ℕ) (old new : Streamed R) (answer : Result ℕ E) (stop : Stop) : Type 0 where
  pub reader : new.reader ≡ old.reader
  pub here : at ≡ old.position → IsAnswerOf stop answer

-- a read at the position leaves a stop to the next read exactly if it gives some bytes, but fewer than there is room
-- for; a read elsewhere leaves what was there
pub record LeavesStop {E : Type 0} (at position room : ℕ) (answer : Result ℕ E) (pending pending' : Option Stop)
    : Type 0 where
  pub here : at ≡ position → IsSome pending' ↔ IsOkAnd answer (λ n. (0 < n) × (n < room))
  pub elsewhere : at ≢ position → pending' ≡ pending

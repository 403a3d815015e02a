-- What opening a source reads of it, and when it is refused.
use Rattle.std.specs.Prelude.{◌≡◌, ℕ, ◌+◌, ◌≤◌, ◌<◌, ◌⊎◌, List, length, take, drop, Result, Ok, Err, IfOk, IfErr, MatchResult}
use Rattle.warc_frame.specs.Count.{raised}
use Rattle.warc_frame.specs.Record.{max_archive}
use Rattle.warc_frame.specs.Reported.{IsCut}
use Rattle.warc_frame.specs.declared.fault.Fault.{Fault}
use Rattle.warc_frame.specs.declared.fault.FaultKind.{FaultKind}
use Rattle.warc_frame.specs.declared.fault.FaultKind.TheVariants.{Read, Memory, Truncated}
use Rattle.warc_reading.specs.Archive.{IsFaultOf, IsRecordEnd}
use Rattle.warc_frame.specs.Seen.{AsksOnly, IfHeld, InOrder, SeenSource}

-- a text has no fault but that it ends too early, if that
abbrev pub IsOnlyCut : List ℕ → Type 0
IsOnlyCut text = (f : Fault) → IsFaultOf text f → f.kind ≡ Truncated

-- a read failed after these bytes, and what comes before is no reason to refuse them
pub record IsUnread (bytes : List ℕ) (offset : ℕ) : Type 0 where
  pub within : offset ≤ length bytes
  pub before : IsOnlyCut (take offset bytes)

-- memory ran out for the record that begins at this offset, and `asked` was the last offset asked for: all
-- records before it are good, a byte of it is there, and no whole record is between it and `asked`
pub record IsUnkept (bytes : List ℕ) (asked offset : ℕ) : Type 0 where
  pub end : IsRecordEnd bytes offset
  pub begins : offset < length bytes
  pub cut : offset < asked → IsCut (drop offset (take asked bytes))

-- memory ran out before the first read, where reading begins
pub record IsUntried (start : ℕ) (old new : SeenSource) (offset : ℕ) : Type 0 where
  pub front : offset ≡ start
  pub same : new ≡ old

-- why bytes aren't read from an offset on: a read or an allocation failed, or else this is their first fault
abbrev pub RefusesFrom : ℕ → FaultKind → List ℕ → SeenSource → SeenSource → Fault → Type 0
RefusesFrom start Read bytes old new f = IsUnread bytes f.offset
RefusesFrom start Memory bytes old new f = IsUntried start old new f.offset ⊎ IsUnkept bytes new.asked f.offset
RefusesFrom start kind bytes old new f = IsFaultOf bytes f

-- why they aren't opened
abbrev pub RefusesBy : FaultKind → List ℕ → SeenSource → SeenSource → Fault → Type 0
RefusesBy kind bytes old new f = RefusesFrom 0 kind bytes old new f

abbrev pub IsRefusalOf : List ℕ → SeenSource → SeenSource → Fault → Type 0
IsRefusalOf bytes old new f = RefusesBy f.kind bytes old new f

-- how often a source has failed after a refusal
abbrev pub faults_after : FaultKind → ℕ → ℕ
faults_after Read n = raised n
faults_after kind n = n

-- reading on in a source to its end, or to a refusal: it still holds what it held, and has failed once more exactly
-- if the refusal is a read fault, at the offset asked last. No byte at an offset above 2^48 is asked for, and at
-- most 2^48 reads and one are made; before a read fault at most one for each byte before it, and one. It watches what
-- it did
pub record ReadsOn {X : Type 0} (old new : SeenSource) (answer : Result X Fault) : Type 0 where
  pub kept : new.holds ≡ old.holds
  pub cause : MatchResult answer (λ x. new.faults ≡ old.faults) (λ f. new.faults ≡ faults_after f.kind old.faults)
  pub asked : IfErr answer (λ f. f.kind ≡ Read → f.offset ≡ new.asked)
  pub near : AsksOnly (λ at. at ≤ max_archive) old new
  pub watched : new.watches ≡ old.watches
  pub bound : new.reads ≤ old.reads + max_archive + 1
  pub tried : IfErr answer (λ f. f.kind ≡ Read → new.reads ≤ old.reads + f.offset + 1)

-- reading a source from an offset on: it gives what is right for the bytes, or a refusal, by the bytes that the source
-- holds, where they are known; at most one read is made for each of them, and one. What it gives of any source is right
-- for some bytes. The first read is at that offset, and each other where the one before ended
pub record OpensFrom (start : ℕ) {X : Type 0} (Is : List ℕ → X → Type 0) (old new : SeenSource)
    (answer : Result X Fault) : Type 0 where
  pub accepted : IfHeld old.holds (λ bytes. IfOk answer (Is bytes))
  pub refused : IfHeld old.holds (λ bytes. IfErr answer (λ f. RefusesFrom start f.kind bytes old new f))
  pub cost : IfHeld old.holds (λ bytes. new.reads ≤ old.reads + length bytes + 1)
  pub some : IfOk answer (λ x. (bytes : List ℕ) × Is bytes x)
  pub order : InOrder start old new
  pub reads : ReadsOn old new answer

-- opening a source
abbrev pub Opens : {X : Type 0} → (List ℕ → X → Type 0) → SeenSource → SeenSource → Result X Fault → Type 0
Opens Is old new answer = OpensFrom 0 Is old new answer

-- what opening or growing gives, as it is seen, or why it gives nothing
abbrev pub without_source : {S X Y : Type 0} → (X → Y) → Result X (Fault × S) → Result Y Fault
without_source see (Ok x) = Ok (see x)
without_source see (Err refused) = Err refused.0

-- the source that is left: the one of what is given, or the one that is returned
abbrev pub source_left : {S X : Type 0} → (X → S) → Result X (Fault × S) → S
source_left kept (Ok x) = kept x
source_left kept (Err refused) = refused.1

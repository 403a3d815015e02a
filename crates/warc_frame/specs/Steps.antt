-- What the parts of a step say of the decoder. A state of the code.
use Rattle.std.specs.Prelude.{◌≡◌, ℕ, ◌+◌, ◌-◌, Bool, List, [], ◌++◌, length, Result, Ok, Err}
use Rattle.warc_frame.specs.declared.fault.FaultKind.{FaultKind}
use Rattle.warc_frame.specs.declared.fault.FaultKind.TheVariants.{Memory}
use Rattle.warc_frame.specs.declared.fault.Fault.{Fault}
use Rattle.warc_frame.specs.declared.stream.Event.{Event}
use Rattle.warc_frame.specs.declared.stream.Event.TheVariants as events
use Rattle.warc_frame.specs.declared.stream.Phase.TheVariants as phases
use Rattle.warc_frame.specs.Reading.{any_fields, head_of}
use Rattle.warc_frame.specs.Faults.{within_limit, goes_on, following}
use Rattle.warc_frame.specs.Decoding.{State}

-- of a text that begins at offset `at`, these bytes are those before the limit, and more follow them if it is said so
pub record Near (crosses : Bool) (at : ℕ) (text near : List ℕ) : Type 0 where
  pub front : within_limit at text ≡ near
  pub beyond : goes_on at text ≡ crosses

-- an event reports what a whole head says, whose block has n bytes
abbrev pub ReportsHead : {A : Type 0} → List ℕ → ℕ → Event A → Type 0
ReportsHead head n events.More = ⊥
ReportsHead head n (events.Head version fields m) = (len : ℕ) × (m ≡ n)
    × (head_of any_fields head ≡ Ok (record { version = version; fields = fields; len = len; block_len = n }))
ReportsHead head n (events.Part from to) = ⊥
ReportsHead head n events.End = ⊥

-- the fault of a head that begins at offset p, or a failed allocation there
abbrev pub HeadFails : FaultKind → ℕ → List ℕ → Fault → Type 0
HeadFails Memory p head f = f.offset ≡ p
HeadFails kind p head f = (g : Fault) × (head_of any_fields head ≡ Err g) × (f ≡ following p g)

-- what taking these bytes, which end a head, does
abbrev pub ClosesHead : {A : Type 0} → State → State → List ℕ → Result (ℕ × Event A) Fault → Type 0
ClosesHead old new end (Ok r) = (r.0 ≡ length end) × ReportsHead (old.kept ++ end) new.left r.1 × (new.kept ≡ [])
    × (new.position ≡ old.position + length end) × (new.matched ≡ 0) × (new.phase ≡ phases.Block)
ClosesHead old new end (Err f) = HeadFails f.kind (old.position - length old.kept) (old.kept ++ end) f

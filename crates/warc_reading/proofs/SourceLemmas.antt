-- What was read of a source is a front of the bytes that it holds.
use Rattle.std.proofs.Common.{◌≡◌, ◌≢◌, ℕ, ◌+◌, ◌<◌, ◌≤◌, ◌^◌, List, ◌++◌, length, take, drop, min, ◌-◌, Result, Ok, Err, IfOk, nat_lt, true, false, if◌then◌else◌, refl, sym, ap, ◌∙◌, arith, length-append}
use Rattle.std.proofs.Math.Seq.{take-add}
use Rattle.std.proofs.Math.Nat.{le-min, min-le_right}
use Rattle.std.proofs.lemmas.List.{length-take, length-take-le, take-append-le, take_all}
use Rattle.warc_frame.specs.Count.{raised}
use Rattle.warc_frame.specs.Device.{Gives}
use Rattle.warc_frame.specs.declared.fault.FaultKind.{FaultKind}
use Rattle.warc_frame.specs.declared.fault.FaultKind.TheVariants.{Read, Truncated}
use Rattle.warc_reading.specs.Opening.{faults_after}

-- one read takes the front further
pub front_grows : (bytes text buf : List ℕ) (at n : ℕ) → at ≡ length text → text ≡ take (length text) bytes → Gives bytes at buf n → text ++ take n buf ≡ take (length text + n) bytes
front_grows bytes text buf at n at_is front gave =
    ap (λ t. t ++ take n buf) front
    ∙ ap (λ y. take (length text) bytes ++ y) (gave.same ∙ ap (λ k. take n (drop k bytes)) at_is)
    ∙ sym (take-add (length text) n bytes)

-- a read into the front of a buffer
pub gives_front : {E : Type 0} (r : Result ℕ E) (bytes part rest : List ℕ) (at : ℕ) → IfOk r (λ n. n ≤ length part) → (0 < length (part ++ rest) → 0 < length part) → IfOk r (Gives bytes at part) → IfOk r (Gives bytes at (part ++ rest))
gives_front (Ok n) bytes part rest at few some gives = record {
  same = take-append-le n part rest few ∙ gives.same;
  within = gives.within;
  some = λ there room. gives.some there (some room);
}
gives_front (Err e) bytes part rest at few some gives = tt

-- a read at an offset up to the limit asks for a byte, where the buffer has room for one
pub room_left : (at len room part : ℕ) → at ≤ 2 ^ 48 → room ≡ min (2 ^ 48 + 1 - at) len → part ≡ min room len → 0 < part + (len - room) → 0 < part
room_left at len room part low is size some =
    let few : part ≤ len = omega (arith, size, min-le_right room len) in
    let any : 1 ≤ len = omega (arith, some, few) in
    let below : 1 ≤ 2 ^ 48 + 1 - at = omega (arith, low) in
    let least : 1 ≤ min (2 ^ 48 + 1 - at) len = le-min below any in
    let asked : 1 ≤ room = omega (arith, is, least) in
    let read : 1 ≤ min room len = le-min asked any in
    omega (arith, size, read)

pub length_grows : (text buf : List ℕ) (n : ℕ) → n ≤ length buf → length (text ++ take n buf) ≡ length text + n
length_grows text buf n room = length-append text (take n buf) ∙ ap (λ k. length text + k) (length-take-le n buf room)

pub within : (bytes text : List ℕ) (n : ℕ) → text ≡ take n bytes → length text ≤ length bytes
within bytes text n front = omega (arith, ap length front ∙ length-take n bytes)

-- the source ended
pub ends : (bytes text buf : List ℕ) (at n : ℕ) → at ≡ length text → text ≡ take (length text) bytes → Gives bytes at buf n → 0 < length buf → n ≡ 0 → text ≡ bytes
ends bytes text buf at n at_is front gave room none =
    let over : length bytes ≤ length text = grind (arith, gave.some, at_is, room, none) in
    front ∙ take_all (length text) bytes over

pub not_raised : (kind : FaultKind) (n : ℕ) → kind ≢ Read → faults_after kind n ≡ n
not_raised Read n never = absurd (never refl)
not_raised kind n never = refl

truncated_not_read : (kind : FaultKind) → kind ≡ Truncated → kind ≢ Read
truncated_not_read kind is read = let no : Truncated ≡ Read = sym is ∙ read in cc no

pub raised_by_one : (n : ℕ) → raised n ≤ n + 1
raised_by_one n = elim (nat_lt (n + 1) (2 ^ 64)) as (λ b. (if b then n + 1 else n) ≤ n + 1) [ true ↦ omega arith | false ↦ omega arith ]

-- What a window shows after a read.
use Rattle.std.proofs.Common.{◌≡◌, ℕ, ◌+◌, ◌-◌, ◌<◌, ◌≤◌, Bool, true, false, nat_le, List, ◌++◌, length, take, drop, min, slice_range, Result, Ok, Err, IfOk, refl, sym, ap, subst, ◌∙◌, arith, length-append, length-drop, if◌then◌else◌, ⊎_elim}
use Rattle.std.proofs.Math.Nat.{le-min, min-le_right}
use Rattle.std.proofs.Math.Seq.{take-add}
use Rattle.std.proofs.lemmas.Bool.{and_parts, leb-true, cases_lt}
use Rattle.std.proofs.lemmas.List.{drop-drop, drop-take, drop_all, length-take, length-take-le, take-append-le, take-take, take_all}
use Rattle.warc_frame.specs.Count.{raised}
use Rattle.warc_frame.specs.Device.{Gives}
use Rattle.warc_frame.specs.Record.{max_archive}
use Rattle.warc_frame.specs.Seen.{SeenSource}
use Rattle.warc_frame.specs.declared.fault.Fault.{Fault}
use Rattle.warc_pieces.specs.Pieces.{near}
use Rattle.warc_pieces.specs.Reads.{ReadsNear, from_on}
use Rattle.warc_pieces.specs.Window.{ReadsBy, Shown, Shows, failures_after, reached}

-- a front of a front
pub front_front : (n m k : ℕ) (xs : List ℕ) → n + k ≤ m → take n (drop k (take m xs)) ≡ take n (drop k xs)
front_front n m k xs fits =
    let r = m - k in
    let whole : k + r ≡ m = omega (arith, fits) in
    ap (λ j. take n (drop k (take j xs))) (sym whole) ∙ ap (take n) (drop-take k r xs) ∙ take-take n r (drop k xs) (omega (arith, fits))

-- what was read before offset m is what the bytes before it have
gives_before : (bytes part rest : List ℕ) (at m n : ℕ) → n ≤ length part → at + length part ≤ m → (0 < length (part ++ rest) → 0 < length part) → Gives bytes at part n → Gives (take m bytes) at (part ++ rest) n
gives_before bytes part rest at m n few low some gives = record {
  same = take-append-le n part rest few ∙ gives.same ∙ sym (front_front n m at bytes (omega (arith, few, low)));
  within = omega (arith, gives.within, few, low, length-take m bytes);
  some = λ there room. gives.some (omega (arith, there, length-take m bytes)) (some room);
}

pub gives_near : {E : Type 0} (r : Result ℕ E) (bytes part rest : List ℕ) (at : ℕ) → IfOk r (λ n. n ≤ length part) → at + length part ≤ max_archive → (0 < length (part ++ rest) → 0 < length part) → IfOk r (Gives bytes at part) → IfOk r (Gives (near bytes) at (part ++ rest))
unfolding near
gives_near (Ok n) bytes part rest at few low some gives = gives_before bytes part rest at max_archive n few low some gives
gives_near (Err e) bytes part rest at few low some gives = tt

-- a read before the limit asks for a byte, where the buffer has room for one
pub some_room : (m at len room part rest : ℕ) → at < m → room ≡ min (m - at) len → part ≡ min room len → rest ≡ len - room → 0 < part + rest → 0 < part
some_room m at len room part rest low is size left some =
    let few : part ≤ len = omega (arith, size, min-le_right room len) in
    let any : 1 ≤ len = omega (arith, some, few, left) in
    let below : 1 ≤ m - at = omega (arith, low) in
    let least : 1 ≤ min (m - at) len = le-min below any in
    let asked : 1 ≤ room = omega (arith, is, least) in
    let read : 1 ≤ min room len = le-min asked any in
    omega (arith, size, read)

pub near_len : (bytes : List ℕ) → length (near bytes) ≤ max_archive
unfolding near
near_len bytes = omega (arith, length-take max_archive bytes)

-- a part of a buffer
pub part_len : (buf : List ℕ) (s e : ℕ) → e ≤ length buf → length (slice_range buf s e) ≡ e - s
part_len buf s e within = length-take-le (e - s) (drop s buf) (omega (arith, length-drop s buf))

part_at : (buf : List ℕ) (s k : ℕ) → slice_range buf s (s + k) ≡ drop s (take (s + k) buf)
part_at buf s k = let n : s + k - s ≡ k = omega arith in ap (λ j. take j (drop s buf)) n ∙ sym (drop-take s k buf)

-- a buffer that was written through a slice
pub buffer_whole : (n : ℕ) (xs old : List ℕ) → length xs ≡ n → take n (xs ++ drop (length xs) old) ≡ xs
buffer_whole n xs old size = take-append-le n xs (drop (length xs) old) (omega (arith, size)) ∙ take_all n xs (omega (arith, size))

-- the part where it was moved to
pub part_kept : (old a mid b new : List ℕ) (s e t : ℕ) → a ≡ old → slice_range mid t (t + (e - s)) ≡ slice_range a s e → b ≡ mid → take (t + (e - s)) new ≡ take (t + (e - s)) b → slice_range new t (t + (e - s)) ≡ slice_range old s e
part_kept old a mid b new s e t first moved second before =
    part_at new t (e - s) ∙ ap (drop t) (before ∙ ap (take (t + (e - s))) second) ∙ sym (part_at mid t (e - s)) ∙ moved ∙ ap (λ xs. slice_range xs s e) first

-- and what was read after it
pub part_more : (new : List ℕ) (t k n : ℕ) → slice_range new t (t + k + n) ≡ slice_range new t (t + k) ++ take n (drop (t + k) new)
part_more new t k n =
    let long : t + k + n - t ≡ k + n = omega arith in
    let short : t + k - t ≡ k = omega arith in
    ap (λ j. take j (drop t new)) long ∙ take-add k n (drop t new)
    ∙ ap (λ xs. take k (drop t new) ++ take n xs) (drop-drop k t new) ∙ ap (λ j. take j (drop t new) ++ take n (drop (t + k) new)) (sym short)

-- the part after its first bytes
pub part_from : (buf : List ℕ) (s e k : ℕ) → k ≤ e - s → slice_range buf (s + k) e ≡ drop k (slice_range buf s e)
part_from buf s e k fits =
    let m = e - s - k in
    let whole : k + m ≡ e - s = omega (arith, fits) in
    let rest : e - (s + k) ≡ m = omega arith in
    ap (λ j. take j (drop (s + k) buf)) rest ∙ ap (take m) (sym (drop-drop k s buf)) ∙ sym (drop-take k m (drop s buf)) ∙ ap (λ j. drop k (take j (drop s buf))) whole

pub part_past : (buf : List ℕ) (s e k : ℕ) → e ≤ length buf → e - s < k → slice_range buf e e ≡ drop k (slice_range buf s e)
part_past buf s e k within past =
    let none : e - e ≡ 0 = omega arith in
    ap (λ j. take j (drop e buf)) none ∙ sym (drop_all k (slice_range buf s e) (omega (arith, part_len buf s e within, past)))

pub same_shown : (a b : List ℕ) (begin : ℕ) (p q : Bool) → a ≡ b → p ≡ q → ◌≡◌ {A = Shown} (record { bytes = a; begin = begin; is_last = p }) (record { bytes = b; begin = begin; is_last = q })
same_shown a b begin p q same last =
    let first : ◌≡◌ {A = Shown} (record { bytes = a; begin = begin; is_last = p }) (record { bytes = b; begin = begin; is_last = p }) = ap (λ (xs : List ℕ). record { bytes = xs; begin = begin; is_last = p }) same in
    first ∙ ap (λ (o : Bool). record { bytes = b; begin = begin; is_last = o }) last

-- at the limit, the source ends
pub at_limit : (bytes : List ℕ) (w : Shown) → Shows bytes w → max_archive ≤ reached w → Shows bytes (record { bytes = w.bytes; begin = w.begin; is_last = true })
at_limit bytes w shows far = record {
  same = shows.same;
  within = shows.within;
  last = λ is. omega (arith, shows.within, far, near_len bytes);
}

-- nothing was read: the source ends there
pub at_end : (bytes part buf : List ℕ) (w : Shown) → Shows bytes w → part ≡ w.bytes → Gives (near bytes) (reached w) buf 0 → 0 < length buf
    → Shows bytes (record { bytes = part; begin = w.begin; is_last = true })
at_end bytes part buf w shows is gives room =
    let size : length part ≡ length w.bytes = ap length is in
    record {
      same = is ∙ shows.same ∙ ap (λ n. take n (drop w.begin (near bytes))) (sym size);
      within = omega (arith, shows.within, size);
      last = λ yes_last. grind (arith, shows.within, size, gives.some, room);
    }

-- what was read is shown too
pub goes_further : (bytes part buf : List ℕ) (n : ℕ) (w : Shown) → Shows bytes w → w.is_last ≡ false → part ≡ w.bytes ++ take n buf → n ≤ length buf → Gives (near bytes) (reached w) buf n
    → Shows bytes (record { bytes = part; begin = w.begin; is_last = w.is_last })
goes_further bytes part buf n w shows unended is few gives =
    let len = length w.bytes in
    let size : length part ≡ len + n = ap length is ∙ length-append w.bytes (take n buf) ∙ ap (λ k. len + k) (length-take-le n buf few) in
    let here : take n buf ≡ take n (drop len (drop w.begin (near bytes))) = gives.same ∙ ap (take n) (sym (drop-drop len w.begin (near bytes))) in
    record {
      same =
          is ∙ ap (λ xs. w.bytes ++ xs) here ∙ ap (λ xs. xs ++ take n (drop len (drop w.begin (near bytes)))) shows.same
          ∙ sym (take-add len n (drop w.begin (near bytes))) ∙ ap (λ k. take k (drop w.begin (near bytes))) (sym size);
      within = omega (arith, shows.within, size, gives.within);
      last = λ is_last. absurd (let no : false ≡ true = sym unended ∙ is_last in cc);
    }

-- bytes that are equal to shown ones are shown
pub still_shows : (bytes part : List ℕ) (w : Shown) → Shows bytes w → part ≡ w.bytes → Shows bytes (record { bytes = part; begin = w.begin; is_last = w.is_last })
still_shows bytes part w shows is = subst (Shows bytes) (same_shown w.bytes part w.begin w.is_last w.is_last (sym is) refl) shows

-- what is shown from an offset on
pub from_shows : (bytes : List ℕ) (at : ℕ) (w : Shown) → w.begin ≤ at → at ≤ length (near bytes) → Shows bytes w → Shows bytes (from_on at w)
from_shows bytes at w before there shows =
    let k = at - w.begin in
    let len = length w.bytes in
    let rest : length (drop k w.bytes) ≡ len - k = length-drop k w.bytes in
    let reach : w.begin + k ≡ at = omega (arith, before) in
    let all = drop w.begin (near bytes) in
    let short : k + (len - k) ≤ len → drop k w.bytes ≡ take (len - k) (drop k all) = λ fits.
    ap (drop k) shows.same ∙ ap (λ j. drop k (take j all)) (let e : len ≡ k + (len - k) = omega (arith, fits) in e) ∙ drop-take k (len - k) all in
    record {
      same = ⊎_elim
          (λ past. drop_all k w.bytes (omega (arith, past)) ∙ ap (λ j. take j (drop at (near bytes))) (let e : 0 ≡ length (drop k w.bytes) = omega (arith, rest, past) in e))
          (λ fits. short (omega (arith, fits)) ∙ ap (take (len - k)) (drop-drop k w.begin (near bytes) ∙ ap (λ j. drop j (near bytes)) reach) ∙ ap (λ j. take j (drop at (near bytes))) (sym rest))
          (cases_lt len k);
      within = omega (arith, rest, reach, there, shows.within);
      last = λ is.
          let both = and_parts (nat_le at (reached w)) w.is_last is in
          let le : at ≤ reached w = leb-true at (reached w) both.0 in
          omega (arith, shows.last both.1, rest, reach, le);
    }

-- a source was read by way of a window
pub read_by : {X : Type 0} (answer : Result X Fault) (is_failed : Bool) (most more : ℕ) (w now : Shown) (old new : SeenSource) → ReadsNear most is_failed old new
    → (if is_failed then raised old.faults else old.faults) ≡ failures_after answer old.faults → most + reached w ≤ reached now + more → w.begin ≤ now.begin → ReadsBy more answer w now old new
read_by answer is_failed most more w now old new reads cause bound forward = record {
  kept = reads.kept;
  watched = reads.watched;
  cause = reads.cause ∙ cause;
  near = reads.near;
  bound = omega (arith, reads.bound, bound);
  forward = forward;
}

-- no read
pub read_none : {X : Type 0} (x : X) (w now : Shown) (s : SeenSource) → reached w ≤ reached now → w.begin ≤ now.begin → ReadsBy 0 (Ok x) w now s s
read_none x w now s far forward = record { kept = refl; watched = refl; cause = refl; near = λ off. refl; bound = omega (arith, far); forward = forward }

-- one after the other
pub read_then : {X Y Z : Type 0} (m n k : ℕ) (x : X) (answer : Result Y Fault) (given : Result Z Fault) (w mid now : Shown) (old between new : SeenSource) → ReadsBy m (Ok x) w mid old between → ReadsBy n answer mid now between new
    → m + n ≤ k → ((faults : ℕ) → failures_after answer faults ≡ failures_after given faults) → ReadsBy k given w now old new
read_then m n k x answer given w mid now old between new first second le same = record {
  kept = second.kept ∙ first.kept;
  watched = second.watched ∙ first.watched;
  cause = second.cause ∙ same between.faults ∙ ap (failures_after given) first.cause;
  near = λ off. second.near (λ q low. ap (λ (v : ℕ → Bool). v q) first.watched ∙ off q low) ∙ first.near off;
  bound = omega (arith, first.bound, second.bound, le);
  forward = omega (arith, first.forward, second.forward);
}

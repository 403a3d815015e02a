-- A buffer that is filled by reads.
use Rattle.std.proofs.Common.{◌≡◌, ℕ, ◌+◌, ◌-◌, ◌^◌, ◌<◌, ◌≤◌, Bool, true, false, List, ◌++◌, length, nat_lt, take, drop, length-append, if◌then◌else◌, refl, sym, ap, ◌∙◌, arith}
use Rattle.std.proofs.Math.Seq.{take-add, take-append-add}
use Rattle.std.proofs.lemmas.List.{drop-drop, length-take-le, take-take}
use Rattle.std.proofs.lemmas.Slice.{take-put_mid}
use borrow.Rule.Slice.PartMut.{put_mid, post_of}
use Rattle.warc_frame.specs.Count.{raised}
use Rattle.warc_frame.specs.Device.{Gives}
use Rattle.warc_frame.specs.Effects.{ReadsOnly, ReadsRange}
use Rattle.warc_frame.specs.Ranges.{IsReadAt}
use Rattle.warc_frame.specs.Seen.{AsksOnly, IsInRange, SeenSource}

front_of : (xs ys : List ℕ) (m n : ℕ) → length xs ≡ m → take (m + n) (xs ++ ys) ≡ xs ++ take n ys
front_of xs ys m n size = ap (λ k. take (k + n) (xs ++ ys)) (sym size) ∙ take-append-add xs ys n

-- one more read
pub filled_more : (bytes buf part : List ℕ) (at filled n : ℕ) → filled ≤ length buf → n ≤ length part
    → take filled buf ≡ take filled (drop at bytes) → Gives bytes (at + filled) part n
    → take (filled + n) (put_mid filled (length buf - filled) buf part) ≡ take (filled + n) (drop at bytes)
filled_more bytes buf part at filled n within few before gives =
    let k = length buf - filled in
    let whole : take (filled + length part) (put_mid filled k buf part) ≡ take filled buf ++ part = take-put_mid filled k buf part (filled + length part) (omega arith) within in
    let le : filled + n ≤ filled + length part = omega arith in
    sym (take-take (filled + n) (filled + length part) (put_mid filled k buf part) le) ∙ ap (take (filled + n)) whole
    ∙ front_of (take filled buf) part filled n (length-take-le filled buf within)
    ∙ ap (λ l. l ++ take n part) before ∙ ap (λ l. take filled (drop at bytes) ++ l) (gives.same ∙ ap (take n) (sym (drop-drop filled at bytes)))
    ∙ sym (take-add filled n (drop at bytes))

pub filled_within : (buf part : List ℕ) (filled n : ℕ) → filled ≤ length buf → n ≤ length part → filled + n ≤ length (put_mid filled (length buf - filled) buf part)
filled_within buf part filled n within few =
    let rest = post_of filled (length buf - filled) buf in
    omega (arith, length-append (take filled buf) (part ++ rest), length-append part rest, length-take-le filled buf within)

pub raised_by_one : (n : ℕ) → raised n ≤ n + 1
raised_by_one n = elim (nat_lt (n + 1) (2 ^ 64)) as (λ b. (if b then n + 1 else n) ≤ n + 1) [ true ↦ omega arith | false ↦ omega arith ]

-- one more read
pub asks_more : (These : ℕ → Type 0) (old mid new : SeenSource) (at len : ℕ) (failed : Bool) → ((q : ℕ) → IsInRange at len q → These q) → mid.watches ≡ old.watches
    → IsReadAt at len failed mid new → AsksOnly These old mid → AsksOnly These old new
asks_more These old mid new at len failed are watched read asks = λ off.
    read.asks (λ q in_. ap (λ (w : ℕ → Bool). w q) watched ∙ off q (are q in_)) ∙ asks off

pub filled_none : (at len : ℕ) (s : SeenSource) → ReadsOnly (IsInRange at len) 0 s s
filled_none at len s = record { kept = refl; watched = refl; near = λ off. refl; bound = omega arith }

-- the bytes after some of a range, up to its end, are of it
in_rest : (at filled asked len q : ℕ) → filled + asked ≤ len → IsInRange (at + filled) asked q → IsInRange at len q
in_rest at filled asked len q le in_ = (omega (arith, in_.0), omega (arith, in_.1, le))

-- one more read inside the range, whatever it gives
pub filled_by : (at len filled asked more : ℕ) (old mid new : SeenSource) (failed : Bool) → ReadsOnly (IsInRange at len) filled old mid → IsReadAt (at + filled) asked failed mid new
    → filled + asked ≤ len → 0 < more → ReadsOnly (IsInRange at len) (filled + more) old new
filled_by at len filled asked more old mid new failed has read fits some = record {
  near = asks_more (IsInRange at len) old mid new (at + filled) asked failed (λ q. in_rest at filled asked len q fits) has.watched read has.near;
  bound = omega (arith, has.bound, read.counted, raised_by_one mid.reads);
  watched = read.watched ∙ has.watched;
  kept = read.kept ∙ has.kept;
}

pub filled_no_more : (at len filled : ℕ) (old new : SeenSource) → ReadsOnly (IsInRange at len) filled old new → filled ≤ len → ReadsRange at len old new
filled_no_more at len filled old new has le = record {
  near = has.near;
  bound = omega (arith, has.bound);
  watched = has.watched;
  kept = has.kept;
}

-- Reads that go one after the other, and a distance that is halved with each.
use Rattle.std.proofs.Common.{◌≡◌, ◌==◌, ℕ, zero, suc, ◌+◌, ◌-◌, ◌*◌, ◌^◌, ◌<◌, ◌≤◌, Bool, true, false, List, ◌++◌, length, length-drop, take, drop, refl, sym, ap, subst, ◌∙◌, arith, add-one, ⊎_elim, if◌then◌else◌}
use Rattle.std.proofs.Math.Nat.{mul-le-mul_left, pow-suc}
use Rattle.std.proofs.lemmas.Bool.{cases_lt, eqb-true}
use Rattle.std.proofs.lemmas.List.{length-take-le, take_all}
use Rattle.std.proofs.lemmas.Slice.{take-put_mid_below}
use borrow.Rule.Slice.PartMut.{put_mid}
use Rattle.warc_field.specs.Lines.{crlf}
use Rattle.warc_frame.specs.Count.{raised}
use Rattle.warc_frame.specs.Device.{Gives}
use Rattle.warc_frame.specs.Reading.{begins}
use Rattle.warc_frame.specs.Seen.{SeenSource}
use Rattle.warc_frame.specs.declared.fault.Fault.{Fault}
use Rattle.warc_pieces.specs.Ends.{IsFrontOpen, IsFrontRead}
use Rattle.warc_pieces.specs.Reads.{ReadsNear}
use Rattle.std.proofs.Common.{Result}
use Rattle.warc_pieces.specs.Window.{ReadsBy, Shown, failures_after}
use Rattle.warc_pieces.proofs.WindowLemmas.{read_by}

pub near_none : (s : SeenSource) → ReadsNear 0 false s s
near_none s = record { kept = refl; watched = refl; cause = refl; near = λ off. refl; bound = omega arith }

pub near_then : (m n k : ℕ) (is_failed : Bool) (old mid new : SeenSource) → ReadsNear m false old mid → ReadsNear n is_failed mid new → m + n ≤ k → ReadsNear k is_failed old new
near_then m n k is_failed old mid new first second le = record {
  kept = second.kept ∙ first.kept;
  watched = second.watched ∙ first.watched;
  cause = second.cause ∙ ap (λ (faults : ℕ). if is_failed then raised faults else faults) first.cause;
  near = λ off. second.near (λ q low. ap (λ (v : ℕ → Bool). v q) first.watched ∙ off q low) ∙ first.near off;
  bound = omega (arith, first.bound, second.bound, le);
}

pub alone : {X : Type 0} (answer : Result X Fault) (is_failed : Bool) (most more : ℕ) (old new : SeenSource) → ReadsNear most is_failed old new → (if is_failed then raised old.faults else old.faults) ≡ failures_after answer old.faults → most ≤ more
    → (w : Shown) → ReadsBy more answer w w old new
alone answer is_failed most more old new reads cause le = λ w. read_by answer is_failed most more w w old new reads cause (omega (arith, le)) (omega arith)

-- half of a distance
pub halved : (d e s m : ℕ) → e + e ≤ d → d * 2 ^ s < m → e * 2 ^ (s + 1) < m
halved d e s m half span =
    let p = 2 ^ s in
    let power : 2 ^ (s + 1) ≡ p * 2 = ap (λ k. 2 ^ k) (add-one s) ∙ pow-suc 2 s in
    let low : p * (e + e) ≤ p * d = mul-le-mul_left p half in
    let same : e * 2 ^ (s + 1) ≡ e * (p * 2) = ap (λ k. e * k) power in
    let twice : e * (p * 2) ≤ p * d = grind (arith, low) in
    let other : p * d ≡ d * p = grind arith in
    omega (arith, same, twice, other, span)

-- the end of what is read
pub read_end : (rest buf : List ℕ) (filled len : ℕ) → take filled buf ≡ take filled rest → length rest ≤ filled → filled ≤ len → take filled buf ≡ take len rest
read_end rest buf filled len is over le = is ∙ take_all filled rest over ∙ sym (take_all len rest (omega (arith, over, le)))

-- the front of what a buffer was filled with
pub front_read : (at len : ℕ) (t buf : List ℕ) (n : ℕ) → n ≤ length buf → take n buf ≡ take n (drop at t) → (begins (take n buf) (crlf ++ crlf) ≡ true → take n buf ≡ take len (drop at t)) → IsFrontRead at len t (take n buf)
front_read at len t buf n few same whole = record { same = same ∙ ap (λ k. take k (drop at t)) (sym (length-take-le n buf few)); whole = whole }

-- nothing more was read
pub front_last : (at len : ℕ) (t buf part : List ℕ) (filled n : ℕ) → filled ≤ length buf → filled < len → len ≡ length buf → length part ≡ length buf - filled → take filled buf ≡ take filled (drop at t) → Gives t (at + filled) part n → n ≡ 0
    → IsFrontRead at len t (take filled (put_mid filled (length buf - filled) buf part))
front_last at len t buf part filled n within short room size same gives none =
    let new = put_mid filled (length buf - filled) buf part in
    let kept : take filled new ≡ take filled buf = take-put_mid_below filled (length buf - filled) buf part filled (omega arith) within in
    let over : length (drop at t) ≤ filled = ⊎_elim (λ (more : at + filled < length t). absurd (omega (arith, gives.some more (omega (arith, size, short, room)), none))) (λ (few : length t ≤ at + filled). omega (arith, few, length-drop at t)) (cases_lt (at + filled) (length t)) in
    let P : List ℕ → Type 0 = λ xs. IsFrontRead at len t xs in
    subst P (sym kept) (front_read at len t buf filled within same (λ yes. read_end (drop at t) buf filled len same over (omega (arith, short))))

-- a read failed after bytes that are as wanted
pub front_open : (at place : ℕ) (t buf part : List ℕ) (filled : ℕ) → place ≡ at + filled → filled ≤ length buf → take filled buf ≡ take filled (drop at t) → begins (take filled buf) (crlf ++ crlf) ≡ true
    → IsFrontOpen at t (take (place - at) (put_mid filled (length buf - filled) buf part))
front_open at place t buf part filled there within same good =
    let new = put_mid filled (length buf - filled) buf part in
    let count : place - at ≡ filled = omega (arith, there) in
    let kept : take (place - at) new ≡ take filled buf = ap (λ n. take n new) count ∙ take-put_mid_below filled (length buf - filled) buf part filled (omega arith) within in
    let P : List ℕ → Type 0 = λ xs. IsFrontOpen at t xs in
    subst P (sym kept) (record { same = same ∙ ap (λ k. take k (drop at t)) (sym (length-take-le filled buf within)); begins_as = good })

pub is_zero : (n : ℕ) → (n == 0) ≡ true → n ≡ 0
is_zero n is = eqb-true n 0 is

pub not_zero : (n : ℕ) → (n == 0) ≡ false → 0 < n
not_zero zero is = absurd (cc is)
not_zero (suc n) is = omega arith

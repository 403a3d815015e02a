-- A buffer that reads fill one after another.
use Rattle.std.proofs.Common.{◌≡◌, ℕ, ◌+◌, ◌-◌, ◌≤◌, List, Option, ◌++◌, length, take, length-append, sym, ap, subst, ◌∙◌, arith}
use Rattle.std.proofs.KnownBytes.{Consumes-trans}
use Rattle.std.proofs.Math.Seq.{take-append-add}
use Rattle.std.proofs.lemmas.List.{length-take-le, take-take}
use Rattle.std.proofs.lemmas.Slice.{take-put_mid}
use Rattle.std.specs.Io.KnownBytes.{Consumes}
use borrow.Rule.Slice.PartMut.{put_mid, post_of}

front_of : (xs ys : List ℕ) (m n : ℕ) → length xs ≡ m → take (m + n) (xs ++ ys) ≡ xs ++ take n ys
front_of xs ys m n size = ap (λ k. take (k + n) (xs ++ ys)) (sym size) ∙ take-append-add xs ys n

-- the front after one more read
filled_front : (buf part : List ℕ) (filled n : ℕ) → filled ≤ length buf → n ≤ length part
    → take (filled + n) (put_mid filled (length buf - filled) buf part) ≡ take filled buf ++ take n part
filled_front buf part filled n within few =
    let k = length buf - filled in
    let whole : take (filled + length part) (put_mid filled k buf part) ≡ take filled buf ++ part =
    take-put_mid filled k buf part (filled + length part) (omega arith) within in
    let le : filled + n ≤ filled + length part = omega arith in
    sym (take-take (filled + n) (filled + length part) (put_mid filled k buf part) le) ∙ ap (take (filled + n)) whole
    ∙ front_of (take filled buf) part filled n (length-take-le filled buf within)

-- it is within the buffer
pub filled_within : (buf part : List ℕ) (filled n : ℕ) → filled ≤ length buf → n ≤ length part
    → filled + n ≤ length (put_mid filled (length buf - filled) buf part)
filled_within buf part filled n within few =
    let rest = post_of filled (length buf - filled) buf in
    omega (arith, length-append (take filled buf) (part ++ rest), length-append part rest, length-take-le filled buf within)

-- it is what the reader gave by then
pub filled_more : (a b c : Option (List ℕ)) (buf part : List ℕ) (filled n : ℕ) → filled ≤ length buf → n ≤ length part
    → Consumes a b (take filled buf) → Consumes b c (take n part)
    → Consumes a c (take (filled + n) (put_mid filled (length buf - filled) buf part))
filled_more a b c buf part filled n within few before read =
    subst (Consumes a c) (sym (filled_front buf part filled n within few)) (Consumes-trans a b c _ _ before read)

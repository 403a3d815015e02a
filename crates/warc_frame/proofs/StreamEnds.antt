-- Where the head ends that comes in pieces.
use Rattle.std.proofs.Common.{◌≡◌, ℕ, zero, suc, min, ◌+◌, ◌-◌, ◌<◌, ◌≤◌, true, false, nat_le, List, [], ◌∷◌, ◌++◌, Option, Some, None, length, length-append, get_or, refl, sym, ap, ◌∙◌, arith, inl, inr, ◌⊎◌, ⊎_elim}
use Rattle.std.specs.Prelude.{option_map}
use Rattle.std.proofs.lemmas.List.{get_or_past, get_or_append_left, get_or-drop}
use Rattle.std.proofs.Math.Seq.{drop-append_seam}
use Rattle.std.proofs.lemmas.Bool.{cases_lt, cases_eq, and_parts, false_from_ne_true, le-leb}
use Rattle.warc_field.specs.Lines.{empty_at}
use Rattle.warc_frame.specs.Reading.{empty_line}
use Rattle.warc_frame.specs.Decoding.{ends_after}
use Rattle.warc_frame.proofs.EmptyLineLemmas.{true_or_false, crlf_bytes, empty_line-first, empty_line-none, empty_line-at, suc_some}

none_map : (o : Option ℕ) → option_map suc o ≡ None → o ≡ None
none_map None h = refl
none_map (Some q) h = absurd cc

-- past the end nothing is
pub empty_at-past : (t : List ℕ) (k : ℕ) → length t < k + 4 → empty_at t k ≡ false
empty_at-past t k h = false_from_ne_true _ (λ is.
    let both = and_parts _ _ is in
    let two = crlf_bytes (get_or t (suc (suc k)) 0) (get_or t (suc (suc (suc k))) 0) both.1 in
    let none = get_or_past t (suc (suc (suc k))) 0 (omega arith) in
    absurd (omega (arith, none, two.1)))

later : (b : ℕ) (bs : List ℕ) (k : ℕ) → empty_at (b ∷ bs) 0 ≡ false → ((j : ℕ) → empty_at bs j ≡ false) → empty_at (b ∷ bs) k ≡ false
later b bs zero here following = here
later b bs (suc k) here following = following k

-- no CRLF CRLF is anywhere in a text without an empty line
pub empty_line-nowhere : (t : List ℕ) → empty_line t ≡ None → (k : ℕ) → empty_at t k ≡ false
unfolding empty_line
empty_line-nowhere [] h k = empty_at-past [] k (omega arith)
empty_line-nowhere (b ∷ bs) h k = ⊎_elim
    (λ is. let e : ◌≡◌ {A = Option ℕ} (Some 0) None = rw is at h in absurd cc)
    (λ is. let e : option_map suc (empty_line bs) ≡ None = rw is at h in later b bs k is (empty_line-nowhere bs (none_map (empty_line bs) e)))
    (true_or_false (empty_at (b ∷ bs) 0))

-- an empty line is at a place of a text exactly if it is there in the text with more after it
pub empty_at-front : (a b : List ℕ) (k : ℕ) → k + 4 ≤ length a → empty_at (a ++ b) k ≡ empty_at a k
empty_at-front a b k h = rw (get_or_append_left a b 0 k (omega arith), get_or_append_left a b 0 (suc k) (omega arith), get_or_append_left a b 0 (suc (suc k)) (omega arith), get_or_append_left a b 0 (suc (suc (suc k))) (omega arith)) refl

-- a byte of a text is in the text with more before it
get_or-following : (a b : List ℕ) (k : ℕ) → get_or (a ++ b) (length a + k) 0 ≡ get_or b k 0
get_or-following a b k = sym (get_or-drop (length a) (a ++ b) k 0) ∙ ap (λ x. get_or x k 0) (drop-append_seam a b)

pub empty_at-following : (a b : List ℕ) (k : ℕ) → empty_at (a ++ b) (length a + k) ≡ empty_at b k
empty_at-following a b k =
    let one : suc (length a + k) ≡ length a + suc k = omega arith in
    let two : suc (suc (length a + k)) ≡ length a + suc (suc k) = omega arith in
    let three : suc (suc (suc (length a + k))) ≡ length a + suc (suc (suc k)) = omega arith in
    rw (three, two, one, get_or-following a b k, get_or-following a b (suc k), get_or-following a b (suc (suc k)), get_or-following a b (suc (suc (suc k)))) refl

-- no CRLF CRLF ends before place e
abbrev pub NoneBefore : List ℕ → ℕ → Type 0
NoneBefore t e = (k : ℕ) → k + 3 < e → empty_at t k ≡ false

pub none_in_front : (kept piece : List ℕ) → empty_line kept ≡ None → NoneBefore (kept ++ piece) (length kept)
none_in_front kept piece h k l = empty_at-front kept piece k (omega arith) ∙ empty_line-nowhere kept h k

-- the test for a place is that for the place three bytes before
pub after_is : (t : List ℕ) (k : ℕ) → ends_after t (k + 3) ≡ empty_at t k
after_is t k =
    let three : k + 3 - 3 ≡ k = omega arith in
    let one : k + 3 - 1 ≡ suc (suc k) = omega arith in
    let long : nat_le 3 (k + 3) ≡ true = le-leb 3 (k + 3) (omega arith) in
    rw (three, one, long) refl

pub none_more : (t : List ℕ) (e : ℕ) → NoneBefore t e → ends_after t e ≡ false → NoneBefore t (e + 1)
none_more t e none h k l = elim (cases_eq (k + 3) e) [
  | inl same ↦ sym (after_is t k) ∙ ap (ends_after t) same ∙ h
  | inr other ↦ none k (omega arith)
]

pub found_after : (t : List ℕ) (e : ℕ) → NoneBefore t e → ends_after t e ≡ true → (3 ≤ e) × (empty_line t ≡ Some (e + 1 - 4))
found_after t e none h =
    let three : 3 ≤ e = grind arith in
    let k : ℕ = e - 3 in
    let place : k + 3 ≡ e = omega arith in
    let here : empty_at t k ≡ true = sym (after_is t k) ∙ ap (ends_after t) place ∙ h in
    (three, empty_line-first t k here (λ j l. none j (omega arith)) ∙ ap Some (let e : k ≡ e + 1 - 4 = omega arith in e))

below : (b : ℕ) (bs : List ℕ) (k q : ℕ) → empty_at (b ∷ bs) 0 ≡ false → k < suc q → ((j : ℕ) → j < q → empty_at bs j ≡ false) → empty_at (b ∷ bs) k ≡ false
below b bs zero q here lt following = here
below b bs (suc k) q here lt following = following k (omega arith)

-- none is before the first
pub empty_line-before : (t : List ℕ) (p : ℕ) → empty_line t ≡ Some p → (k : ℕ) → k < p → empty_at t k ≡ false
unfolding empty_line
empty_line-before [] p h k l = absurd cc
empty_line-before (b ∷ bs) p h k l = ⊎_elim
    (λ is. let e : ◌≡◌ {A = Option ℕ} (Some 0) (Some p) = rw is at h in let z : 0 ≡ p = cc in absurd (omega arith))
    (λ is. let e : option_map suc (empty_line bs) ≡ Some p = rw is at h in let q = suc_some (empty_line bs) p e in
    below b bs k q.0 is (omega (arith, q.2)) (empty_line-before bs q.0 q.1))
    (true_or_false (empty_at (b ∷ bs) 0))

-- the place after the kept bytes
after_kept : (kept piece : List ℕ) (k : ℕ) → length kept ≤ k → empty_at (kept ++ piece) k ≡ empty_at piece (k - length kept)
after_kept kept piece k h = ap (empty_at (kept ++ piece)) (let e : k ≡ length kept + (k - length kept) = omega arith in e) ∙ empty_at-following kept piece (k - length kept)

before_piece : (kept piece : List ℕ) (i p k : ℕ) → NoneBefore (kept ++ piece) (length kept + i) → min (length piece) 3 ≤ i → empty_line piece ≡ Some p → p + 4 ≤ length piece → k < length kept + p → (k + 3 < length kept + i) ⊎ (length kept + i ≤ k + 3) → empty_at (kept ++ piece) k ≡ false
before_piece kept piece i p k none l found room lt (inl early) = none k early
before_piece kept piece i p k none l found room lt (inr late) = after_kept kept piece k (omega arith) ∙ empty_line-before piece p found (k - length kept) (omega arith)

-- none is before the piece or across its border: the first in the piece is the first of all
pub first_in_piece : (kept piece : List ℕ) (i p : ℕ) → NoneBefore (kept ++ piece) (length kept + i) → min (length piece) 3 ≤ i → empty_line piece ≡ Some p → p + 4 ≤ length piece → empty_line (kept ++ piece) ≡ Some (length kept + (p + 4) - 4)
first_in_piece kept piece i p none l found room =
    let here : empty_at (kept ++ piece) (length kept + p) ≡ true = empty_at-following kept piece p ∙ empty_line-at piece p found in
    empty_line-first (kept ++ piece) (length kept + p) here (λ k lt. before_piece kept piece i p k none l found room lt (cases_lt (k + 3) (length kept + i)))
    ∙ ap Some (let e : length kept + p ≡ length kept + (p + 4) - 4 = omega arith in e)

nowhere_there : (kept piece : List ℕ) (i k : ℕ) → NoneBefore (kept ++ piece) (length kept + i) → min (length piece) 3 ≤ i → empty_line piece ≡ None → (k + 3 < length kept + i) ⊎ (length kept + i ≤ k + 3) → (length piece < 3) ⊎ (3 ≤ length piece) → empty_at (kept ++ piece) k ≡ false
nowhere_there kept piece i k none l found (inl early) size = none k early
nowhere_there kept piece i k none l found (inr late) (inl short) = empty_at-past (kept ++ piece) k (omega (arith, length-append kept piece))
nowhere_there kept piece i k none l found (inr late) (inr long) = after_kept kept piece k (omega arith) ∙ empty_line-nowhere piece found (k - length kept)

pub none_in_piece : (kept piece : List ℕ) (i : ℕ) → NoneBefore (kept ++ piece) (length kept + i) → min (length piece) 3 ≤ i → empty_line piece ≡ None → empty_line (kept ++ piece) ≡ None
none_in_piece kept piece i none l found = empty_line-none (kept ++ piece) (λ k. nowhere_there kept piece i k none l found (cases_lt (k + 3) (length kept + i)) (cases_lt (length piece) 3))

-- a CRLF CRLF that is wholly in the front of a text is the first there too
pub empty_line-less : (a b : List ℕ) (p : ℕ) → empty_line (a ++ b) ≡ Some p → p + 4 ≤ length a → empty_line a ≡ Some p
empty_line-less a b p h l = empty_line-first a p (sym (empty_at-front a b p l) ∙ empty_line-at (a ++ b) p h) (λ k lt. sym (empty_at-front a b k (omega arith)) ∙ empty_line-before (a ++ b) p h k lt)

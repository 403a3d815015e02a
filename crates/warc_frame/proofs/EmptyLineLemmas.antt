-- Where the first CRLF CRLF of a text is.
use Rattle.std.proofs.Common.{◌≡◌, ℕ, zero, suc, ◌+◌, ◌<◌, ◌≤◌, Bool, true, false, not, cond, ◌&&◌, ◌==◌, List, [], ◌∷◌, ◌++◌, Option, Some, None, length, drop, get_or, refl, sym, ap, subst, ◌∙◌, arith, inl, inr, ◌⊎◌, ⊎_elim}
use Rattle.std.specs.Prelude.{option_map}
use Rattle.std.specs.List.{list_all}
use Rattle.std.proofs.lemmas.List.{get_or_past, get_or-drop}
use Rattle.std.proofs.lemmas.Bool.{cases_lt, and_parts, eqb-true}
use Rattle.warc_field.specs.Lines.{crlf_at, empty_at, is_crlf}
use Rattle.warc_frame.specs.Reading.{empty_line}

pub true_or_false : (v : Bool) → (v ≡ true) ⊎ (v ≡ false)
true_or_false true = inl refl
true_or_false false = inr refl

pub and_false_left : (v w : Bool) → v ≡ false → (v && w) ≡ false
and_false_left true w h = cc
and_false_left false w h = refl

and_with_false : (v : Bool) → (v && false) ≡ false
and_with_false true = refl
and_with_false false = refl

and_false_right : (v w : Bool) → w ≡ false → (v && w) ≡ false
and_false_right v w h = ap (λ x. v && x) h ∙ and_with_false v

pub crlf_bytes : (a b : ℕ) → is_crlf a b ≡ true → (a ≡ 13) × (b ≡ 10)
crlf_bytes a b h = let both = and_parts (a == 13) (b == 10) h in (eqb-true a 13 both.0, eqb-true b 10 both.1)

pub empty_line-first : (t : List ℕ) (n : ℕ) → empty_at t n ≡ true → ((k : ℕ) → k < n → empty_at t k ≡ false) → empty_line t ≡ Some n
unfolding empty_line
empty_line-first [] n here before = cc
empty_line-first (b ∷ bs) zero here before = rw here
empty_line-first (b ∷ bs) (suc n) here before =
    rw (before 0 (omega arith), empty_line-first bs n here (λ k h. before (suc k) (omega arith)))

pub empty_line-none : (t : List ℕ) → ((k : ℕ) → empty_at t k ≡ false) → empty_line t ≡ None
unfolding empty_line
empty_line-none [] none = refl
empty_line-none (b ∷ bs) none = rw (none 0, empty_line-none bs (λ k. none (suc k)))

-- a CRLF after the first i bytes
crlf_at-drop : (t : List ℕ) (i : ℕ) → crlf_at (drop i t) 0 ≡ crlf_at t i
crlf_at-drop t i =
    let zeroth : i + 0 ≡ i = omega arith in
    let first : i + 1 ≡ suc i = omega arith in
    rw (get_or-drop i t 0 0, get_or-drop i t 1 0, zeroth, first)

no_cr : (b c : ℕ) → b ≡ 10 → is_crlf b c ≡ false
no_cr b c is = rw is

-- one turn of a search that found no empty line before `from`, and no CRLF from there up to `at`
module _ (t : List ℕ) (from : ℕ) (before : (k : ℕ) → k < from → empty_at t k ≡ false) where
  pub none-up_to : (at : ℕ) → ((k : ℕ) → from ≤ k → k < at → crlf_at t k ≡ false) → (k : ℕ) → k < at → empty_at t k ≡ false
  none-up_to at none k below = ⊎_elim (before k) (λ above. and_false_left _ _ (none k above below)) (cases_lt k from)

  -- a CRLF that no other follows
  module _ (at : ℕ) (none : (k : ℕ) → from ≤ k → k < at → crlf_at t k ≡ false) (here : crlf_at t at ≡ true) (other : crlf_at (drop (at + 2) t) 0 ≡ false) where
    single : empty_at t at ≡ false
    single =
        let two : at + 2 ≡ suc (suc at) = omega arith in
        let there : crlf_at t (suc (suc at)) ≡ false = ap (crlf_at t) (sym two) ∙ sym (crlf_at-drop t (at + 2)) ∙ other in
        and_false_right _ _ there

    inside : empty_at t (suc at) ≡ false
    inside = and_false_left _ _ (no_cr _ _ (crlf_bytes (get_or t at 0) (get_or t (suc at) 0) here).1)

    pub none-past : (k : ℕ) → k < at + 2 → empty_at t k ≡ false
    none-past k below = ⊎_elim (none-up_to at none k)
        (λ past. ⊎_elim
        (λ same. let e : k ≡ at = omega (arith, past, same) in ap (empty_at t) e ∙ single)
        (λ next. let e : k ≡ suc at = omega (arith, next, below) in ap (empty_at t) e ∙ inside)
        (cases_lt k (at + 1)))
        (cases_lt k at)

  pub nowhere : ((k : ℕ) → from ≤ k → crlf_at t k ≡ false) → (k : ℕ) → empty_at t k ≡ false
  nowhere none k = ⊎_elim (before k) (λ above. and_false_left _ _ (none k above)) (cases_lt k from)

-- two CRLFs in a row
pub empty-here : (t : List ℕ) (at : ℕ) → crlf_at t at ≡ true → crlf_at (drop (at + 2) t) 0 ≡ true → empty_at t at ≡ true
empty-here t at here next =
    let two : at + 2 ≡ suc (suc at) = omega arith in
    let there : crlf_at t (suc (suc at)) ≡ true = ap (crlf_at t) (sym two) ∙ sym (crlf_at-drop t (at + 2)) ∙ next in
    rw (here, there)

pub suc_some : (o : Option ℕ) (p : ℕ) → option_map suc o ≡ Some p → (q : ℕ) × (o ≡ Some q) × (suc q ≡ p)
suc_some None p h = absurd cc
suc_some (Some q) p h = (q, refl, cc)

pub empty_line-at : (t : List ℕ) (p : ℕ) → empty_line t ≡ Some p → empty_at t p ≡ true
unfolding empty_line
empty_line-at [] p h = cc
empty_line-at (b ∷ bs) p h = ⊎_elim
    (λ is. let e : ◌≡◌ {A = Option ℕ} (Some 0) (Some p) = rw is at h in let z : 0 ≡ p = cc in subst (λ k. empty_at (b ∷ bs) k ≡ true) z is)
    (λ is. let e : option_map suc (empty_line bs) ≡ Some p = rw is at h in let q = suc_some (empty_line bs) p e in
    subst (λ k. empty_at (b ∷ bs) k ≡ true) q.2 (empty_line-at bs q.0 q.1))
    (true_or_false (crlf_at (b ∷ bs) 0 && crlf_at (b ∷ bs) 2))

-- the four bytes of a CRLF CRLF
pub empty-bytes : (t : List ℕ) (p : ℕ) → empty_line t ≡ Some p → (get_or t p 0 ≡ 13) × (get_or t (p + 2) 0 ≡ 13) × (get_or t (p + 3) 0 ≡ 10)
empty-bytes t p h =
    let both = and_parts _ _ (empty_line-at t p h) in
    let one = crlf_bytes (get_or t p 0) (get_or t (suc p) 0) both.0 in
    let two = crlf_bytes (get_or t (suc (suc p)) 0) (get_or t (suc (suc (suc p))) 0) both.1 in (
      one.0,
      ap (λ n. get_or t n 0) (let e : p + 2 ≡ suc (suc p) = omega arith in e) ∙ two.0,
      ap (λ n. get_or t n 0) (let e : p + 3 ≡ suc (suc (suc p)) = omega arith in e) ∙ two.1,
    )

pub empty-len : (t : List ℕ) (p : ℕ) → empty_line t ≡ Some p → p + 4 ≤ length t
empty-len t p h =
    let bytes = empty-bytes t p h in
    ⊎_elim (λ l. omega arith) (λ past. let none = get_or_past t (p + 3) 0 past in absurd (omega (arith, none, bytes.2))) (cases_lt (p + 3) (length t))

get_or-front : (t x : List ℕ) (k : ℕ) → k < length t → get_or (t ++ x) k 0 ≡ get_or t k 0
get_or-front [] x k h = absurd (omega arith)
get_or-front (b ∷ bs) x zero h = refl
get_or-front (b ∷ bs) x (suc k) h = get_or-front bs x k (omega arith)

empty-front : (t x : List ℕ) → 4 ≤ length t → empty_at (t ++ x) 0 ≡ empty_at t 0
empty-front t x h = rw (get_or-front t x 0 (omega arith), get_or-front t x 1 (omega arith), get_or-front t x 2 (omega arith), get_or-front t x 3 (omega arith)) refl

-- it stays when bytes are appended
pub empty_line-more : (t x : List ℕ) (p : ℕ) → empty_line t ≡ Some p → empty_line (t ++ x) ≡ Some p
unfolding empty_line
empty_line-more [] x p h = absurd cc
empty_line-more (b ∷ bs) x p h =
    let long = empty-len (b ∷ bs) p h in
    let same = empty-front (b ∷ bs) x (omega arith) in
    ⊎_elim
    (λ is. ap (λ v. cond v (Some 0) (option_map suc (empty_line (bs ++ x)))) (same ∙ is) ∙ (let e : ◌≡◌ {A = Option ℕ} (Some 0) (Some p) = rw is at h in e))
    (λ no. ap (λ v. cond v (Some 0) (option_map suc (empty_line (bs ++ x)))) (same ∙ no) ∙ (let q = suc_some (empty_line bs) p (let e : option_map suc (empty_line bs) ≡ Some p = rw no at h in e) in ap (option_map suc) (empty_line-more bs x q.0 q.1) ∙ ap Some q.2))
    (true_or_false (empty_at (b ∷ bs) 0))

-- a place that can't begin an empty line
pub empty_line-skip : (b : ℕ) (t : List ℕ) (n : ℕ) → (crlf_at (b ∷ t) 0 && crlf_at (b ∷ t) 2) ≡ false → empty_line t ≡ Some n → empty_line (b ∷ t) ≡ Some (suc n)
unfolding empty_line
empty_line-skip b t n h e = rw (h, e)

not_truth : (b : Bool) → not b ≡ true → b ≡ false
not_truth true h = cc
not_truth false h = refl

-- a text of which no byte is a CR, before one
pub empty_line-following : (xs t : List ℕ) (n : ℕ) → list_all (λ b. not (b == 13)) xs ≡ true → empty_line t ≡ Some n → empty_line (xs ++ t) ≡ Some (length xs + n)
empty_line-following [] t n all e = e ∙ ap Some (let z : n ≡ 0 + n = omega arith in z)
empty_line-following (b ∷ bs) t n all e =
    let both = and_parts (not (b == 13)) (list_all (λ c. not (c == 13)) bs) all in
    let other : (b == 13) ≡ false = not_truth _ both.0 in
    empty_line-skip b (bs ++ t) (length bs + n) (and_false_left _ _ (and_false_left _ _ other)) (empty_line-following bs t n both.1 e) ∙ ap Some (let z : suc (length bs + n) ≡ suc (length bs) + n = omega arith in z)

-- Room for units is cut, and is room for a value that fits in it. Assumes `Logic`.
use Rattle.std.proofs.Common.{◌≡◌, ℕ, zero, suc, ◌+◌, ◌-◌, ◌*◌, ◌%◌, ◌^◌, ◌<◌, ◌≤◌, max, ap, ◌∙◌, [], ◌∷◌, refl, sym, subst, arith}
use seplogic.Ra.Ura.{Ura}
use mir.Syntax.{Ty, Tys, Width, w8, w16, w32, w64, w128, tnil, tcons, ty_int, ty_array, ty_struct}
use mir.Val.{bytes}
use native.Mathlib.Nat.{mod_self, sub-zero}
use base.Logic.{ent, sep, wand}
use prog.Align.{Dv, dv→, dv_zero, dv_one, dv_mul, align_pos, align_w, align-bytes}
use prog.Capped.{capped_is, capped_small}
use prog.Memory.{size, align, capped, pad, up, end_of}
use prog.Model.{rooms_at}
use types.Kit.{raw, ◌⊛◌, ◌$◌, ◌∵◌, !, qed, keep, split, use1, rewrite, done}
use types.Logic.{Logic}
use denote.RawPtr.Room.{room_cut, past}
use Rattle.warc_heap.specs.Units.{units_of}

abbrev unit : Ty
unit = ty_int w128

past_units : (k o : ℕ) → past unit k o ≡ o + k * 16
past_units zero o = omega arith
past_units (suc k) o = past_units k (o + 16) ∙ omega arith

pub cuts : {M : Type 1} {𝓤 : Ura M} (𝓛 : Logic 𝓤) (b o n m : ℕ) → n ≤ m
    → ent 𝓤 (𝓛.H.room (units_of m) b o) (sep 𝓤 (𝓛.H.room (units_of n) b o) (𝓛.H.room (units_of (m - n)) b (o + n * 16)))
cuts {𝓤 = 𝓤} 𝓛 b o n m enough =
    let all : n + (m - n) ≡ m = omega arith in
    subst (λ (k : ℕ). ent 𝓤 (𝓛.H.room (units_of k) b o) (sep 𝓤 (𝓛.H.room (units_of n) b o) (𝓛.H.room (units_of (m - n)) b (o + n * 16)))) all
    (subst (λ (j : ℕ). ent 𝓤 (𝓛.H.room (units_of (n + (m - n))) b o) (sep 𝓤 (𝓛.H.room (units_of n) b o) (𝓛.H.room (units_of (m - n)) b j))) (past_units n o)
    (room_cut 𝓛 unit n (m - n) b o))

-- a multiple of a is no further up to the next one
multiple : (a n : ℕ) → Dv a n → up a n ≡ n
multiple a n d =
    let none : pad a n ≡ 0 = ap (λ (r : ℕ). (a - r) % a) (dv→ a n d) ∙ ap (λ (r : ℕ). r % a) (sub-zero a) ∙ mod_self a in
    ap (λ (r : ℕ). n + r) none ∙ omega arith

-- a value and the bytes after it, as a struct, take exactly the units
module _ (τ : Ty) (n : ℕ) (fits : size τ ≤ n * 16) (divides : Dv (align τ) 16) where
  abbrev filler : Tys
  filler = tcons (ty_array (ty_int w8) (n * 16 - size τ)) tnil

  abbrev filled : Ty
  filled = ty_struct [] (tcons τ filler)

  aligned : max (align τ) 1 ≡ align τ
  aligned = omega (arith, align_pos τ)

  pub first : up (align τ) 0 ≡ 0
  first = multiple (align τ) 0 (dv_zero (align τ))

  last : end_of zero (tcons τ filler) ≡ n * 16
  last = ap (λ (k : ℕ). k + (n * 16 - size τ) * 1) (multiple 1 (up (align τ) 0 + size τ) (dv_one (up (align τ) 0 + size τ)) ∙ ap (λ (k : ℕ). k + size τ) first) ∙ omega arith

  same_size : size filled ≡ n * 16
  same_size = (λ i. up (aligned i) (last i)) ∙ multiple (align τ) (n * 16) (dv_mul (align τ) 16 n divides)

  pub holds : {M : Type 1} {𝓤 : Ura M} (𝓛 : Logic 𝓤) (b o : ℕ) → ent 𝓤 (𝓛.H.room (units_of n) b o) (𝓛.H.room τ b o)
  holds {𝓤 = 𝓤} 𝓛 b o =
      let H = 𝓛.H in
      let head = H.room τ b (o + up (align τ) 0) in
      let rest = rooms_at 𝓤 H filler (up (align τ) 0 + size τ) b o in
      let here : o + up (align τ) 0 ≡ o = ap (λ (k : ℕ). o + k) first ∙ omega arith in
      qed 𝓛 (raw (H.room (units_of n) b o) ∷ []) ∵
      use1 𝓛 (raw (H.room filled b o) ⊛ raw (wand 𝓤 (H.room filled b o) (H.room (units_of n) b o))) (𝓛.laws.room_as (units_of n) filled b o same_size (subst (λ (k : ℕ). Dv k 16) (sym aligned) divides)) $
      split ! $ keep ! (0 ∷ []) $
      use1 𝓛 ((raw head ⊛ raw rest) ⊛ raw (wand 𝓤 (sep 𝓤 head rest) (H.room filled b o))) (𝓛.laws.room_fields [] (tcons τ filler) b o) $
      split ! $ keep ! (0 ∷ []) $ split ! $ keep ! (0 ∷ []) $
      rewrite ! 0 (λ (d : ℕ). raw (H.room τ b d)) here refl $ done !

divides_16 : (w : Width) → Dv (bytes w) 16
divides_16 w8 = tt
divides_16 w16 = tt
divides_16 w32 = tt
divides_16 w64 = tt
divides_16 w128 = tt

-- units with n bytes are room for a type of that size
pub serves : {M : Type 1} {𝓤 : Ura M} (𝓛 : Logic 𝓤) (τ : Ty) (b o n k : ℕ) → capped (size τ) ≡ n → n < 2 ^ 63 → n ≤ k * 16
    → ent 𝓤 (𝓛.H.room (units_of k) b o) (𝓛.H.room τ b o)
serves 𝓛 τ b o n k sized small enough =
    let short : size τ < 2 ^ 63 = capped_small (size τ) (omega arith) in
    let same : n ≡ size τ = sym sized ∙ capped_is (size τ) (omega arith) in
    holds τ k (omega arith) (subst (λ (j : ℕ). Dv j 16) (sym (align-bytes τ)) (divides_16 (align_w τ))) 𝓛 b o

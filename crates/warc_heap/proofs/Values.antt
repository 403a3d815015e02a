-- The machine value of `Memory`: what its field owns determines it, and is made of nothing.
use Rattle.std.proofs.Common.{◌≡◌, ℕ, zero, suc, List, [], ◌∷◌, ◌++◌, refl, ◌∙◌}
use seplogic.Ra.Ura.{Ura}
use mir.Val.{Val, vstruct, vcons, vnil, of_list}
use base.Logic.{ent, emp}
use base.Fml.{Fml}
use types.Logic.{Logic, sem}
use denote.RattleType.{RattleType}
use denote.Builtin.{unit}
use denote.RawPtr.{Ptr, RawPtr, ptr_val}
use denote.Shadow.{shadow, makes_shadow}
use denote.Signature.{Slot, plain}
use denote.Struct.Struct.{Struct}

-- the k-th parameter
abbrev pub param_at : {n : ℕ} → ℕ → List (Slot n) → Slot n
param_at k [] = plain (λ _. unit)
param_at zero (s ∷ ss) = s
param_at (suc k) (s ∷ ss) = param_at k ss

abbrev pub pointer : RattleType
pointer = Struct (record { name = []; args = []; types = []; fields = RawPtr ∷ [] })

abbrev pub memory_val : Ptr → Val
memory_val p = vstruct (vcons (ptr_val p) vnil)

abbrev pub memory_own : Ptr → List Val → Fml
memory_own p = pointer.own_val (p, tt)

pub memory_reported : (p : Ptr) (vs : List Val) → shadow (memory_own p vs) → vs ≡ memory_val p ∷ []
memory_reported p vs s = s.1.0 ∙ (λ i. vstruct (of_list (s.1.1.0 i ++ [])) ∷ [])

pub memory_made : {M : Type 1} {𝓤 : Ura M} (𝓛 : Logic 𝓤) (p : Ptr) → ent 𝓤 (emp 𝓤) (sem 𝓛 (memory_own p (memory_val p ∷ [])))
memory_made 𝓛 p = makes_shadow 𝓛 (memory_own p (memory_val p ∷ [])) (λ _. (tt, (tt, tt))) ((ptr_val p ∷ [], tt), (refl, (refl, tt)))

-- The machine value of a handle, and what it owns as items of a walk. Assumes `Logic`.
use Rattle.std.proofs.Common.{◌≡◌, List, [], ◌∷◌, ◌++◌, refl, lit<, ◌∙◌}
use mathlib.Core.Bool.{Bool, true, false}
use seplogic.Ra.Ura.{Ura}
use mir.Syntax.{ty_ptr}
use mir.Val.{Val, vbool, vstruct, vcons, vnil, of_list}
use base.Logic.{ent, emp}
use base.Fml.{Fml}
use types.Logic.{Logic, sem}
use types.Kit.{Item, Goal, Seq, ‵, ◌$◌, drop, fsplit, fpick, feq_l}
use denote.Builtin.{RawPtr, bool}
use denote.RawPtr.{Ptr, block_ptr, null_ptr, ptr_val}
use denote.Ref.{mut_vals}
use denote.Shadow.{shadow, makes_shadow}
use denote.Struct.Struct.{Struct}
use Rattle.std.proofs.cell.Inside.{Good}
use Rattle.warc_page.specs.Handle.{reference_row, owns_lasting}

pub ptr_fits : (p : Ptr) → Good ty_ptr (ptr_val p)
ptr_fits (block_ptr b o) = (tt, tt)
ptr_fits null_ptr = (tt, record { fits = lit< tt })

abbrev pub handle_val : Ptr → Bool → Val
handle_val p b = vstruct (vcons (ptr_val p) (vcons (vbool b) vnil))

-- its two fields, without what the pointer leads to
abbrev pub handle_fields : Ptr → Bool → List Val → Fml
handle_fields p b = (Struct (record { name = []; args = []; types = []; fields = RawPtr ∷ bool ∷ [] })).own_val (p, (b, tt))

pub handle_reported : (p : Ptr) (b : Bool) (vs : List Val) → shadow (handle_fields p b vs) → vs ≡ handle_val p b ∷ []
handle_reported p b vs s = s.1.0 ∙ (λ i. vstruct (of_list (s.1.1.0 i ++ (s.1.1.1.0 i ++ []))) ∷ [])

pub handle_made : {M : Type 1} {𝓤 : Ura M} (𝓛 : Logic 𝓤) (p : Ptr) (b : Bool)
    → ent 𝓤 (emp 𝓤) (sem 𝓛 (handle_fields p b (handle_val p b ∷ [])))
handle_made 𝓛 p b = makes_shadow 𝓛 (handle_fields p b (handle_val p b ∷ [])) (λ _. (tt, (tt, (tt, tt))))
    ((ptr_val p ∷ [], (vbool b ∷ [], tt)), (refl, (refl, (refl, tt))))

module _ {M : Type 1} {𝓤 : Ura M} {𝓛 : Logic 𝓤} {K : Type 0} {Γ : List (Item 𝓤)} {G : Goal 𝓤 𝓛.H} where
  -- what a handle owns, by whether it is open
  pub by_open : K → (p : Ptr) (b : Bool) → (b ≡ false → Seq K 𝓛 Γ G)
      → ((r : (reference_row).Denot) → p ≡ block_ptr r.ref_ptr.0 r.ref_ptr.1 → b ≡ true
      → Seq K 𝓛 (‵ ((reference_row).own_val r (mut_vals r)) ∷ Γ) G)
      → Seq K 𝓛 (‵ (owns_lasting p b) ∷ Γ) G
  by_open t p false shut opened = drop t $ shut refl
  by_open t p true shut opened = fpick t (λ r. fsplit t $ feq_l t (λ at. opened r at refl))

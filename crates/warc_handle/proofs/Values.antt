-- The machine values of a box that is taken apart and of a handle, and what each owns as items of a walk. Assumes
-- `Logic`.
use Rattle.std.proofs.Common.{◌≡◌, ℕ, List, [], ◌∷◌, ◌++◌, refl, subst, lit<, ◌∙◌}
use mathlib.Core.Bool.{Bool, true, false, ◌&&◌}
use lib.Dec.{T}
use seplogic.Ra.Ura.{Ura}
use mir.Syntax.{impl, tnil, dnil, ty_ptr}
use mir.Raw.{raw as bare}
use mir.Val.{Val, vptr, vbool, vstruct, vcons, vnil, of_list, has_ty, WT}
use base.Logic.{ent, emp, never, fst∗}
use base.Fml.{Fml}
use types.Logic.{Logic, sem}
use types.Kit.{Item, Goal, Seq, Step, step, ‵, ◌$◌, move, drop, fsplit, fjoin, fpick, fpack, feq_i, feq_l}
use denote.RattleType.{RattleType, Valss}
use denote.Builtin.{RawPtr, bool}
use denote.Memory.{lone}
use denote.RawPtr.{Ptr, block_ptr, null_ptr, ptr_val, in_a_block}
use denote.Shadow.{shadow, makes_shadow}
use denote.Steps.{nothing}
use denote.Param.{layout}
use denote.Param.Laws.{Laws}
use denote.Struct.Struct.{Struct, within}
use denote.Struct.Owning.{shape}
use Rattle.std.specs.declared.alloc.Allocator.{Ghosts}
use Rattle.std.proofs.alloc.Calls.{Al, handle_tells}
use Rattle.std.proofs.cell.Inside.{Good}
use Rattle.std.specs.Box.Ownership.{box_owns}
use Rattle.std.proofs.ResultValues.{and_tt}
use Rattle.std.specs.contracts.alloc.Global as heap
use Rattle.std.specs.contracts.impls.GlobalAllocator.TheImpl as of_heap
use Rattle.warc_handle.specs.Handle.{open_row, handle_owns}
use Rattle.warc_handle.specs.contracts.detached.Detached as detached

-- ---- a struct of two fields

abbrev pub pair_val : Val → Val → Val
pair_val v w = vstruct (vcons v (vcons w vnil))

-- ---- a box that is taken apart: its pointer, and the word of its allocator

module _ (R Z : RattleType) (L : Laws Z) (g : Ghosts Z.Denot) where
  abbrev pub Detached : RattleType
  Detached = detached.the_row R Z g

  abbrev allocator : Al
  allocator = record { row = Z; laws = L; g = g; d = impl [] tnil dnil; drops = impl [] tnil dnil }

  pub detached_fits : (b o : ℕ) (h : Val) → Good (layout Z) h
      → T (has_ty (layout Z) h && true) × WT (pair_val (vptr b o) h)
  detached_fits b o h fits = (and_tt (has_ty (layout Z) h) fits.0, (tt, (fits.1, tt)))

  module _ {M : Type 1} {𝓤 : Ura M} {𝓛 : Logic 𝓤} {K : Type 0} {Γ : List (Item 𝓤)} {G : Goal 𝓤 𝓛.H} where
    -- what it owns: a value in a block, the right to free the block, and the allocator
    pub detached_out : K → (d : Detached.Denot) (vs : List Val)
        → ((b o : ℕ) (h : Val) (x : R.Denot) → d.at ≡ block_ptr b o → vs ≡ pair_val (vptr b o) h ∷ [] → Good (layout Z) h
        → Seq K 𝓛 (‵ (box_owns (g.dealloc_token d.alloc) R (block_ptr b o) x) ∷ ‵ (Z.own_val d.alloc (h ∷ [])) ∷ Γ) G)
        → Seq K 𝓛 (‵ (Detached.own_val d vs) ∷ Γ) G
    detached_out t d vs next =
        fsplit t $ fpick t (λ words. fsplit t $ feq_l t (λ whole. fsplit t $ feq_l t (λ first.
        fsplit t $ handle_tells allocator t d.alloc words.1.0 (λ h second fits.
        move t (1 ∷ []) $ drop t $ move t (1 ∷ []) $ fpick t (λ x.
        in_a_block t d.at (λ p. box_owns (g.dealloc_token d.alloc) R p x)
        (fst∗ 𝓤 (never 𝓤) (sem 𝓛 (g.dealloc_token d.alloc (bare (lone R.mir)) null_ptr))) (λ b o at.
        next b o h x at
        (subst (λ (p : Ptr). vs ≡ vstruct (of_list (ptr_val p ∷ h ∷ [])) ∷ []) at
        (subst (λ (ws : List Val). vs ≡ vstruct (of_list (ptr_val d.at ∷ (ws ++ []))) ∷ []) second
        (subst (λ (ps : List Val). vs ≡ vstruct (of_list (ps ++ (words.1.0 ++ []))) ∷ []) first whole))) fits))))))

    pub detached_in : K → (b o : ℕ) (h : Val) (a : Z.Denot) (x : R.Denot)
        → Step K 𝓛 (‵ (Detached.own_val (record { at = block_ptr b o; alloc = a }) (pair_val (vptr b o) h ∷ [])) ∷ Γ) G
        (‵ (box_owns (g.dealloc_token a) R (block_ptr b o) x) ∷ ‵ (Z.own_val a (h ∷ [])) ∷ Γ) G
    detached_in t b o h a x = step (λ rest. let v : Val = pair_val (vptr b o) h in
        fpack t R.Denot (λ y. box_owns (g.dealloc_token a) R (block_ptr b o) y) x $
        nothing t $ move t (2 ∷ 0 ∷ []) $ fjoin t $
        feq_i t (List Val) (vptr b o ∷ []) (vptr b o ∷ []) refl $ fjoin t $
        feq_i t (List Val) (v ∷ []) (v ∷ []) refl $ fjoin t $
        fpack t (Valss (RawPtr ∷ Z ∷ []))
        (within (shape (detached.the_type R Z g)) (block_ptr b o, (a, tt)) (v ∷ [])) (vptr b o ∷ [], (h ∷ [], tt)) $
        fjoin t $ rest)

-- ---- a handle: a pointer, and whether it leads to an archive

pub ptr_fits : (p : Ptr) → Good ty_ptr (ptr_val p)
ptr_fits (block_ptr b o) = (tt, tt)
ptr_fits null_ptr = (tt, record { fits = lit< tt })

abbrev pub handle_val : Ptr → Bool → Val
handle_val p b = pair_val (ptr_val p) (vbool b)

-- its two fields, without what the pointer leads to
abbrev pub handle_fields : Ptr → Bool → List Val → Fml
handle_fields p b = (Struct (record { name = []; args = []; types = []; fields = RawPtr ∷ bool ∷ [] })).own_val (p, (b, tt))

pub handle_reported : (p : Ptr) (b : Bool) (vs : List Val) → shadow (handle_fields p b vs) → vs ≡ handle_val p b ∷ []
handle_reported p b vs s = s.1.0 ∙ (λ i. vstruct (of_list (s.1.1.0 i ++ (s.1.1.1.0 i ++ []))) ∷ [])

pub handle_made : {M : Type 1} {𝓤 : Ura M} (𝓛 : Logic 𝓤) (p : Ptr) (b : Bool)
    → ent 𝓤 (emp 𝓤) (sem 𝓛 (handle_fields p b (handle_val p b ∷ [])))
handle_made 𝓛 p b = makes_shadow 𝓛 (handle_fields p b (handle_val p b ∷ [])) (λ _. (tt, (tt, (tt, tt))))
    ((ptr_val p ∷ [], (vbool b ∷ [], tt)), (refl, (refl, (refl, tt))))

module _ {M : Type 1} {𝓤 : Ura M} {𝓛 : Logic 𝓤} {K : Type 0} {Γ : List (Item 𝓤)} {G : Goal 𝓤 𝓛.H} where
  -- what a handle owns, by whether it is open
  pub by_open : K → (p : Ptr) (b : Bool) → (b ≡ false → Seq K 𝓛 Γ G)
      → ((block offset : ℕ) (s : open_row.Denot × (heap.the_row).Denot) → p ≡ block_ptr block offset → b ≡ true
      → Seq K 𝓛 (‵ (box_owns (of_heap.ghosts.dealloc_token s.1) open_row (block_ptr block offset) s.0) ∷ Γ) G)
      → Seq K 𝓛 (‵ (handle_owns p b) ∷ Γ) G
  by_open t p false shut opened = drop t $ shut refl
  by_open t p true shut opened =
      fpick t (λ s. in_a_block t p (λ q. box_owns (of_heap.ghosts.dealloc_token s.1) open_row q s.0)
      (fst∗ 𝓤 (never 𝓤) (sem 𝓛 (of_heap.ghosts.dealloc_token s.1 (bare (lone (open_row).mir)) null_ptr)))
      (λ block offset at. opened block offset s at refl))

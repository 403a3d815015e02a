-- The two cases of what `take` gives. Assumes `Logic`.
use Rattle.std.proofs.Common.{◌≡◌, ℕ, ◌*◌, ◌^◌, ◌<◌, ◌≤◌, List, [], ◌∷◌, ◌++◌, IfSome, None, Some, ap, ◌∙◌}
use seplogic.Ra.Ura.{Ura}
use mir.Val.{Val, vcons, vnil, of_list}
use types.Logic.{Logic}
use types.Kit.{Item, Goal, Seq, ‵, ◌$◌, move, drop, fsplit, fpick, feq_l}
use types.Match.{live}
use denote.RattleType.{RattleType}
use denote.Shadow.{pure_l}
use denote.Steps.{only}
use Rattle.core.specs.contracts.option.Option as option
use Rattle.warc_heap.specs.Units.{room_of}
use Rattle.warc_heap.specs.contracts.memory.Memory as memory
use Rattle.warc_heap.proofs.Values.{memory_val, memory_own, memory_reported}

abbrev pub Taken : RattleType
Taken = option.the_row memory.the_row

-- what `take` says of units for n bytes, aligned to a
abbrev pub Said : ℕ → ℕ → Taken.Denot → Type 0
Said n a x = IfSome x (λ m. (n ≤ m.units * 16) × (n < 2 ^ 63) × (a ≤ 16))

module _ {M : Type 1} {𝓤 : Ura M} {𝓛 : Logic 𝓤} {K : Type 0} {Γ : List (Item 𝓤)} {G : Goal 𝓤 𝓛.H} where
  pub taken : K → (n a : ℕ) (x : Taken.Denot) (v : Val) → Said n a x
      → ((m : (memory.the_row).Denot) → n ≤ m.units * 16 → n < 2 ^ 63 → v ≡ live 1 (vcons (memory_val m.at) vnil) → Seq K 𝓛 (‵ (room_of m.units m.at) ∷ Γ) G)
      → (v ≡ live 0 vnil → Seq K 𝓛 Γ G) → Seq K 𝓛 (‵ (Taken.own_val x (v ∷ [])) ∷ Γ) G
  taken t n a None v said some none =
      fpick t (λ us. fsplit t $ feq_l t (λ is. fpick t (λ vss. fsplit t $ feq_l t (λ is'. drop t $ none (ap only is ∙ ap (λ (ws : List Val). live 0 (of_list ws)) is')))))
  taken t n a (Some m) v said some none =
      fpick t (λ us. fsplit t $ feq_l t (λ is. fpick t (λ vss. fsplit t $ feq_l t (λ is'. fsplit t $ move t (1 ∷ []) $ drop t $ fsplit t $ pure_l t (memory_own m.at vss.0) (λ s.
      some m said.0 said.1
      (ap only is ∙ ap (λ (xs : List Val). live 1 (of_list xs)) (is' ∙ ap (λ (xs : List Val). xs ++ []) (memory_reported m.at vss.0 s))))))))

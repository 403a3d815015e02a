-- A canonical line spells its field, and cutting spaces and tabs off hides no control character.
use Rattle.std.proofs.Common.{◌≡◌, ℕ, suc, ◌+◌, ◌-◌, ◌<◌, ◌≤◌, true, ◌&&◌, ◌==◌, List, [], ◌∷◌, ◌++◌, Some, Ok, length, length-append, drop, drop-cons, get_or, refl, sym, ap, ◌∙◌, arith}
use Rattle.std.specs.List.{prefix_len, suffix_len, list_all}
use Rattle.std.proofs.lemmas.Bool.{and_parts, and_from, eqb-true}
use Rattle.std.proofs.lemmas.List.{take_all, drop_all}
use Rattle.warc_field.specs.Text.{is_blank, is_value_byte, trimmed, is_value, AreFields}
use Rattle.warc_field.specs.Lines.{unfolded}
use Rattle.warc_field.specs.Area.{Pair, value_of, MeansValue, SpellsFields, area_of, canonical_line, canonical_fields}
use Rattle.warc_field.proofs.LineLemmas.{unfolded-none}
use Rattle.warc_field.proofs.SpellLemmas.{area-reads}
use Rattle.warc_field.proofs.TextLemmas.{one_part, value_of-means_value}

space_value : is_value_byte 32 ≡ true
unfolding is_value_byte
space_value = refl

trim_space : (v : List ℕ) → prefix_len is_blank v ≡ 0 → suffix_len is_blank v ≡ 0 → trimmed (32 ∷ v) ≡ v
unfolding trimmed is_blank
trim_space v p s = rw (p, s) (take_all (length v - 0) v (omega arith))

pub canonical_value : (v : List ℕ) → is_value v ≡ true → value_of (32 ∷ v) ≡ Some v
unfolding value_of is_value
canonical_value v h =
    let outer = and_parts (list_all is_value_byte v && (prefix_len is_blank v == 0)) (suffix_len is_blank v == 0) h in
    let inner = and_parts (list_all is_value_byte v) (prefix_len is_blank v == 0) outer.0 in
    let all : list_all is_value_byte (32 ∷ v) ≡ true = and_from _ _ space_value inner.0 in
    let flat : unfolded (32 ∷ v) ≡ 32 ∷ v = unfolded-none (32 ∷ v) (one_part (32 ∷ v) all) in
    rw (flat, trim_space v (eqb-true _ 0 inner.1) (eqb-true _ 0 outer.1), inner.0) refl

-- a canonical rest means its value
pub canonical_means : (v : List ℕ) → is_value v ≡ true → MeansValue (32 ∷ v) v
canonical_means v h = value_of-means_value (32 ∷ v) v (canonical_value v h)

pub canonical_spells : (fields : List Pair) → AreFields fields → SpellsFields fields (canonical_fields fields)
canonical_spells [] h = refl
canonical_spells (f ∷ fs) h = (canonical_line f, canonical_fields fs, record { rest = 32 ∷ f.1; name = h.0.0; value = canonical_means f.1 h.0.1; text = refl }, refl, canonical_spells fs h.1)

-- reading the canonical lines gives their fields
pub canonical_reads : (fields : List Pair) → AreFields fields → area_of (canonical_fields fields) ≡ Ok fields
canonical_reads fields are = area-reads (canonical_fields fields) fields (canonical_spells fields are)

-- one turn over the fields: `item`, of this name and value, is at place i
module _ (fields items : List Pair) (same : items ≡ fields) (i : ℕ) (item : Pair) (name value : List ℕ) (within : i < length items) (is : item ≡ get_or items i item) (n : name ≡ item.0) (v : value ≡ item.1) where
  pub canonical_step : canonical_fields (drop i fields) ≡ canonical_line (name, value) ++ canonical_fields (drop (i + 1) fields)
  canonical_step =
      let next : suc i ≡ i + 1 = omega arith in
      ap (λ xs. canonical_fields (drop i xs)) (sym same)
      ∙ ap canonical_fields (drop-cons items i item within)
      ∙ ap (λ (x : Pair). canonical_line x ++ canonical_fields (drop (suc i) items)) (sym is)
      ∙ ap (λ k. canonical_line item ++ canonical_fields (drop k items)) next
      ∙ ap (λ xs. canonical_line item ++ canonical_fields (drop (i + 1) xs)) same
      ∙ ap (λ x. canonical_line (x, item.1) ++ canonical_fields (drop (i + 1) fields)) (sym n)
      ∙ ap (λ x. canonical_line (name, x) ++ canonical_fields (drop (i + 1) fields)) (sym v)

  pub canonical_step_len : length (canonical_fields (drop i fields)) ≡ length (canonical_line (name, value)) + length (canonical_fields (drop (i + 1) fields))
  canonical_step_len = ap length canonical_step ∙ length-append (canonical_line (name, value)) (canonical_fields (drop (i + 1) fields))

-- past the last field there is nothing more to write
pub canonical_past : (fields items : List Pair) → items ≡ fields → (i : ℕ) → length items ≤ i → canonical_fields (drop i fields) ≡ []
canonical_past fields items same i past = ap (λ xs. canonical_fields (drop i xs)) (sym same) ∙ ap canonical_fields (drop_all i items past)

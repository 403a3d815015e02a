-- The names by which a head is read in place, told apart.
use Rattle.std.proofs.Common.{◌≡◌, ℕ, ◌+◌, ◌-◌, ◌<◌, ◌≤◌, min, take, drop, get_or, get_or-take, get_or-drop}
use Rattle.std.proofs.Common.{ext_get_or, arith, inl, inr, true, false, List, length, Option, Some, None, refl, sym, ap, ◌∙◌}
use Rattle.std.proofs.lemmas.Bool.{cases_lt}
use Rattle.std.proofs.lemmas.Slice.Eq.{bytes_eq-Decides}
use Rattle.warc_field.proofs.LineLemmas.{not_true}
use Rattle.warc_field.specs.Text.{is_name, same, lower}
use Rattle.warc_frame.specs.FieldNames.{AreFieldNames, name_text}
use Rattle.warc_frame.specs.declared.field_name.FieldName.{FieldName}
use Rattle.warc_quick.specs.declared.names.Naming.{Naming}
use Rattle.warc_quick.specs.declared.names.Naming.TheVariants.{Known, Other}
use Rattle.warc_quick.specs.Names.{IsNaming}

-- a text that can be no name is none
pub no_name : (text : List ℕ) (found : Option FieldName)
    → ((name : FieldName) → same text (name_text name) ≡ true → found ≡ Some name) → found ≡ None
    → (name : FieldName) → same text (name_text name) ≡ false
no_name text found only none name = not_true _ (λ is. let e = only name is in cc)

-- a text that isn't the name that it could be is none
pub not_this : (text : List ℕ) (found : Option FieldName) (known : FieldName)
    → ((name : FieldName) → same text (name_text name) ≡ true → found ≡ Some name) → found ≡ Some known
    → (lower text ≡ lower (name_text known) → ⊥) → (name : FieldName) → same text (name_text name) ≡ false
not_this text found known only by other name = not_true _ (λ is.
    let both = sym by ∙ only name is in
    let e : name ≡ known = cc in
    other ((bytes_eq-Decides (lower text) (lower (name_text name))).0 is ∙ ap (λ n. lower (name_text n)) e))

-- what a text is named shows that it is a name
pub named_is_name : AreFieldNames → (text : List ℕ) (naming : Naming) → IsNaming text naming → is_name text ≡ true
named_is_name names text (Known name) is = ap is_name is ∙ names.named name
named_is_name names text Other is = is.0

-- each name is the same as itself
pub same_as_itself : (name : FieldName) → same (name_text name) (name_text name) ≡ true
same_as_itself name = (bytes_eq-Decides (lower (name_text name)) (lower (name_text name))).1 refl

same_part : (text name : List ℕ) (at : ℕ) → take 8 (drop at text) ≡ take 8 (drop at name)
    → (k : ℕ) → at ≤ k → k < at + 8 → get_or text k 0 ≡ get_or name k 0
same_part text name at same k from to =
    let back : at + (k - at) ≡ k = omega arith in
    let inside : k - at < 8 = omega arith in
    let there = λ (xs : List ℕ). get_or-take 8 (drop at xs) (k - at) 0 inside ∙ get_or-drop at xs (k - at) 0 ∙ ap (λ i. get_or xs i 0) back in
    sym (there text) ∙ ap (λ xs. get_or xs (k - at) 0) same ∙ there name

-- four times eight bytes cover a text
pub same_parts : (text name : List ℕ) (second third last : ℕ) → length text ≡ length name → length name ≤ 32 → length name ≡ last + 8
    → second ≡ min last 8 → third ≡ min last 16 → take 8 (drop 0 text) ≡ take 8 (drop 0 name)
    → take 8 (drop second text) ≡ take 8 (drop second name) → take 8 (drop third text) ≡ take 8 (drop third name)
    → take 8 (drop last text) ≡ take 8 (drop last name) → text ≡ name
same_parts text name second third last long few ends one two front between beyond back =
    ext_get_or 0 text name long (λ k inside. elim (cases_lt k 8) [
      | inl early ↦ same_part text name 0 front k (omega arith) (omega arith)
      | inr late ↦ elim (cases_lt k last) [
        | inl before ↦ elim (cases_lt k 16) [
          | inl low ↦ same_part text name second between k (omega (arith, one)) (omega (arith, one))
          | inr high ↦ same_part text name third beyond k (omega (arith, two)) (omega (arith, two))
        ]
        | inr after ↦ same_part text name last back k after (omega arith)
      ]
    ])

-- The laws, each under the name of its function or its clause.
use Rattle.std.proofs.Common.{◌≡◌, ◌≢◌, ◌⊎◌, inl, inr, ℕ, Bool, true, false, ◌&&◌, ◌-◌, ◌≤◌, List, ◌∷◌, length, length-take, length-drop, drop, Option, Some, None, IsTrue, if◌then◌else◌, refl, sym, ◌∙◌, ap, true≢false, arith}
use Rattle.std.specs.List.{prefix_len, suffix_len}
use Rattle.std.proofs.lemmas.Bool.{and_parts, eqb-true}
use Rattle.uuid.proofs.TextLemmas.{by_index_length}
use Rattle.warc_field.specs.Text.{is_blank, trimmed}
use Rattle.uuid.specs.Text.{parsed_urn}
use Rattle.warc_record.specs.Ids.{bare_text, is_bare_id, is_id, key_by, key_of, id_key, IsSameId, inner_text, is_bracketed, BareTextsAreBare, BareTextsAreNoLonger, BareTextsAreValues, KeysAreEqualForSameIds, KeysAreNoLonger}
use Rattle.warc_record.proofs.ValueLemmas.{bare_is_value, bare_twice}

never : (x : Bool) → (x && false) ≡ true → ⊥
never true e = true≢false (sym e)
never false e = true≢false (sym e)

-- a bare id doesn't begin as a UUID's key does
no_bracket_first : (bare bytes : List ℕ) → IsTrue (is_bare_id bare) → bare ≢ 60 ∷ bytes
unfolding is_bare_id
no_bracket_first bare bytes id e = never _ (rw e at id)

-- ids of equal keys are the same bytes or the same UUID
same_from : (parse : List ℕ → Option (List ℕ)) (a b : List ℕ) (o p : Option (List ℕ))
    → IsTrue (is_bare_id a) → IsTrue (is_bare_id b) → parse a ≡ o → parse b ≡ p → key_by a o ≡ key_by b p
    → (a ≡ b) ⊎ ((uuid : List ℕ) × (parse a ≡ Some uuid) × (parse b ≡ Some uuid))
same_from parse a b None None x y e f k = inl k
same_from parse a b None (Some v) x y e f k = absurd (no_bracket_first a v x k)
same_from parse a b (Some u) None x y e f k = absurd (no_bracket_first b u y (sym k))
same_from parse a b (Some u) (Some v) x y e f k = let same : v ≡ u = cc in inr (u, e, f ∙ ap Some same)

key_when : (b : Bool) (key : List ℕ) → b ≡ true → (if b then Some key else None) ≡ Some key
key_when b key e = ap (λ c. if c then Some key else None) e

-- the key of an id
pub key_is : (a : List ℕ) → IsTrue (is_id a) → id_key a ≡ Some (key_of (bare_text a))
key_is a id = key_when (is_id a) (key_of (bare_text a)) id

inside : {k l : List ℕ} → Some k ≡ Some l → k ≡ l
inside e = cc

equal_keys : (a b : List ℕ) → IsSameId a b → key_of (bare_text a) ≡ key_of (bare_text b)
equal_keys a b (inl e) = ap key_of e
equal_keys a b (inr w) = ap (key_by (bare_text a)) w.1 ∙ sym (ap (key_by (bare_text b)) w.2)

pub keys_are_equal_for_same_ids : KeysAreEqualForSameIds
keys_are_equal_for_same_ids a b id_a id_b = (
  (λ e. same_from parsed_urn (bare_text a) (bare_text b) _ _ id_a id_b refl refl (inside (sym (key_is a id_a) ∙ (e ∙ key_is b id_b)))),
  (λ same. key_is a id_a ∙ (ap Some (equal_keys a b same) ∙ sym (key_is b id_b))),
)

-- what an option under a test gives
given : {X : Type 0} (b : Bool) (o : Option X) (x : X) → (if b then o else None) ≡ Some x → (b ≡ true) × (o ≡ Some x)
given true o x e = (refl, e)
given false o x e = absurd (cc)

-- reading a UUID takes 45 characters and gives sixteen bytes
uuid_lengths : (text uuid : List ℕ) → parsed_urn text ≡ Some uuid → (length text ≡ 45) × (length uuid ≡ 16)
uuid_lengths text uuid e =
    let urn = given _ _ _ e in
    let hyphenated = given _ _ _ urn.1 in
    let simple = given _ _ _ hyphenated.1 in
    (eqb-true _ _ (and_parts _ _ urn.0).0, ap length (sym (inside simple.1)) ∙ by_index_length 16 _)

trimmed_is_no_longer : (text : List ℕ) → length (trimmed text) ≤ length text
unfolding trimmed
trimmed_is_no_longer text =
    let n = prefix_len is_blank text in
    let t = drop n text in
    omega (arith, length-take (length t - suffix_len is_blank t) t, length-drop n text)

inner_is_no_longer : (text : List ℕ) → length (inner_text text) ≤ length text
inner_is_no_longer text = omega (arith, length-take (length text - 2) (drop 1 text), length-drop 1 text)

one_is_no_longer : (b : Bool) (text : List ℕ) → length (if b then inner_text text else text) ≤ length text
one_is_no_longer true text = inner_is_no_longer text
one_is_no_longer false text = omega arith

pub bare_texts_are_no_longer : BareTextsAreNoLonger
unfolding bare_text
bare_texts_are_no_longer text = omega (arith, trimmed_is_no_longer (if is_bracketed text then inner_text text else text), one_is_no_longer (is_bracketed text) text)

key_is_no_longer : (bare : List ℕ) (o : Option (List ℕ)) → parsed_urn bare ≡ o → length (key_by bare o) ≤ length bare
key_is_no_longer bare None e = omega arith
key_is_no_longer bare (Some uuid) e = let lengths = uuid_lengths bare uuid e in omega (arith, lengths.0, lengths.1)

pub keys_are_no_longer : KeysAreNoLonger
keys_are_no_longer text key e =
    let is : key_of (bare_text text) ≡ key = inside (given _ _ _ e).1 in
    let short : length (key_of (bare_text text)) ≤ length (bare_text text) = key_is_no_longer (bare_text text) _ refl in
    let same : length (key_of (bare_text text)) ≡ length key = ap length is in
    omega (arith, short, same, bare_texts_are_no_longer text)

pub bare_texts_are_values : BareTextsAreValues
bare_texts_are_values = bare_is_value

pub bare_texts_are_bare : BareTextsAreBare
bare_texts_are_bare = bare_twice

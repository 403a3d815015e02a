-- The keys of the ids of records, and the set that holds them.
use Rattle.std.proofs.Common.{◌≡◌, ℕ, ◌<◌, Bool, true, false, ◌||◌, List, [], ◌∷◌, ◌++◌, map, Option, Some, None, refl, sym, ap, ◌∙◌}
use Rattle.std.specs.BTreeMap.{is_at}
use Rattle.std.specs.BTreeSet.{insert_key}
use Rattle.std.specs.Cmp.Lexicographic.{slice_cmp}
use Rattle.std.specs.List.{list_any}
use Rattle.std.specs.Ordering.{is_eq, match_ordering, nat_cmp}
use Rattle.std.specs.declared.cmp.Ordering.{Ordering}
use Rattle.std.specs.declared.cmp.Ordering.TheVariants.{Less, Equal, Greater}
use Rattle.std.specs.Str.{bytes_eq}
use Rattle.std.proofs.lemmas.Slice.Eq.{bytes_eq-Decides}
use Rattle.std.proofs.lemmas.List.Folds.{list_any-append}
use Rattle.std.proofs.lemmas.Map.Text.{is_eq-slice_cmp}
use Rattle.warc_frame.specs.Record.{Record}
use Rattle.warc_record.specs.Texts.{is_same_text}
use Rattle.warc_checking.specs.Checking.{is_used, record_key}
use Rattle.warc_checking.specs.UsedIds.{HoldsIdsOf, Ids, level}

same_none : (a : Option (List ℕ)) → is_same_text a None ≡ false
same_none None = refl
same_none (Some a) = refl

-- no record has an id without a key
pub none_used : (records : List Record) → is_used records None ≡ false
none_used [] = refl
none_used (r ∷ rs) = ap (λ b. b || is_used rs None) (same_none (record_key r)) ∙ none_used rs

pub used_more : (before : List Record) (r : Record) (key : Option (List ℕ)) → is_used (before ++ r ∷ []) key ≡ (is_used before key || (is_same_text (record_key r) key || false))
used_more before r key = list_any-append (λ s. is_same_text (record_key s) key) before (r ∷ [])

or_false : (a b : Bool) → (b || a) ≡ (a || (b || false))
or_false true true = refl
or_false true false = refl
or_false false true = refl
or_false false false = refl

-- texts are the same both ways
same_by : (a b : List ℕ) (x y : Bool) → bytes_eq a b ≡ x → bytes_eq b a ≡ y → x ≡ y
same_by a b true true e f = refl
same_by a b false false e f = refl
same_by a b true false e f = let same : a ≡ b = (bytes_eq-Decides a b).0 e in cc (same, e, f)
same_by a b false true e f = let same : b ≡ a = (bytes_eq-Decides b a).0 f in cc (same, e, f)

flipped : (a b : List ℕ) → bytes_eq a b ≡ bytes_eq b a
flipped a b = same_by a b (bytes_eq a b) (bytes_eq b a) refl refl

or_twice : (a b : Bool) → (a || b) ≡ (a || (a || b))
or_twice true b = refl
or_twice false b = refl

or_swap : (a b c : Bool) → (a || (b || c)) ≡ (b || (a || c))
or_swap true true c = refl
or_swap true false c = refl
or_swap false true c = refl
or_swap false false c = refl

-- keys whose texts are in order
module _ {K : Type 0} (items : K → List ℕ) where
  abbrev by_text : K → K → Ordering
  by_text x y = slice_cmp nat_cmp (items x) (items y)

  pub is_kept : (ks : List K) (q : List ℕ) → list_any (is_at (λ k. slice_cmp nat_cmp q (items k))) ks ≡ list_any (bytes_eq q) (map items ks)
  is_kept [] q = refl
  is_kept (k ∷ ks) q = ap (λ b. b || list_any (is_at (λ x. slice_cmp nat_cmp q (items x))) ks) (is_eq-slice_cmp q (items k)) ∙ ap (λ b. bytes_eq q (items k) || b) (is_kept ks q)

  pub kept_is_used : (ks : List K) (key : List ℕ) (hit : Bool) (before : List Record) (ids : Ids) → hit ≡ list_any (is_at (λ k. slice_cmp nat_cmp key (items k))) ks → map items ks ≡ ids.keys
      → HoldsIdsOf before ids → 1 < level ids.counts key → (hit ≡ list_any (bytes_eq key) ids.keys) × (hit ≡ is_used before (Some key))
  kept_is_used ks key hit before ids found are has shared =
      let here : hit ≡ list_any (bytes_eq key) ids.keys = found ∙ is_kept ks key ∙ ap (list_any (bytes_eq key)) are in
      (here, here ∙ has key shared)

  pub one_more_key : (ks : List K) (k : K) (q : List ℕ) → list_any (bytes_eq q) (map items (insert_key by_text ks k)) ≡ (bytes_eq q (items k) || list_any (bytes_eq q) (map items ks))
  one_more_key [] k q = refl
  one_more_key (x ∷ xs) k q = by (by_text k x) refl (one_more_key xs k q)
    where
      by : (o : Ordering) → by_text k x ≡ o → list_any (bytes_eq q) (map items (insert_key by_text xs k)) ≡ (bytes_eq q (items k) || list_any (bytes_eq q) (map items xs))
          → list_any (bytes_eq q) (map items (match_ordering o (k ∷ x ∷ xs) (x ∷ xs) (x ∷ insert_key by_text xs k)))
          ≡ (bytes_eq q (items k) || (bytes_eq q (items x) || list_any (bytes_eq q) (map items xs)))
      by Less e more = refl
      by Equal e more =
          let same : items k ≡ items x = (bytes_eq-Decides (items k) (items x)).0 (sym (is_eq-slice_cmp (items k) (items x)) ∙ ap is_eq e) in
          or_twice (bytes_eq q (items x)) (list_any (bytes_eq q) (map items xs))
          ∙ ap (λ t. bytes_eq q t || (bytes_eq q (items x) || list_any (bytes_eq q) (map items xs))) (sym same)
      by Greater e more =
          ap (λ b. bytes_eq q (items x) || b) more ∙ or_swap (bytes_eq q (items x)) (bytes_eq q (items k)) (list_any (bytes_eq q) (map items xs))

-- one more key
pub ids_more : (before : List Record) (r : Record) (key : List ℕ) (old new : Ids) → HoldsIdsOf before old → record_key r ≡ Some key
    → ((q : List ℕ) → list_any (bytes_eq q) new.keys ≡ (bytes_eq q key || list_any (bytes_eq q) old.keys))
    → new.counts ≡ old.counts → HoldsIdsOf (before ++ r ∷ []) new
ids_more before r key old new ids is updates counts = λ q shared.
    let was : 1 < level old.counts q = rw (← (ap (λ l. level l q) counts)) shared in
    updates q ∙ ap (λ b. b || list_any (bytes_eq q) old.keys) (flipped q key)
    ∙ ap (λ b. bytes_eq key q || b) (ids q was) ∙ or_false (is_used before (Some q)) (bytes_eq key q)
    ∙ ap (λ k. is_used before (Some q) || (is_same_text k (Some q) || false)) (sym is) ∙ sym (used_more before r (Some q))

or_known : (a b : Bool) → (b ≡ true → a ≡ true) → a ≡ (a || (b || false))
or_known true b known = refl
or_known false true known = known refl
or_known false false known = refl

-- a key that is kept already
pub ids_again : (before : List Record) (r : Record) (key : List ℕ) (ids : Ids) → HoldsIdsOf before ids → record_key r ≡ Some key → list_any (bytes_eq key) ids.keys ≡ true
    → HoldsIdsOf (before ++ r ∷ []) ids
ids_again before r key ids has is kept = λ q shared.
    has q shared
    ∙ or_known (is_used before (Some q)) (bytes_eq key q)
    (λ same. sym (has q shared) ∙ ap (λ t. list_any (bytes_eq t) ids.keys) (sym ((bytes_eq-Decides key q).0 same)) ∙ kept)
    ∙ ap (λ k. is_used before (Some q) || (is_same_text k (Some q) || false)) (sym is) ∙ sym (used_more before r (Some q))

pub or_nothing : (a : Bool) → a ≡ (a || (false || false))
or_nothing true = refl
or_nothing false = refl

-- a record without an id adds no key
pub ids_none : (before : List Record) (r : Record) (old : Ids) → HoldsIdsOf before old → record_key r ≡ None → HoldsIdsOf (before ++ r ∷ []) old
ids_none before r old ids is = λ q shared.
    ids q shared ∙ or_nothing (is_used before (Some q))
    ∙ ap (λ k. is_used before (Some q) || (is_same_text k (Some q) || false)) (sym is) ∙ sym (used_more before r (Some q))

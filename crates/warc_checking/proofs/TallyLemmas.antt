-- How ids are counted in buckets, and what an id that is alone in its bucket means.
use Rattle.std.proofs.Common.{◌≡◌, ◌⊎◌, inl, inr, ℕ, zero, suc, ◌+◌, ◌*◌, ◌/◌, ◌<◌, ◌≤◌, Bool, true, false, ◌||◌, List, [], ◌∷◌, ◌++◌, Option, Some, None, length, map, take, drop, refl, sym, ap, ◌∙◌, arith}
use Rattle.std.proofs.Math.Nat.{mod-lt}
use Rattle.std.proofs.Math.Seq.{take-append_seam}
use Rattle.std.proofs.lemmas.Bool.{ltb-false}
use Rattle.std.proofs.lemmas.Option.{slice_get_within}
use Rattle.std.proofs.lemmas.Slice.Eq.{bytes_eq-Decides}
use Rattle.std.specs.Hash.FoldHasher.{finish, initial, write}
use Rattle.std.specs.List.{slice_get}
use Rattle.std.specs.Prelude.{nat_lt}
use Rattle.std.specs.Str.{bytes_eq}
use Rattle.warc_frame.specs.Record.{Record}
use Rattle.warc_record.specs.Good.{GoodHeadsRead}
use Rattle.warc_record.specs.Ids.{id_key}
use Rattle.warc_record.specs.Texts.{is_same_text}
use Rattle.warc_reading.specs.Archive.{contents}
use Rattle.warc_checking.specs.Checking.{is_used, record_key}
use Rattle.warc_reading.specs.Rereading.{AreCheckable}
use Rattle.warc_reading.specs.Row.{Placed, Row, row_of}
use Rattle.warc_checking.specs.UsedIds.{HoldsIdsOf, Ids, IsAlone, IsTally, bucket_of, buckets_in, level}
use Rattle.warc_checking.proofs.CheckLemmas.{key_by_row}
use Rattle.warc_checking.proofs.UsedIdLemmas.{ids_none, none_used as no_key_used, or_nothing, used_more}

below_or_at : (i n : ℕ) → i < n + 1 → (i < n) ⊎ (i ≡ n)
below_or_at zero zero lt = inr refl
below_or_at zero (suc n) lt = inl (omega arith)
below_or_at (suc i) zero lt = absurd (omega (arith, lt))
below_or_at (suc i) (suc n) lt = one_more i n (below_or_at i n (omega (arith, lt)))
  where
    one_more : (i n : ℕ) → (i < n) ⊎ (i ≡ n) → (suc i < suc n) ⊎ (suc i ≡ suc n)
    one_more i n (inl lt) = inl (omega (arith, lt))
    one_more i n (inr same) = inr (ap suc same)

get_kept : (xs : List ℕ) (x i : ℕ) → i < length xs → slice_get (xs ++ x ∷ []) i ≡ slice_get xs i
get_kept [] x i lt = absurd (omega (arith, lt))
get_kept (y ∷ ys) x zero lt = refl
get_kept (y ∷ ys) x (suc i) lt = get_kept ys x i (omega (arith, lt))

get_last : (xs : List ℕ) (x i : ℕ) → i ≡ length xs → slice_get (xs ++ x ∷ []) i ≡ Some x
get_last [] x i at = ap (slice_get (x ∷ [])) at
get_last (y ∷ ys) x i at = ap (slice_get (y ∷ ys ++ x ∷ [])) at ∙ get_last ys x (length ys) refl

-- the id of one more row
pub tally_more : (n : ℕ) (rows : List Row) (row : Row) (old new buckets : List ℕ) (bucket : ℕ) → slice_get rows n ≡ Some row → 0 < length new
    → length new ≡ length old → length buckets ≡ n
    → ((key : List ℕ) → id_key row.id ≡ Some key → bucket ≡ bucket_of (buckets_in old) key)
    → ((other : List ℕ) → level old other ≤ level new other)
    → ((key : List ℕ) → id_key row.id ≡ Some key → 0 < level new key)
    → ((key : List ℕ) → id_key row.id ≡ Some key → 0 < level old key → 1 < level new key)
    → IsTally n rows old buckets → IsTally (n + 1) rows new (buckets ++ bucket ∷ [])
tally_more n rows row old new buckets bucket row_is some size len bucket_is more once twice was =
    let here : (i : ℕ) (r : Row) → i ≡ n → slice_get rows i ≡ Some r → r ≡ row = λ i r at is. cc in
    record {
      some = some;
      once = λ i r key lt is key_is. elim (below_or_at i n lt) [
        | inl lt ↦ omega (arith, was.once i r key lt is key_is, more key)
        | inr at ↦ once key (ap (λ (q : Row). id_key q.id) (sym (here i r at is)) ∙ key_is)
      ];
      twice = λ i j a b key lt end a_is b_is a_key b_key. elim (below_or_at j n end) [
        | inl end ↦ omega (arith, was.twice i j a b key lt end a_is b_is a_key b_key, more key)
        | inr at ↦ twice key (ap (λ (q : Row). id_key q.id) (sym (here j b at b_is)) ∙ b_key) (was.once i a key (omega (arith, lt, at)) a_is a_key)
      ];
      kept = λ i r key lt is key_is. elim (below_or_at i n lt) [
        | inl lt ↦ get_kept buckets bucket i (omega (arith, lt, len)) ∙ was.kept i r key lt is key_is
            ∙ ap (λ l. Some (bucket_of (4 * l) key)) (sym size)
        | inr at ↦ get_last buckets bucket i (at ∙ sym len)
            ∙ ap (λ b. Some b) (bucket_is key (ap (λ (q : Row). id_key q.id) (sym (here i r at is)) ∙ key_is))
            ∙ ap (λ l. Some (bucket_of (4 * l) key)) (sym size)
      ];
    }

other_text : (text key : List ℕ) (b : Bool) → bytes_eq text key ≡ b → (text ≡ key → ⊥) → bytes_eq text key ≡ false
other_text text key false is other = is
other_text text key true is other = absurd (other ((bytes_eq-Decides text key).0 is))

other_key : (found : Option (List ℕ)) (key : List ℕ) → (found ≡ Some key → ⊥) → is_same_text found (Some key) ≡ false
other_key None key other = refl
other_key (Some text) key other = other_text text key (bytes_eq text key) refl (λ same. other (ap (λ t. Some t) same))

-- no record of these has an id of the key
none_used : (records : List Record) (key : List ℕ) → ((j : ℕ) (r : Record) → slice_get records j ≡ Some r → record_key r ≡ Some key → ⊥)
    → is_used records (Some key) ≡ false
none_used [] key none = refl
none_used (r ∷ rs) key none =
    ap (λ b. b || is_used rs (Some key)) (other_key (record_key r) key (none 0 r refl)) ∙ none_used rs key (λ j q is. none (suc j) q is)

taken : (records : List Record) (n j : ℕ) (r : Record) → slice_get (take n records) j ≡ Some r → (j < n) × (slice_get records j ≡ Some r)
taken [] zero j r is = absurd (cc is)
taken [] (suc n) j r is = absurd (cc is)
taken (x ∷ xs) zero j r is = absurd (cc is)
taken (x ∷ xs) (suc n) zero r is = (omega arith, is)
taken (x ∷ xs) (suc n) (suc j) r is = let more = taken xs n j r is in (omega (arith, more.0), more.1)

-- the record at a place of the contents, and its row
placed_at : (records : List Placed) (j : ℕ) (r : Record) → slice_get (contents records) j ≡ Some r
    → (p : Placed) × (slice_get records j ≡ Some p) × (p.content ≡ r) × (slice_get (map row_of records) j ≡ Some (row_of p))
placed_at [] j r is = absurd (cc is)
placed_at (p ∷ ps) zero r is = (p, refl, cc is, refl)
placed_at (p ∷ ps) (suc j) r is = placed_at ps j r is

-- an id that is alone in its bucket is in no record before
pub alone : (bytes : List ℕ) (records : List Placed) (rows : List Row) (i : ℕ) (row : Row) (ids : Ids) → GoodHeadsRead → AreCheckable bytes records rows
    → IsTally (length rows) rows ids.counts ids.buckets → slice_get rows i ≡ Some row → IsAlone (take i (contents records)) ids (id_key row.id)
alone bytes records rows i row ids law can tally row_is = λ key key_is low.
    none_used (take i (contents records)) key (λ j r at r_key.
    let (lt, content) = taken (contents records) i j r at in
    let (p, p_is, same, of_p) = placed_at records j r content in
    let by_row : record_key p.content ≡ id_key (row_of p).id = key_by_row p (row_of p) refl (law p.content.fields (can.heads j p p_is).good) in
    let p_key : id_key (row_of p).id ≡ Some key = sym by_row ∙ ap record_key same ∙ r_key in
    let at_row : slice_get rows j ≡ Some (row_of p) = ap (λ l. slice_get l j) can.rows_are ∙ of_p in
    let shared : 1 < level ids.counts key = tally.twice j i (row_of p) row key lt (slice_get_within rows i row row_is) at_row row_is p_key key_is in
    absurd (omega (arith, shared, low)))

-- a record whose id is alone in its bucket adds no key
pub ids_alone : (before : List Record) (r : Record) (key : List ℕ) (ids : Ids) → HoldsIdsOf before ids → record_key r ≡ Some key → level ids.counts key ≤ 1
    → HoldsIdsOf (before ++ r ∷ []) ids
ids_alone before r key ids has key_is low = λ q shared.
    let other : record_key r ≡ Some q → ⊥ = λ is. let same : key ≡ q = cc in absurd (omega (arith, shared, ap (level ids.counts) same, low)) in
    has q shared ∙ or_nothing (is_used before (Some q)) ∙ ap (λ b. is_used before (Some q) || (b || false)) (sym (other_key (record_key r) q other))
    ∙ sym (used_more before r (Some q))

-- an id in a bucket of one is used by no record before, and its record adds no key
module _ (before : List Record) (ids : Ids) where
  pub unused : (wanted : Option (List ℕ)) → IsAlone before ids wanted
      → ((key : List ℕ) → wanted ≡ Some key → false ≡ nat_lt 1 (level ids.counts key)) → false ≡ is_used before wanted
  unused None lone few = sym (no_key_used before)
  unused (Some key) lone few = sym (lone key refl (ltb-false 1 (level ids.counts key) (sym (few key refl))))

  pub ids_unshared : (wanted : Option (List ℕ)) (r : Record) → HoldsIdsOf before ids → record_key r ≡ wanted
      → ((key : List ℕ) → wanted ≡ Some key → false ≡ nat_lt 1 (level ids.counts key)) → HoldsIdsOf (before ++ r ∷ []) ids
  ids_unshared None r has is few = ids_none before r ids has is
  ids_unshared (Some key) r has is few =
      ids_alone before r key ids has is (ltb-false 1 (level ids.counts key) (sym (few key refl)))

-- what a call leaves in the whole of a vector
pub whole_back : {X : Type 0} (len : ℕ) (new old : List X) → len ≡ length old → length new ≡ length old → take len (new ++ drop (length new) old) ≡ new
whole_back {X} len new old len_is same =
    ap (λ n. take n (new ++ drop (length new) old)) (len_is ∙ sym same) ∙ take-append_seam new (drop (length new) old)

bucket_below : (count : ℕ) (key : List ℕ) → 0 < count → bucket_of count key < count
unfolding bucket_of write
bucket_below count key some = mod-lt (finish (write initial key)) some

same_bucket : (a b : ℕ) → ◌≡◌ {A = Option ℕ} (Some a) (Some b) → a ≡ b
same_bucket a b is = cc

-- the bucket at a position, which is that of a key, is one of those that are counted
pub never_past : (counts buckets xs ys : List ℕ) (position bucket : ℕ) (key : List ℕ) → xs ≡ buckets → ys ≡ counts → slice_get xs position ≡ Some bucket
    → slice_get buckets position ≡ Some (bucket_of (buckets_in counts) key) → 0 < length counts → length ys ≤ bucket / 4 → ⊥
never_past counts buckets xs ys position bucket key xs_is ys_is found is some past =
    let there = sym found ∙ ap (λ l. slice_get l position) xs_is ∙ is in
    let same = same_bucket bucket (bucket_of (buckets_in counts) key) there in
    omega (arith, past, same, ap length ys_is, bucket_below (buckets_in counts) key (omega (arith, some)))

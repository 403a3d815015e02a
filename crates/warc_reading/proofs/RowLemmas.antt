-- Rows in flat lists.
use Rattle.std.proofs.Common.{◌≡◌, ℕ, ◌+◌, ◌-◌, ◌^◌, ◌<◌, ◌≤◌, List, [], ◌∷◌, ◌++◌, length, zero, suc, min, take, drop, map, Some, None, refl, subst, sym, ap, ◌∙◌, arith, length-append}
use Rattle.std.proofs.lemmas.List.{append_assoc, length-drop, length-take-le, take-map, take-append-drop, take-append-le, drop-append-le, map-append, take_at, drop_at, append-nil}
use Rattle.std.specs.List.{AllByRecursion, slice_get, slice_range, sum_by}
use Rattle.std.proofs.lemmas.List.Sums.{sum_by-cons}
use Rattle.std.proofs.lemmas.Option.{slice_get_within}
use Rattle.warc_reading.specs.Archive.{IsArchiveOf, SpellsFrom}
use Rattle.warc_reading.specs.Row.{Placed, Row, row_of, texts_len}
use Rattle.warc_reading.specs.Rows.{row_at, packed_row, unpacked, whole, IsInTexts, IsPackedOf, AreFlat, AreKept, ArePacked, AreWithin}
use Rattle.warc_reading.specs.declared.rows.RowEntry.{RowEntry}
use Rattle.warc_reading.specs.declared.rows.Packed.{Packed}

-- a part of bytes stays when more follow
pub slice_front : (a b : ℕ) (xs more : List ℕ) → a ≤ b → b ≤ length xs → slice_range (xs ++ more) a b ≡ slice_range xs a b
slice_front a b xs more order le =
    ap (take (b - a)) (drop-append-le a xs more (omega (arith, order, le)))
    ∙ take-append-le (b - a) (drop a xs) more (omega (arith, length-drop a xs, order, le))

length-slice_range : (xs : List ℕ) (a b : ℕ) → b ≤ length xs → length (slice_range xs a b) ≡ b - a
length-slice_range xs a b le = length-take-le (b - a) (drop a xs) (omega (arith, length-drop a xs, le))

-- a part after bytes
pub slice_after : (a b : ℕ) (xs ys more : List ℕ) → a ≡ length xs → b ≡ a + length ys → slice_range (xs ++ (ys ++ more)) a b ≡ ys
slice_after a b xs ys more start end =
    ap (take (b - a)) (drop_at xs (ys ++ more) a (sym start)) ∙ take_at ys more (b - a) (omega (arith, end))

stays : (texts more : List ℕ) (e : RowEntry) → IsInTexts (length texts) e → row_at (texts ++ more) e ≡ row_at texts e
stays texts more e w =
    let kind = slice_front e.kind_start e.kind_end texts more w.kind (omega (arith, w.date, w.id, w.target, w.end)) in
    let date = slice_front e.kind_end e.date_end texts more w.date (omega (arith, w.id, w.target, w.end)) in
    let id = slice_front e.date_end e.id_end texts more w.id (omega (arith, w.target, w.end)) in
    let target = slice_front e.id_end e.target_end texts more w.target w.end in
    rw (kind, date, id, target) refl

-- rows stay when bytes are added after their texts
pub rows_stay : (texts more : List ℕ) (es : List RowEntry) → AreWithin (length texts) es → map (row_at (texts ++ more)) es ≡ map (row_at texts) es
rows_stay texts more [] within = refl
rows_stay texts more (e ∷ es) (w, within) = rw (stays texts more e w) (ap (λ rows. row_at texts e ∷ rows) (rows_stay texts more es within))

longer : (n m : ℕ) (e : RowEntry) → n ≤ m → IsInTexts n e → IsInTexts m e
longer n m e le w = record { kind = w.kind; date = w.date; id = w.id; target = w.target; end = omega (arith, le, w.end) }

pub within_longer : (n m : ℕ) (es : List RowEntry) → n ≤ m → AreWithin n es → AreWithin m es
within_longer n m [] le within = tt
within_longer n m (e ∷ es) le (w, within) = (longer n m e le w, within_longer n m es le within)

pub within_more : (n : ℕ) (es : List RowEntry) (e : RowEntry) → AreWithin n es → IsInTexts n e → AreWithin n (es ++ e ∷ [])
within_more n [] e within w = (w, tt)
within_more n (x ∷ es) e (v, within) w = (v, within_more n es e within w)

-- the row of an entry that was added after the others, whose texts were added after theirs
module _ (t k d i g t1 t2 t3 t4 : List ℕ) (e : RowEntry) (h1 : t1 ≡ t ++ k) (h2 : t2 ≡ t1 ++ d) (h3 : t3 ≡ t2 ++ i) (h4 : t4 ≡ t3 ++ g)
    (a : e.kind_start ≡ length t) (b : e.kind_end ≡ length t1) (c : e.date_end ≡ length t2) (f : e.id_end ≡ length t3) (j : e.target_end ≡ length t4) where
  e4 : t4 ≡ t3 ++ (g ++ [])
  e4 = h4 ∙ ap (λ x. t3 ++ x) (sym (append-nil g))

  e3 : t4 ≡ t2 ++ (i ++ g)
  e3 = h4 ∙ ap (λ x. x ++ g) h3 ∙ append_assoc t2 i g

  e2 : t4 ≡ t1 ++ (d ++ (i ++ g))
  e2 = e3 ∙ ap (λ x. x ++ (i ++ g)) h2 ∙ append_assoc t1 d (i ++ g)

  e1 : t4 ≡ t ++ (k ++ (d ++ (i ++ g)))
  e1 = e2 ∙ ap (λ x. x ++ (d ++ (i ++ g))) h1 ∙ append_assoc t k (d ++ (i ++ g))

  n1 : length t1 ≡ length t + length k
  n1 = ap length h1 ∙ length-append t k

  n2 : length t2 ≡ length t1 + length d
  n2 = ap length h2 ∙ length-append t1 d

  n3 : length t3 ≡ length t2 + length i
  n3 = ap length h3 ∙ length-append t2 i

  n4 : length t4 ≡ length t3 + length g
  n4 = ap length h4 ∙ length-append t3 g

  kind_is : slice_range t4 e.kind_start e.kind_end ≡ k
  kind_is = ap (λ x. slice_range x e.kind_start e.kind_end) e1 ∙ slice_after e.kind_start e.kind_end t k (d ++ (i ++ g)) a (omega (arith, a, b, n1))

  date_is : slice_range t4 e.kind_end e.date_end ≡ d
  date_is = ap (λ x. slice_range x e.kind_end e.date_end) e2 ∙ slice_after e.kind_end e.date_end t1 d (i ++ g) b (omega (arith, b, c, n2))

  id_is : slice_range t4 e.date_end e.id_end ≡ i
  id_is = ap (λ x. slice_range x e.date_end e.id_end) e3 ∙ slice_after e.date_end e.id_end t2 i g c (omega (arith, c, f, n3))

  target_is : slice_range t4 e.id_end e.target_end ≡ g
  target_is = ap (λ x. slice_range x e.id_end e.target_end) e4 ∙ slice_after e.id_end e.target_end t3 g [] f (omega (arith, f, j, n4))

  pub added_within : IsInTexts (length t4) e
  added_within = record {
    kind = omega (arith, a, b, n1);
    date = omega (arith, b, c, n2);
    id = omega (arith, c, f, n3);
    target = omega (arith, f, j, n4);
    end = omega (arith, j);
  }

  -- the row
  abbrev pub added : Row
  added = record {
    offset = e.offset;
    block_start = e.block_start;
    block_len = e.block_len;
    is_truncated = e.is_truncated;
    kind = k;
    date = d;
    id = i;
    target = g;
  }

  added_is : row_at t4 e ≡ added
  added_is = rw (kind_is, date_is, id_is, target_is) refl

  pub rows_added : (es : List RowEntry) → AreWithin (length t) es → map (row_at t4) (es ++ e ∷ []) ≡ map (row_at t) es ++ added ∷ []
  rows_added es within =
      map-append (row_at t4) es (e ∷ [])
      ∙ ap (λ rows. rows ++ row_at t4 e ∷ []) (ap (λ x. map (row_at x) es) e1 ∙ rows_stay t (k ++ (d ++ (i ++ g))) es within)
      ∙ ap (λ row. map (row_at t) es ++ row ∷ []) added_is

  pub all_within : (es : List RowEntry) → AreWithin (length t) es → AreWithin (length t4) (es ++ e ∷ [])
  all_within es within = within_more (length t4) es e (within_longer (length t) (length t4) es (omega (arith, n1, n2, n3, n4)) within) added_within

-- ---- packed texts

packed_more : (start end : ℕ) (es : List RowEntry) (e : RowEntry) → ArePacked start es end → e.kind_start ≡ end → IsInTexts e.target_end e → ArePacked start (es ++ e ∷ []) e.target_end
packed_more start end [] e packed begin w = (begin ∙ sym packed, w, refl)
packed_more start end (x ∷ es) e (at, v, packed) begin w = (at, v, packed_more x.target_end end es e packed begin w)

-- one more entry
pub flat_more : (n m : ℕ) (es : List RowEntry) (e : RowEntry) → AreFlat n es → e.kind_start ≡ n → e.target_end ≡ m → IsInTexts m e → AreWithin m (es ++ e ∷ []) → AreFlat m (es ++ e ∷ [])
flat_more n m es e flat begin end w within =
    let P : ℕ → Type 0 = λ k. ArePacked 0 (es ++ e ∷ []) k in
    let Q : ℕ → Type 0 = λ k. IsInTexts k e in
    record { within = within; packed = subst P end (packed_more 0 n es e flat.packed begin (subst Q (sym end) w)) }

packed_rises : (start end : ℕ) (es : List RowEntry) → ArePacked start es end → start ≤ end
packed_rises start end [] packed = omega (arith, packed)
packed_rises start end (e ∷ es) (at, w, packed) = omega (arith, at, w.kind, w.date, w.id, w.target, packed_rises e.target_end end es packed)

packed_within : (start end : ℕ) (es : List RowEntry) → ArePacked start es end → AreWithin end es
packed_within start end [] packed = tt
packed_within start end (e ∷ es) (at, w, packed) = (longer e.target_end end e (packed_rises e.target_end end es packed) w, packed_within e.target_end end es packed)

-- the first entries end where the next one begins
packed_first : (start end : ℕ) (es : List RowEntry) (i : ℕ) (e : RowEntry) → slice_get es i ≡ Some e → ArePacked start es end → ArePacked start (take i es) e.kind_start × (e.kind_start ≤ end)
packed_first start end [] i e is packed = cc is
packed_first start end (x ∷ es) zero e is (at, w, packed) =
    let same : x ≡ e = cc is in
    (sym at ∙ ap (λ (y : RowEntry). y.kind_start) same, omega (arith, ap (λ (y : RowEntry). y.kind_start) same, w.kind, w.date, w.id, w.target, packed_rises x.target_end end es packed))
packed_first start end (x ∷ es) (suc i) e is (at, w, packed) =
    let (front, le) = packed_first x.target_end end es i e is packed in
    ((at, w, front), le)

pub flat_first : (n : ℕ) (es : List RowEntry) (i : ℕ) (e : RowEntry) → slice_get es i ≡ Some e → AreFlat n es → AreFlat e.kind_start (take i es) × (e.kind_start ≤ n)
flat_first n es i e is flat =
    let (front, le) = packed_first 0 n es i e is flat.packed in
    (record { within = packed_within 0 e.kind_start (take i es) front; packed = front }, le)

-- the rows of the first entries, by their texts alone
pub rows_first : (texts : List ℕ) (n : ℕ) (es : List RowEntry) (i : ℕ) → n ≤ length texts → AreWithin n (take i es) → map (row_at (take n texts)) (take i es) ≡ take i (map (row_at texts) es)
rows_first texts n es i le within =
    let size : length (take n texts) ≡ n = length-take-le n texts le in
    let P : ℕ → Type 0 = λ k. AreWithin k (take i es) in
    sym (rows_stay (take n texts) (drop n texts) (take i es) (subst P (sym size) within)) ∙ ap (λ t. map (row_at t) (take i es)) (take-append-drop n texts) ∙ sym (take-map (row_at texts) i es)

-- how many bytes the texts have
packed_sum : (texts : List ℕ) (start end : ℕ) (es : List RowEntry) → ArePacked start es end → end ≤ length texts → start + sum_by texts_len (map (row_at texts) es) ≡ end
packed_sum texts start end [] packed le = omega (arith, packed)
packed_sum texts start end (e ∷ es) (at, w, packed) le =
    let rest = packed_sum texts e.target_end end es packed le in
    let top = packed_rises e.target_end end es packed in
    let kind = length-slice_range texts e.kind_start e.kind_end (omega (arith, w.date, w.id, w.target, top, le)) in
    let date = length-slice_range texts e.kind_end e.date_end (omega (arith, w.id, w.target, top, le)) in
    let id = length-slice_range texts e.date_end e.id_end (omega (arith, w.target, top, le)) in
    let target = length-slice_range texts e.id_end e.target_end (omega (arith, top, le)) in
    omega (arith, at, w.kind, w.date, w.id, w.target, rest, kind, date, id, target, sum_by-cons texts_len (row_at texts e) (map (row_at texts) es))

pub flat_sum : (texts : List ℕ) (es : List RowEntry) → AreFlat (length texts) es → length texts ≡ sum_by texts_len (map (row_at texts) es)
flat_sum texts es flat = omega (arith, packed_sum texts 0 (length texts) es flat.packed (omega arith))

-- ---- where the last record ends

end_from : (texts : List ℕ) (q : ℕ) (ps : List Placed) (es : List RowEntry) (text : List ℕ) (i : ℕ) (e : RowEntry) → SpellsFrom q ps text → map (row_at texts) es ≡ map row_of ps → slice_get es i ≡ Some e
    → i + 1 ≡ length es → e.block_start + e.block_len + 4 ≡ q + length text
end_from texts q ps [] text i e spelled rows is last = cc is
end_from texts q [] (x ∷ es) text i e spelled rows is last = absurd (cc rows)
end_from texts q (p ∷ []) (x ∷ []) text zero e (front, rest, one, at, start, text_is, more) rows is last =
    let head : row_at texts x ≡ row_of p = cc rows in
    let same : x ≡ e = cc is in
    omega (
      arith,
      start,
      ap (λ (r : Row). r.block_start) head,
      ap (λ (r : Row). r.block_len) head,
      ap (λ (y : RowEntry). y.block_start) same,
      ap (λ (y : RowEntry). y.block_len) same,
      ap length text_is ∙ length-append front rest,
      ap length more,
    )
end_from texts q (p ∷ r ∷ ps) (x ∷ []) text zero e spelled rows is last = absurd (cc rows)
end_from texts q (p ∷ ps) (x ∷ y ∷ es) text zero e spelled rows is last = omega (arith, last)
end_from texts q (p ∷ ps) (x ∷ es) text (suc i) e (front, rest, one, at, start, text_is, more) rows is last =
    let tail : map (row_at texts) es ≡ map row_of ps = cc rows in
    omega (arith, end_from texts (q + length front) ps es rest i e more tail is (omega (arith, last)), ap length text_is ∙ length-append front rest)

pub end_is : (texts bytes : List ℕ) (rows : List Row) (es : List RowEntry) (i : ℕ) (e : RowEntry) → IsArchiveOf bytes rows → map (row_at texts) es ≡ rows → slice_get es i ≡ Some e → i + 1 ≡ length es
    → e.block_start + e.block_len + 4 ≡ length bytes
end_is texts bytes rows es i e of seen is last = omega (arith, end_from texts 0 of.are.records es bytes i e of.are.spelled (seen ∙ of.are.rows_are) is last)

none_end : (ps : List Placed) (bytes : List ℕ) → SpellsFrom 0 ps bytes → length (map row_of ps) ≡ 0 → length bytes ≡ 0
none_end [] bytes spelled none = ap length spelled
none_end (p ∷ ps) bytes spelled none = omega (arith, none)

pub end_none : (bytes : List ℕ) (rows : List Row) → IsArchiveOf bytes rows → length rows ≡ 0 → length bytes ≡ 0
end_none bytes rows of none = none_end of.are.records bytes of.are.spelled (sym (ap length of.are.rows_are) ∙ none)

-- rows and texts that were cut
pub flat_cut : (texts : List ℕ) (es : List RowEntry) (i : ℕ) (e : RowEntry) (ts : List ℕ) (fs : List RowEntry) → slice_get es i ≡ Some e → AreFlat (length texts) es → ts ≡ take e.kind_start texts → fs ≡ take i es
    → AreFlat (length ts) fs × (map (row_at ts) fs ≡ take i (map (row_at texts) es))
flat_cut texts es i e ts fs is flat cut first =
    let (front, le) = flat_first (length texts) es i e is flat in
    let size : length (take e.kind_start texts) ≡ e.kind_start = length-take-le e.kind_start texts le in
    let P : ℕ → Type 0 = λ n. AreFlat n (take i es) in
    rw (cut, first) (subst P (sym size) front, rows_first texts e.kind_start es i le front.within)

-- ---- entries in 32 bytes

pub rows_unpacked : (texts : List ℕ) (ps : List Packed) → map (row_at texts) (map unpacked ps) ≡ map (packed_row texts) ps
rows_unpacked texts [] = refl
rows_unpacked texts (p ∷ ps) = ap (λ rows. packed_row texts p ∷ rows) (rows_unpacked texts ps)

all_within_kept : (n : ℕ) (ps : List Packed) → AreWithin n (map unpacked ps) → AllByRecursion (λ p. IsInTexts n (unpacked p)) ps
all_within_kept n [] within = tt
all_within_kept n (p ∷ ps) (w, within) = (w, all_within_kept n ps within)

pub kept_flat : (n : ℕ) (ps : List Packed) → AreFlat n (map unpacked ps) → AreKept n ps
kept_flat n ps flat = record { within = all_within_kept n ps flat.within; flat = flat }

pub entry_at : (ps : List Packed) (i : ℕ) (p : Packed) → slice_get ps i ≡ Some p → slice_get (map unpacked ps) i ≡ Some (unpacked p)
entry_at [] i p is = absurd (cc is)
entry_at (x ∷ ps) zero p is = let same : x ≡ p = cc is in ap (λ y. Some (unpacked y)) same
entry_at (x ∷ ps) (suc i) p is = entry_at ps i p is

-- rows and texts that were cut
pub cut_kept : (texts : List ℕ) (ps : List Packed) (i : ℕ) (p : Packed) (ts : List ℕ) (qs : List Packed) → slice_get ps i ≡ Some p → AreKept (length texts) ps
    → ts ≡ take (whole p.start) texts → qs ≡ take i ps → AreKept (length ts) qs × (map (packed_row ts) qs ≡ take i (map (packed_row texts) ps))
cut_kept texts ps i p ts qs is kept cut first =
    let entries : map unpacked qs ≡ take i (map unpacked ps) = ap (map unpacked) first ∙ sym (take-map unpacked i ps) in
    let (flat, rows) = flat_cut texts (map unpacked ps) i (unpacked p) ts (map unpacked qs) (entry_at ps i p is) kept.flat cut entries in
    (kept_flat (length ts) qs flat, sym (rows_unpacked ts qs) ∙ rows ∙ ap (take i) (rows_unpacked texts ps))

-- a row that was added, and its texts after the others
pub push_kept : (t t1 t2 t3 t4 : List ℕ) (row : Row) (p : Packed) (ps qs : List Packed) → t1 ≡ t ++ row.kind → t2 ≡ t1 ++ row.date → t3 ≡ t2 ++ row.id
    → t4 ≡ t3 ++ row.target → length t4 < 2 ^ 64 → IsPackedOf (length t) row p → qs ≡ ps ++ p ∷ [] → AreKept (length t) ps
    → AreKept (length t4) qs × (map (packed_row t4) qs ≡ map (packed_row t) ps ++ row ∷ [])
push_kept t t1 t2 t3 t4 row p ps qs h1 h2 h3 h4 short is pushed kept =
    let e : RowEntry = unpacked p in
    let n1 = ap length h1 ∙ length-append t row.kind in
    let n2 = ap length h2 ∙ length-append t1 row.date in
    let n3 = ap length h3 ∙ length-append t2 row.id in
    let n4 = ap length h4 ∙ length-append t3 row.target in
    let a : e.kind_start ≡ length t = is.begin in
    let b : e.kind_end ≡ length t1 = omega (arith, is.begin, is.kind, n1, n2, n3, n4, short) in
    let c : e.date_end ≡ length t2 = omega (arith, b, is.date, n2, n3, n4, short) in
    let f : e.id_end ≡ length t3 = omega (arith, c, is.id, n3, n4, short) in
    let j : e.target_end ≡ length t4 = omega (arith, f, is.target, n4, short) in
    let entries : map unpacked qs ≡ map unpacked ps ++ e ∷ [] = ap (map unpacked) pushed ∙ map-append unpacked ps (p ∷ []) in
    let within = all_within t row.kind row.date row.id row.target t1 t2 t3 t4 e h1 h2 h3 h4 a b c f j (map unpacked ps) kept.flat.within in
    let last = added_within t row.kind row.date row.id row.target t1 t2 t3 t4 e h1 h2 h3 h4 a b c f j in
    let flat = flat_more (length t) (length t4) (map unpacked ps) e kept.flat a j last within in
    let P : List RowEntry → Type 0 = λ es. AreFlat (length t4) es in
    let rows = rows_added t row.kind row.date row.id row.target t1 t2 t3 t4 e h1 h2 h3 h4 a b c f j (map unpacked ps) kept.flat.within in
    let same : added t row.kind row.date row.id row.target t1 t2 t3 t4 e h1 h2 h3 h4 a b c f j ≡ row = rw (is.head, is.offset, is.block, is.truncated) refl in (
      kept_flat (length t4) qs (subst P (sym entries) flat),
      sym (rows_unpacked t4 qs) ∙ ap (map (row_at t4)) entries ∙ rows ∙ ap (λ (r : Row). map (row_at t) (map unpacked ps) ++ r ∷ []) same
          ∙ ap (λ rows. rows ++ row ∷ []) (rows_unpacked t ps),
    )

-- the rows that are left at a position
pub none_left : {X : Type 0} (xs : List X) (i : ℕ) → slice_get xs i ≡ None → drop i xs ≡ []
none_left [] zero is = refl
none_left [] (suc i) is = refl
none_left (x ∷ xs) zero is = absurd (cc is)
none_left (x ∷ xs) (suc i) is = none_left xs i is

one_left : {X : Type 0} (xs : List X) (i : ℕ) (x : X) → slice_get xs i ≡ Some x → drop i xs ≡ x ∷ drop (suc i) xs
one_left [] i x is = absurd (cc is)
one_left (y ∷ ys) zero x is = let same : y ≡ x = cc is in ap (λ z. z ∷ ys) same
one_left (y ∷ ys) (suc i) x is = one_left ys i x is

pub some_left : {X : Type 0} (xs : List X) (i n most : ℕ) (x : X) → slice_get xs i ≡ Some x → length xs ≤ most → n ≡ min (length xs) (min (i + 1) most) → drop i xs ≡ x ∷ drop n xs
some_left xs i n most x is within next =
    let inside = slice_get_within xs i x is in
    let one : n ≡ suc i = omega (arith, inside, within, next) in
    one_left xs i x is ∙ ap (λ k. x ∷ drop k xs) (sym one)

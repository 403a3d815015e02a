-- The laws of selections: what is written of some records of an archive is an archive of these records.
use Rattle.std.proofs.Common.{◌≡◌, ℕ, zero, suc, ◌+◌, ◌-◌, ◌^◌, ◌<◌, ◌≤◌, List, [], ◌∷◌, ◌++◌, length, map, take, drop, get_or, nat_cmp, Option, Some, None, append_assoc, length-append, refl, sym, ap, subst, ◌∙◌, arith}
use Rattle.std.specs.Prelude.{⊤, option_map, slice_range}
use Rattle.std.specs.List.{AllByRecursion, cons_option, flat_map, range_with_len, slice_get, sum_by}
use Rattle.std.specs.List.Sorted.{IsStrictlyIncreasing}
use Rattle.std.proofs.lemmas.List.{drop_all, length-drop, length-take-le, take-take}
use Rattle.std.proofs.lemmas.List.Sums.{sum_by-append, sum_by-cons, sum_by-take-le, sum_by_push}
use Rattle.std.proofs.lemmas.List.Kept.{AllPairs-from_increasing}
use Rattle.std.proofs.lemmas.Map.Keys.{IsStrictlyIncreasing-from_sorted, sorted_from_strictly_increasing, sorted_tail}
use Rattle.std.proofs.lemmas.Option.{slice_get-map}
use Rattle.warc_field.specs.Lines.{crlf}
use Rattle.warc_frame.specs.Record.{Record, head_text}
use Rattle.warc_frame.specs.Spelling.{Spells, SpellsAll}
use Rattle.warc_record.specs.Good.{IsGood}
use Rattle.warc_reading.specs.Archive.{AreGood, IsArchiveOf, SpellsFrom, contents}
use Rattle.warc_reading.specs.Placing.{IsPlacedIn}
use Rattle.warc_reading.specs.Row.{Placed, Row, row_of}
use Rattle.warc_reading.proofs.PlacedLemmas.{take_one}
use Rattle.warc_reading.proofs.RowLemmas.{slice_after}
use Rattle.warc_reading.proofs.RemainLemmas.{written}
use Rattle.warc_reading.proofs.StreamLemmas.{spells_all}
use Rattle.warc_rewrite.specs.SelectionLaws.{AllGiveTheArchive, SelectionIsAnArchive, SelectionIsOfTheSelected}
use Rattle.warc_rewrite.specs.Selected.{HasBytesOf}
use Rattle.warc_rewrite.specs.Selecting.{at_positions, record_bytes, records_len, selected_text}
use Rattle.warc_lookup.specs.RecordBytes.{record_len}
use Rattle.warc_rewrite.proofs.SelectLemmas.{all_at, at_more, at_split, has_bytes}

-- ---- all records are the archive

whole_from : (q : ℕ) (before : List ℕ) (records : List Placed) (text : List ℕ) → q ≡ length before → SpellsFrom q records text
    → flat_map (record_bytes (before ++ text)) (map row_of records) ≡ text
whole_from q before [] text q_is is = sym is
whole_from q before (r ∷ rs) text q_is (front, rest, one, at, start, text_is, more) =
    let size : q + length front ≡ length (before ++ front) = sym (length-append before front ∙ ap (λ n. n + length front) (sym q_is)) in
    let whole : (before ++ front) ++ rest ≡ before ++ text = append_assoc before front rest ∙ ap (λ t. before ++ t) (sym text_is) in
    let end : r.block_start + length r.content.block + 4 ≡ r.offset + length front = omega (arith, start, at) in
    let first : record_bytes (before ++ text) (row_of r) ≡ front =
    ap (λ t. slice_range (before ++ t) r.offset (r.block_start + length r.content.block + 4)) text_is
    ∙ slice_after r.offset (r.block_start + length r.content.block + 4) before front rest (at ∙ q_is) end in
    let others : flat_map (record_bytes (before ++ text)) (map row_of rs) ≡ rest =
    ap (λ t. flat_map (record_bytes t) (map row_of rs)) (sym whole) ∙ whole_from (q + length front) (before ++ front) rs rest size more in
    ap (λ t. t ++ flat_map (record_bytes (before ++ text)) (map row_of rs)) first ∙ ap (λ t. front ++ t) others ∙ sym text_is

pub whole_text : (bytes : List ℕ) (rows : List Row) → IsArchiveOf bytes rows → flat_map (record_bytes bytes) rows ≡ bytes
whole_text bytes rows is =
    ap (λ l. flat_map (record_bytes bytes) l) is.are.rows_are ∙ whole_from 0 [] is.are.records bytes refl is.are.spelled

-- the element at a place, and what comes after it
pub one_left : {X : Type 0} (xs : List X) (n : ℕ) → n < length xs → (x : X) × (slice_get xs n ≡ Some x) × (drop n xs ≡ x ∷ drop (n + 1) xs)
one_left {X} [] n within = absurd (omega (arith, within))
one_left {X} (y ∷ ys) zero within = (y, refl, refl)
one_left {X} (y ∷ ys) (suc n) within =
    let (x, here, left) = one_left ys n (omega (arith, within)) in
    let more : suc (n + 1) ≡ suc n + 1 = omega arith in
    (x, here, left ∙ ap (λ k. x ∷ drop k (y ∷ ys)) more)

all_from : {X : Type 0} (xs : List X) (n k : ℕ) → n + k ≡ length xs → at_positions xs (range_with_len n k) ≡ drop n xs
all_from {X} xs n zero is = sym (drop_all n xs (omega (arith, is)))
all_from {X} xs n (suc k) is =
    let (x, here, left) = one_left xs n (omega (arith, is)) in
    ap (λ o. cons_option o (at_positions xs (range_with_len (n + 1) k))) here
    ∙ ap (λ l. x ∷ l) (all_from xs (n + 1) k (omega (arith, is)))
    ∙ sym left

pub all_give_the_archive : AllGiveTheArchive
all_give_the_archive bytes rows is =
    ap (λ l. flat_map (record_bytes bytes) l) (all_from rows 0 (length rows) (omega arith)) ∙ whole_text bytes rows is

-- ---- positions that ascend

-- each is at least a number, and less than the one after it
abbrev pub AscendFrom : ℕ → List ℕ → Type 0
AscendFrom n [] = ⊤
AscendFrom n (p ∷ ps) = (n ≤ p) × AscendFrom (p + 1) ps

pub ascends : (n : ℕ) (ps : List ℕ) → IsStrictlyIncreasing ps → ((k : ℕ) → k < length ps → n ≤ get_or ps k 0) → AscendFrom n ps
ascends n [] is low = tt
ascends n (p ∷ ps) is low =
    let tail : IsStrictlyIncreasing ps = IsStrictlyIncreasing-from_sorted ps (sorted_tail nat_cmp p ps (sorted_from_strictly_increasing (p ∷ ps) is)) in
    let up : (k : ℕ) → k < length ps → p + 1 ≤ get_or ps k 0 =
    λ k lt. (let less : p < get_or ps k 0 = AllPairs-from_increasing (p ∷ ps) is 0 (suc k) 0 (omega arith) (omega (arith, lt)) in omega (arith, less)) in
    (low 0 (omega arith), ascends (p + 1) ps tail up)

-- ---- how long a selection is

sum_rises : {X : Type 0} (f : X → ℕ) (xs : List X) (n m : ℕ) → n ≤ m → sum_by f (take n xs) ≤ sum_by f (take m xs)
sum_rises {X} f xs n m le = omega (arith, sum_by-take-le f (take m xs) n, ap (λ l. sum_by f l) (take-take n m xs le))

some_by : {X : Type 0} (f : X → ℕ) (xs ys : List X) (n p : ℕ) (found : Option X) → n ≤ p → slice_get xs p ≡ found
    → sum_by f ys + sum_by f (take (p + 1) xs) ≤ sum_by f xs → sum_by f (cons_option found ys) + sum_by f (take n xs) ≤ sum_by f xs
some_by {X} f xs ys n p None le at rest = omega (arith, rest, sum_rises f xs n (p + 1) (omega (arith, le)))
some_by {X} f xs ys n p (Some x) le at rest =
    let one : sum_by f (take (p + 1) xs) ≡ sum_by f (take p xs) + f x = ap (λ l. sum_by f l) (take_one xs p x at) ∙ sum_by_push f (take p xs) x in
    omega (arith, rest, one, sum_by-cons f x ys, sum_rises f xs n p le)

some_of : {X : Type 0} (f : X → ℕ) (xs : List X) (n : ℕ) (ps : List ℕ) → AscendFrom n ps
    → sum_by f (at_positions xs ps) + sum_by f (take n xs) ≤ sum_by f xs
some_of {X} f xs n [] ascend = omega (arith, sum_by-take-le f xs n)
some_of {X} f xs n (p ∷ ps) (le, ascend) = some_by f xs (at_positions xs ps) n p (slice_get xs p) le refl (some_of f xs (p + 1) ps ascend)

bytes_len : (bytes : List ℕ) (row : Row) → HasBytesOf bytes row → length (record_bytes bytes row) ≡ record_len (Some row)
bytes_len bytes row has =
    length-take-le (record_len (Some row)) (drop row.offset bytes) (omega (arith, has.0, length-drop row.offset bytes))

pub text_len : (bytes : List ℕ) (rows : List Row) → AllByRecursion (HasBytesOf bytes) rows → length (flat_map (record_bytes bytes) rows) ≡ records_len rows
text_len bytes [] all = refl
text_len bytes (r ∷ rs) all =
    length-append (record_bytes bytes r) (flat_map (record_bytes bytes) rs)
    ∙ ap (λ n. n + length (flat_map (record_bytes bytes) rs)) (bytes_len bytes r all.0)
    ∙ ap (λ n. record_len (Some r) + n) (text_len bytes rs all.1)
    ∙ sym (sum_by-cons (λ (row : Row). record_len (Some row)) r rs)

all_in : {X : Type 0} (P : X → Type 0) (xs : List X) → ((p : ℕ) (x : X) → slice_get xs p ≡ Some x → P x) → AllByRecursion P xs
all_in {X} P xs each = let Q : List X → Type 0 = λ l. AllByRecursion P l in subst Q (all_from xs 0 (length xs) (omega arith)) (all_at P xs (range_with_len 0 (length xs)) each)

pub selection_len : (bytes : List ℕ) (rows : List Row) (ps : List ℕ) → IsArchiveOf bytes rows
    → length (selected_text rows ps bytes) ≡ records_len (at_positions rows ps)
selection_len bytes rows ps is = text_len bytes (at_positions rows ps) (all_at (HasBytesOf bytes) rows ps (has_bytes bytes rows is))

pub selection_short : (bytes : List ℕ) (rows : List Row) (ps : List ℕ) → IsArchiveOf bytes rows → IsStrictlyIncreasing ps
    → records_len (at_positions rows ps) ≤ length bytes
selection_short bytes rows ps is up =
    let all = text_len bytes rows (all_in (HasBytesOf bytes) rows (has_bytes bytes rows is)) in
    let whole = ap (λ t. length t) (whole_text bytes rows is) in
    omega (arith, all, whole, some_of (λ (row : Row). record_len (Some row)) rows 0 ps (ascends 0 ps up (λ k lt. omega arith)))

-- one more record
pub len_more : (bytes : List ℕ) (rows : List Row) (ps : List ℕ) (i : ℕ) (row : Row) (total len : ℕ) → IsArchiveOf bytes rows → IsStrictlyIncreasing ps → i < length ps
    → slice_get rows (get_or ps i 0) ≡ Some row → total ≡ records_len (at_positions rows (take i ps))
    → (row.block_start + row.block_len + 4 < 2 ^ 64 → len ≡ record_len (Some row))
    → (total + len < 2 ^ 64) × (total + len ≡ records_len (at_positions rows (take (i + 1) ps)))
len_more bytes rows ps i row total len is up within at so_far exact =
    let has = has_bytes bytes rows is (get_or ps i 0) row at in
    let one : len ≡ record_len (Some row) = exact (omega (arith, has.0, has.1)) in
    let more = ap (λ l. records_len l) (at_more rows ps i row within at)
    ∙ sum_by_push (λ (r : Row). record_len (Some r)) (at_positions rows (take i ps)) row in
    let part = ap (λ l. records_len l) (at_split rows ps (i + 1))
    ∙ sum_by-append (λ (r : Row). record_len (Some r)) (at_positions rows (take (i + 1) ps)) (at_positions rows (drop (i + 1) ps)) in
    let whole : total + len ≡ records_len (at_positions rows (take (i + 1) ps)) = omega (arith, so_far, one, more) in
    (omega (arith, whole, part, is.short, selection_short bytes rows ps is up), whole)

-- ---- its records

cons_map : {X Y : Type 0} (f : X → Y) (found : Option X) (xs : List X) → cons_option (option_map f found) (map f xs) ≡ map f (cons_option found xs)
cons_map {X} {Y} f None xs = refl
cons_map {X} {Y} f (Some x) xs = refl

pub at_map : {X Y : Type 0} (f : X → Y) (xs : List X) (ps : List ℕ) → at_positions (map f xs) ps ≡ map f (at_positions xs ps)
at_map {X} {Y} f xs [] = refl
at_map {X} {Y} f xs (p ∷ ps) =
    ap (λ o. cons_option o (at_positions (map f xs) ps)) (slice_get-map f xs p)
    ∙ ap (λ l. cons_option (option_map f (slice_get xs p)) l) (at_map f xs ps)
    ∙ cons_map f (slice_get xs p) (at_positions xs ps)

spells_one : (bytes : List ℕ) (p : Placed) → IsPlacedIn bytes p → Spells p.content (record_bytes bytes (row_of p))
spells_one bytes p is_present =
    let len : is_present.len ≡ p.block_start + length p.content.block + 4 - p.offset = omega (arith, is_present.end) in
    let P : ℕ → Type 0 = λ n. Spells p.content (take n (drop p.offset bytes)) in
    subst P len is_present.spells

spells_at : (bytes : List ℕ) (ps : List Placed) → AllByRecursion (IsPlacedIn bytes) ps → SpellsAll (contents ps) (flat_map (record_bytes bytes) (map row_of ps))
spells_at bytes [] all = refl
spells_at bytes (p ∷ ps) all =
    (record_bytes bytes (row_of p), flat_map (record_bytes bytes) (map row_of ps), spells_one bytes p all.0, refl, spells_at bytes ps all.1)

got : {X : Type 0} (P : X → Type 0) (xs : List X) → AllByRecursion P xs → (p : ℕ) (x : X) → slice_get xs p ≡ Some x → P x
got {X} P [] all p x is = absurd (cc is)
got {X} P (y ∷ ys) all zero x is = let same : y ≡ x = cc is in subst P same all.0
got {X} P (y ∷ ys) all (suc p) x is = got P ys all.1 p x is

selection_good : (records : List Record) (ps : List ℕ) → AreGood records → AreGood (at_positions records ps)
selection_good records ps good = all_at IsGood records ps (got IsGood records good)

selection_spells : (bytes : List ℕ) (rows : List Row) (ps : List ℕ) (is : IsArchiveOf bytes rows)
    → SpellsAll (at_positions (contents is.are.records) ps) (selected_text rows ps bytes)
selection_spells bytes rows ps is =
    let records = is.are.records in
    let chosen = at_positions records ps in
    let spelled = spells_at bytes chosen (all_at (IsPlacedIn bytes) records ps (written bytes records is.are.spelled)) in
    let text : flat_map (record_bytes bytes) (map row_of chosen) ≡ selected_text rows ps bytes =
    ap (λ l. flat_map (record_bytes bytes) l) (sym (at_map row_of records ps))
    ∙ ap (λ l. selected_text l ps bytes) (sym is.are.rows_are) in
    let are : contents chosen ≡ at_positions (contents records) ps = sym (at_map (λ (p : Placed). p.content) records ps) in
    let P : List Record → Type 0 = λ rs. SpellsAll rs (selected_text rows ps bytes) in
    let Q : List ℕ → Type 0 = λ t. SpellsAll (contents chosen) t in
    subst P are (subst Q text spelled)

record_len_is : (head block : List ℕ) → length (head ++ block ++ crlf ++ crlf) ≡ length head + length block + 4
record_len_is head block = simp length-append (omega arith)

placed_from : (q : ℕ) (rs : List Record) (text : List ℕ) → SpellsAll rs text → (ps : List Placed) × SpellsFrom q ps text × (contents ps ≡ rs)
placed_from q [] text is = ([], is, refl)
placed_from q (r ∷ rs) text (front, rest, one, text_is, more) =
    let (ps, spelled, are) = placed_from (q + length front) rs rest more in
    let head = head_text r.version one.area in
    let size : length front ≡ length head + length r.block + 4 = ap (λ t. length t) one.text_is ∙ record_len_is head r.block in
    let p : Placed = record { offset = q; block_start = q + length head; content = r } in
    (p ∷ ps, (front, rest, one, refl, omega (arith, size), text_is, spelled), ap (λ l. r ∷ l) are)

pub selection_is_an_archive : SelectionIsAnArchive
selection_is_an_archive bytes rows ps is positions =
    let chosen = at_positions (contents is.are.records) ps in
    let (places, spelled, are) = placed_from 0 chosen (selected_text rows ps bytes) (selection_spells bytes rows ps is) in
    let P : List Record → Type 0 = λ rs. AreGood rs in (
      map row_of places,
      record {
        short = omega (arith, is.short, selection_len bytes rows ps is, selection_short bytes rows ps is positions.ascending);
        are = record {
          records = places;
          spelled = spelled;
          good = subst P (sym are) (selection_good (contents is.are.records) ps is.are.good);
          rows_are = refl;
        };
      },
    )

pub selection_is_of_the_selected : ((rs ss : List Record) (text : List ℕ) → SpellsAll rs text → SpellsAll ss text → rs ≡ ss) → SelectionIsOfTheSelected
selection_is_of_the_selected only bytes rows is ps others other =
    only (contents other.are.records) (at_positions (contents is.are.records) ps) (selected_text rows ps bytes)
    (spells_all 0 other.are.records (selected_text rows ps bytes) other.are.spelled) (selection_spells bytes rows ps is)

-- What is joined to a record doesn't depend on the positions of its segments.
use Rattle.std.proofs.Common.{◌≡◌, ℕ, ◌+◌, ◌-◌, Bool, true, false, cond, ◌&&◌, ◌==◌, List, [], ◌∷◌, map, Option, Some, None, Result, Ok, Err, option_map, slice_get, refl, sym, ◌∙◌, ap, if◌then◌else◌}
use Rattle.std.specs.Prelude.{filter, is_some, nat_eq, nat_le, nat_lt, option_and_then, sum_by}
use Rattle.std.specs.Option.{option_eq, option_map_or, option_or}
use Rattle.std.specs.List.{cons_option, filter_map, range_with_len}
use Rattle.std.proofs.Math.Path.{fun_ext}
use Rattle.std.proofs.lemmas.List.Sums.{sum_by-cons}
use Rattle.warc_record.specs.declared.readings.SegmentNumber.{SegmentNumber}
use Rattle.warc_record.specs.declared.readings.SegmentNumber.TheVariants as numbers
use Rattle.warc_segment.specs.declared.gap.Gap.{Gap}
use Rattle.warc_segment.specs.declared.gap.Gap.TheVariants.{Repeated, AfterEnd, Total, Number}
use Rattle.warc_segment.specs.Gaps.{absent_or_total, end_of, followers, gap_of, gap_to, has_total, is_absent, joined, least, least_absent, least_after, least_repeated, unless_gap}
use Rattle.warc_segment.specs.Joined.{with_members}
use Rattle.warc_segment.specs.Series.{Member, count_numbered, in_order, member_numbered, numbers_of}

-- a member, moved to another position
abbrev pub moved : (ℕ → ℕ) → Member → Member
moved f m = record { position = f m.position; number = m.number; total = m.total; size = m.size }

abbrev pub all_moved : (ℕ → ℕ) → Result (List Member) Gap → Result (List Member) Gap
all_moved f (Ok ms) = Ok (map (moved f) ms)
all_moved f (Err gap) = Err gap

module _ (f : ℕ → ℕ) where
  numbers_moved : (ms : List Member) → numbers_of (map (moved f) ms) ≡ numbers_of ms
  numbers_moved [] = refl
  numbers_moved (m ∷ ms) = ap (λ l. m.number ∷ l) (numbers_moved ms)

  nexts_moved : (ms : List Member) → map (λ m. m.number + 1) (map (moved f) ms) ≡ map (λ m. m.number + 1) ms
  nexts_moved [] = refl
  nexts_moved (m ∷ ms) = ap (λ l. (m.number + 1) ∷ l) (nexts_moved ms)

  sum_moved : (h : Member → ℕ) → ((m : Member) → h (moved f m) ≡ h m) → (ms : List Member) → sum_by h (map (moved f) ms) ≡ sum_by h ms
  sum_moved h same [] = refl
  sum_moved h same (m ∷ ms) =
      sum_by-cons h (moved f m) (map (moved f) ms)
      ∙ ap (λ n. n + sum_by h (map (moved f) ms)) (same m)
      ∙ ap (λ n. h m + n) (sum_moved h same ms)
      ∙ sym (sum_by-cons h m ms)

  count_moved : (k : ℕ) (ms : List Member) → count_numbered k (map (moved f) ms) ≡ count_numbered k ms
  count_moved k ms = sum_moved (λ m. cond (m.number == k) 1 0) (λ m. refl) ms

  cond_moved : (b : Bool) (m : Member) (xs : List Member) → cond b (moved f m ∷ map (moved f) xs) (map (moved f) xs) ≡ map (moved f) (cond b (m ∷ xs) xs)
  cond_moved true m xs = refl
  cond_moved false m xs = refl

  filter_moved : (ms : List Member) → filter (λ m. is_some m.total) (map (moved f) ms) ≡ map (moved f) (filter (λ m. is_some m.total) ms)
  filter_moved [] = refl
  filter_moved (m ∷ ms) =
      ap (λ l. cond (is_some m.total) (moved f m ∷ l) l) (filter_moved ms) ∙ cond_moved (is_some m.total) m (filter (λ x. is_some x.total) ms)

  found_by : (b : Bool) (m : Member) (o : Option Member) → (if b then Some (moved f m) else option_map (moved f) o) ≡ option_map (moved f) (if b then Some m else o)
  found_by true m o = refl
  found_by false m o = refl

  found_moved : (ms : List Member) (k : ℕ) → member_numbered (map (moved f) ms) k ≡ option_map (moved f) (member_numbered ms k)
  found_moved [] k = refl
  found_moved (m ∷ ms) k =
      ap (λ o. if m.number == k then Some (moved f m) else o) (found_moved ms k) ∙ found_by (m.number == k) m (member_numbered ms k)

  cons_moved : (o : Option Member) (xs : List Member) → cons_option (option_map (moved f) o) (map (moved f) xs) ≡ map (moved f) (cons_option o xs)
  cons_moved None xs = refl
  cons_moved (Some m) xs = refl

  each_moved : (ms : List Member) (ks : List ℕ) → filter_map (member_numbered (map (moved f) ms)) ks ≡ map (moved f) (filter_map (member_numbered ms) ks)
  each_moved ms [] = refl
  each_moved ms (k ∷ ks) =
      ap (λ o. cons_option o (filter_map (member_numbered (map (moved f) ms)) ks)) (found_moved ms k)
      ∙ ap (λ l. cons_option (option_map (moved f) (member_numbered ms k)) l) (each_moved ms ks)
      ∙ cons_moved (member_numbered ms k) (filter_map (member_numbered ms) ks)

  order_moved : (n : ℕ) (ms : List Member) → in_order n (map (moved f) ms) ≡ map (moved f) (in_order n ms)
  order_moved n ms = each_moved ms (range_with_len 2 (n - 1))

  -- ---- the gaps

  repeated_moved : (ms : List Member) → least_repeated (map (moved f) ms) ≡ least_repeated ms
  repeated_moved ms =
      let same : (λ (k : ℕ). nat_le 2 (count_numbered k (map (moved f) ms))) ≡ (λ (k : ℕ). nat_le 2 (count_numbered k ms)) =
      fun_ext (λ k. ap (λ n. nat_le 2 n) (count_moved k ms)) in
      ap (λ t. least (filter t (numbers_of (map (moved f) ms)))) same
      ∙ ap (λ l. least (filter (λ k. nat_le 2 (count_numbered k ms)) l)) (numbers_moved ms)

  end_moved : (ms : List Member) → end_of (map (moved f) ms) ≡ end_of ms
  end_moved ms = ap (λ l. least (numbers_of l)) (filter_moved ms) ∙ ap least (numbers_moved (filter (λ m. is_some m.total) ms))

  after_moved : (n : ℕ) (ms : List Member) → least_after n (map (moved f) ms) ≡ least_after n ms
  after_moved n ms = ap (λ l. least (filter (nat_lt n) l)) (numbers_moved ms)

  absent_moved : (n : ℕ) (ms : List Member) → least_absent n (map (moved f) ms) ≡ least_absent n ms
  absent_moved n ms =
      let same : is_absent n (map (moved f) ms) ≡ is_absent n ms =
      fun_ext (λ k. ap (λ c. nat_le 2 k && nat_le k n && (c == 0)) (count_moved k ms)) in
      ap (λ t. least (filter t (2 ∷ map (λ m. m.number + 1) (map (moved f) ms)))) same
      ∙ ap (λ l. least (filter (is_absent n ms) (2 ∷ l))) (nexts_moved ms)

  total_by : (o : Option Member) → option_and_then (λ (m : Member). m.total) (option_map (moved f) o) ≡ option_and_then (λ (m : Member). m.total) o
  total_by None = refl
  total_by (Some m) = refl

  total_moved : (n size : ℕ) (ms : List Member) → has_total n size (map (moved f) ms) ≡ has_total n size ms
  total_moved n size ms =
      let stated : option_and_then (λ (m : Member). m.total) (member_numbered (map (moved f) ms) n) ≡ option_and_then (λ (m : Member). m.total) (member_numbered ms n) =
      ap (λ o. option_and_then (λ (m : Member). m.total) o) (found_moved ms n) ∙ total_by (member_numbered ms n) in
      let sum : sum_by (λ (m : Member). m.size) (in_order n (map (moved f) ms)) ≡ sum_by (λ (m : Member). m.size) (in_order n ms) =
      ap (λ l. sum_by (λ (m : Member). m.size) l) (order_moved n ms) ∙ sum_moved (λ m. m.size) (λ m. refl) (in_order n ms) in
      ap (λ o. option_eq nat_eq o (Some (size + sum_by (λ (m : Member). m.size) (in_order n (map (moved f) ms))))) stated
      ∙ ap (λ s. option_eq nat_eq (option_and_then (λ (m : Member). m.total) (member_numbered ms n)) (Some (size + s))) sum

  absent_or_moved : (o : Option ℕ) (n size : ℕ) (ms : List Member) → absent_or_total o n size (map (moved f) ms) ≡ absent_or_total o n size ms
  absent_or_moved (Some k) n size ms = refl
  absent_or_moved None n size ms = ap (λ b. if b then None else Some Total) (total_moved n size ms)

  to_moved : (o : Option ℕ) (size : ℕ) (ms : List Member) → gap_to o size (map (moved f) ms) ≡ gap_to o size ms
  to_moved None size ms = refl
  to_moved (Some n) size ms =
      ap (λ o. option_or (option_map AfterEnd o) (absent_or_total (least_absent n (map (moved f) ms)) n size (map (moved f) ms))) (after_moved n ms)
      ∙ ap (λ o. option_or (option_map AfterEnd (least_after n ms)) (absent_or_total o n size (map (moved f) ms))) (absent_moved n ms)
      ∙ ap (λ g. option_or (option_map AfterEnd (least_after n ms)) g) (absent_or_moved (least_absent n ms) n size ms)

  gap_moved : (size : ℕ) (ms : List Member) → gap_of size (map (moved f) ms) ≡ gap_of size ms
  gap_moved size ms =
      ap (λ o. option_or (option_map Repeated o) (gap_to (end_of (map (moved f) ms)) size (map (moved f) ms))) (repeated_moved ms)
      ∙ ap (λ o. option_or (option_map Repeated (least_repeated ms)) (gap_to o size (map (moved f) ms))) (end_moved ms)
      ∙ ap (λ g. option_or (option_map Repeated (least_repeated ms)) g) (to_moved (end_of ms) size ms)

  -- ---- what is joined

  followers_by : (o : Option ℕ) (ms : List Member) → option_map_or (λ n. in_order n (map (moved f) ms)) o [] ≡ map (moved f) (option_map_or (λ n. in_order n ms) o [])
  followers_by None ms = refl
  followers_by (Some n) ms = order_moved n ms

  followers_moved : (ms : List Member) → followers (map (moved f) ms) ≡ map (moved f) (followers ms)
  followers_moved ms = ap (λ o. option_map_or (λ n. in_order n (map (moved f) ms)) o []) (end_moved ms) ∙ followers_by (end_of ms) ms

  unless_moved : (gap : Option Gap) (ms : List Member) → unless_gap gap (map (moved f) ms) ≡ all_moved f (unless_gap gap ms)
  unless_moved (Some gap) ms = refl
  unless_moved None ms = ap (λ l. Ok l) (followers_moved ms)

  joined_by : (b : Bool) (size : ℕ) (ms : List Member)
      → (if b then unless_gap (gap_of size (map (moved f) ms)) (map (moved f) ms) else Err Number)
      ≡ all_moved f (if b then unless_gap (gap_of size ms) ms else Err Number)
  joined_by true size ms = ap (λ g. unless_gap g (map (moved f) ms)) (gap_moved size ms) ∙ unless_moved (gap_of size ms) ms
  joined_by false size ms = refl

  pub joined_moved : (number : SegmentNumber) (size : ℕ) (ms : List Member) → joined number size (map (moved f) ms) ≡ all_moved f (joined number size ms)
  joined_moved numbers.Absent size ms = refl
  joined_moved numbers.Bad size ms = refl
  joined_moved (numbers.Number k) size ms = joined_by (k == 1) size ms

  -- ---- the records that are joined

  records_moved : {X : Type 0} (all part : List X) → ((i : ℕ) → slice_get all (f i) ≡ slice_get part i) → (ms : List Member)
      → filter_map (λ (m : Member). slice_get all m.position) (map (moved f) ms) ≡ filter_map (λ (m : Member). slice_get part m.position) ms
  records_moved {X} all part same [] = refl
  records_moved {X} all part same (m ∷ ms) =
      ap (λ o. cons_option o (filter_map (λ (x : Member). slice_get all x.position) (map (moved f) ms))) (same m.position)
      ∙ ap (λ l. cons_option (slice_get part m.position) l) (records_moved all part same ms)

  pub with_moved : {X : Type 0} (all part : List X) (own : X) → ((i : ℕ) → slice_get all (f i) ≡ slice_get part i) → (found : Result (List Member) Gap)
      → with_members all own (all_moved f found) ≡ with_members part own found
  with_moved {X} all part own same (Ok ms) = ap (λ l. Ok (own ∷ l)) (records_moved all part same ms)
  with_moved {X} all part own same (Err gap) = refl

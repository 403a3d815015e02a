-- Findings in flat lists, and the lines of those that are reported.
use Rattle.std.proofs.Common.{◌≡◌, ℕ, zero, suc, ◌+◌, ◌-◌, ◌<◌, ◌≤◌, Bool, ◌&&◌, if◌then◌else◌, List, [], ◌∷◌, ◌++◌, Some, length, map, take, drop, set, slice_range, get_or, true, false, append_assoc, length-append, refl, sym, ap, subst, ◌∙◌, arith}
use Rattle.std.proofs.Math.Seq.{drop-append_seam, take-length}
use Rattle.std.proofs.lemmas.List.{append-nil, drop-append-le, drop-map, length-drop, length-take-le, map-append, map_more, take-append-drop, take-append-le, take-map, take_all}
use Rattle.std.proofs.lemmas.List.Elements.{filter-append}
use Rattle.std.proofs.lemmas.Option.{slice_get_past}
use Rattle.std.specs.List.{AllByRecursion, filter, slice_get}
use Rattle.std.specs.Option.{unwrap_or}
use Rattle.warc_reading.specs.Archive.{contents}
use Rattle.warc_reading.specs.Row.{Placed}
use Rattle.warc_record.specs.Findings.{SeenFinding, Absent, Forbidden, Repeated, Digest, SegmentNumber, IdUsed, NoContentType, Profile, NotUtf8, BareId, NoOrigin, Empty, once, plain_seen}
use Rattle.warc_record.specs.declared.finding_sink.PlainFinding.{PlainFinding}
use Rattle.warc_checking.specs.Checking.{about_record, line_text}
use Rattle.warc_checking.specs.Lines.{record_lines}
use Rattle.warc_checking.specs.Judged.{own_findings}
use Rattle.warc_checking.specs.OwnFindings.{AreEnds, AreEndsFrom, AreNamed, IsNamed, IsPart, IsWithoutDigest, all_found, all_of, bad_at, each_with, found_at, found_by_part, found_from, found_with, finding_in, findings_of_part, is_between, is_higher, is_lower, last_end, mark_at, marked, state_by, unjudged, with_bad, with_both, with_digest}
use Rattle.warc_checking.specs.declared.digest_state.DigestState.{DigestState}
use Rattle.warc_checking.specs.declared.digest_state.DigestState.TheVariants.{Outside, Unmarked, Marked}
use Rattle.warc_checking.specs.declared.finding_list.ListPart.{ListPart}
use Rattle.warc_checking.specs.declared.finding_list.PackedFinding.{PackedFinding}
use Rattle.warc_checking.specs.declared.finding_list.PackedFinding.TheVariants as packed
use Rattle.warc_checking.proofs.CheckLemmas.{text_append}

-- a part of a list stays when more follow
pub slice_front : {X : Type 0} (a b : ℕ) (xs more : List X) → a ≤ b → b ≤ length xs → slice_range (xs ++ more) a b ≡ slice_range xs a b
slice_front a b xs more order le =
    ap (take (b - a)) (drop-append-le a xs more (omega (arith, order, le)))
    ∙ take-append-le (b - a) (drop a xs) more (omega (arith, length-drop a xs, order, le))

-- what is after a list
pub slice_after : {X : Type 0} (a b : ℕ) (xs ys : List X) → a ≡ length xs → b ≡ length (xs ++ ys) → slice_range (xs ++ ys) a b ≡ ys
slice_after a b xs ys start end =
    ap (λ n. take (b - n) (drop n (xs ++ ys))) start ∙ ap (take (b - length xs)) (drop-append_seam xs ys)
    ∙ take_all (b - length xs) ys (omega (arith, end, length-append xs ys))

module _ {X : Type 0} (P : X → Type 0) where
  pub all_more : (xs : List X) (x : X) → AllByRecursion P xs → P x → AllByRecursion P (xs ++ x ∷ [])
  all_more [] x all is = (is, tt)
  all_more (y ∷ ys) x (here, all) is = (here, all_more ys x all is)

  pub all_take : (n : ℕ) (xs : List X) → AllByRecursion P xs → AllByRecursion P (take n xs)
  all_take zero [] all = tt
  all_take zero (x ∷ xs) all = tt
  all_take (suc n) [] all = tt
  all_take (suc n) (x ∷ xs) (here, all) = (here, all_take n xs all)

  all_drop : (n : ℕ) (xs : List X) → AllByRecursion P xs → AllByRecursion P (drop n xs)
  all_drop zero [] all = tt
  all_drop zero (x ∷ xs) all = all
  all_drop (suc n) [] all = tt
  all_drop (suc n) (x ∷ xs) (here, all) = all_drop n xs all

  pub all_part : (a b : ℕ) (xs : List X) → AllByRecursion P xs → AllByRecursion P (slice_range xs a b)
  all_part a b xs all = all_take (b - a) (drop a xs) (all_drop a xs all)

  pub all_at : (xs : List X) (i : ℕ) (d : X) → AllByRecursion P xs → i < length xs → P (get_or xs i d)
  all_at [] i d all lt = absurd (omega (arith, lt))
  all_at (x ∷ xs) zero d (here, all) lt = here
  all_at (x ∷ xs) (suc i) d (here, all) lt = all_at xs i d all (omega (arith, lt))

-- a packed finding stays when more names follow
one_stays : (names more : List ℕ) (n : PackedFinding) → IsNamed (length names) n → finding_in (names ++ more) n ≡ finding_in names n
one_stays names more (packed.Plain found) is = refl
one_stays names more (packed.NotUtf8 name) is = ap (λ l. NotUtf8 l) (slice_front name.start name.end names more is.order is.end)

found_stays : (names more : List ℕ) (ns : List PackedFinding) → AreNamed (length names) ns → all_found (names ++ more) ns ≡ all_found names ns
found_stays names more [] all = refl
found_stays names more (n ∷ ns) (here, all) =
    ap (λ f. f ∷ all_found (names ++ more) ns) (one_stays names more n here)
    ∙ ap (λ l. finding_in names n ∷ l) (found_stays names more ns all)

one_longer : (a b : ℕ) (n : PackedFinding) → a ≤ b → IsNamed a n → IsNamed b n
one_longer a b (packed.Plain found) le is = tt
one_longer a b (packed.NotUtf8 name) le is = record { order = is.order; end = omega (arith, is.end, le) }

named_longer : (a b : ℕ) (ns : List PackedFinding) → a ≤ b → AreNamed a ns → AreNamed b ns
named_longer a b [] le all = tt
named_longer a b (n ∷ ns) le (here, all) = (one_longer a b n le here, named_longer a b ns le all)

-- one more packed finding, whose name comes after the others
module _ (names new name : List ℕ) (ns : List PackedFinding) (p : ListPart) (names_is : new ≡ names ++ name) (start : p.start ≡ length names) (end : p.end ≡ length new) (named : AreNamed (length names) ns) where
  longer : length new ≡ length names + length name
  longer = ap length names_is ∙ length-append names name

  pub packed_named : AreNamed (length new) (ns ++ packed.NotUtf8 p ∷ [])
  packed_named =
      all_more (IsNamed (length new)) ns (packed.NotUtf8 p) (named_longer (length names) (length new) ns (omega (arith, longer)) named)
      (record { order = omega (arith, start, end, longer); end = omega (arith, end) })

  packed_name : slice_range new p.start p.end ≡ name
  packed_name = ap (λ l. slice_range l p.start p.end) names_is ∙ slice_after p.start p.end names name start (end ∙ ap length names_is)

  pub packed_more : all_found new (ns ++ packed.NotUtf8 p ∷ []) ≡ all_found names ns ++ NotUtf8 name ∷ []
  packed_more =
      map-append (finding_in new) ns (packed.NotUtf8 p ∷ [])
      ∙ ap (λ l. l ++ finding_in new (packed.NotUtf8 p) ∷ []) (ap (λ l. all_found l ns) names_is ∙ found_stays names name ns named)
      ∙ ap (λ l. all_found names ns ++ NotUtf8 l ∷ []) packed_name

-- one more packed finding that holds no text
pub plain_named : (count : ℕ) (ns : List PackedFinding) (found : PlainFinding) → AreNamed count ns → AreNamed count (ns ++ packed.Plain found ∷ [])
plain_named count ns found named = all_more (IsNamed count) ns (packed.Plain found) named tt

pub plain_more : (names : List ℕ) (ns : List PackedFinding) (found : PlainFinding) → all_found names (ns ++ packed.Plain found ∷ []) ≡ all_found names ns ++ plain_seen found ∷ []
plain_more names ns found = map-append (finding_in names) ns (packed.Plain found ∷ [])

-- the last part begins after the start, and is within the findings
ends_within : (count start : ℕ) (ends : List ℕ) → AreEndsFrom count start ends → (start ≤ last_end start ends) × (last_end start ends ≤ count)
ends_within count start [] all = (omega arith, all)
ends_within count start (e ∷ es) (here, all) =
    let (order, end) = ends_within count e es all in (omega (arith, here, order), end)

-- parts are parts of as many findings as they reach
ends_reach : (count n start : ℕ) (ends : List ℕ) → last_end start ends ≤ n → AreEndsFrom count start ends → AreEndsFrom n start ends
ends_reach count n start [] le all = le
ends_reach count n start (e ∷ es) le (here, all) = (here, ends_reach count n e es le all)

-- more findings change no part
parts_stay : (findings more : List SeenFinding) (start : ℕ) (ends : List ℕ) → AreEndsFrom (length findings) start ends
    → found_from (findings ++ more) start ends ≡ found_from findings start ends
parts_stay findings more start [] all = refl
parts_stay findings more start (e ∷ es) (here, all) =
    let (order, end) = ends_within (length findings) e es all in
    ap (λ f. f ∷ found_from (findings ++ more) e es) (slice_front start e findings more here (omega (arith, order, end)))
    ∙ ap (λ l. slice_range findings start e ∷ l) (parts_stay findings more e es all)

-- more findings, in no part
parts_kept : (findings new more : List SeenFinding) (ends : List ℕ) → new ≡ findings ++ more → AreEnds (length findings) ends
    → AreEnds (length new) ends × (found_by_part new ends ≡ found_by_part findings ends)
parts_kept findings new more ends is all =
    let (order, end) = ends_within (length findings) 0 ends all in
    let size : length new ≡ length findings + length more = ap length is ∙ length-append findings more in (
      ends_reach (length findings) (length new) 0 ends (omega (arith, end, size)) all,
      ap (λ l. found_by_part l ends) is ∙ parts_stay findings more 0 ends all,
    )

-- the findings in no part are forgotten
pub rest_forgotten : (findings new : List SeenFinding) (ends : List ℕ) (end : ℕ) → end ≡ last_end 0 (take (length ends) ends) → new ≡ take end findings
    → AreEnds (length findings) ends
    → (length new ≡ last_end 0 ends) × AreEnds (length new) ends × (found_by_part new ends ≡ found_by_part findings ends)
rest_forgotten findings new ends end end_is is all =
    let last : end ≡ last_end 0 ends = end_is ∙ ap (last_end 0) (take-length ends) in
    let (order, within) = ends_within (length findings) 0 ends all in
    let size : length new ≡ end = ap length is ∙ length-take-le end findings (omega (arith, last, within)) in
    let kept = ends_reach (length findings) (length new) 0 ends (omega (arith, size, last)) all in
    let whole : new ++ drop end findings ≡ findings = ap (λ l. l ++ drop end findings) is ∙ take-append-drop end findings in (
      size ∙ last,
      kept,
      sym (parts_stay new (drop end findings) 0 ends kept) ∙ ap (λ l. found_by_part l ends) whole,
    )

ends_more : (count start : ℕ) (ends : List ℕ) (end : ℕ) → last_end start ends ≤ end → end ≤ count → AreEndsFrom count start ends
    → AreEndsFrom count start (ends ++ end ∷ [])
ends_more count start [] end from to all = (from, to)
ends_more count start (e ∷ es) end from to (here, all) = (here, ends_more count e es end from to all)

found_more_from : (findings : List SeenFinding) (start : ℕ) (ends : List ℕ) (end : ℕ)
    → found_from findings start (ends ++ end ∷ []) ≡ found_from findings start ends ++ slice_range findings (last_end start ends) end ∷ []
found_more_from findings start [] end = refl
found_more_from findings start (e ∷ es) end = ap (λ l. slice_range findings start e ∷ l) (found_more_from findings e es end)

-- one more part, of all findings after the others
part_more : (findings new more : List SeenFinding) (ends : List ℕ) (end : ℕ) → new ≡ findings ++ more → length findings ≡ last_end 0 ends → end ≡ length new → AreEnds (length findings) ends
    → AreEnds (length new) (ends ++ end ∷ []) × (found_by_part new (ends ++ end ∷ []) ≡ found_by_part findings ends ++ more ∷ [])
part_more findings new more ends end is start end_is all =
    let (within, same) = parts_kept findings new more ends is all in
    let size : length new ≡ length findings + length more = ap length is ∙ length-append findings more in
    let here : slice_range new (last_end 0 ends) end ≡ more =
    ap (λ l. slice_range l (last_end 0 ends) end) is ∙ slice_after (last_end 0 ends) end findings more (sym start) (end_is ∙ ap length is) in (
      ends_more (length new) 0 ends end (omega (arith, start, end_is, size)) (omega (arith, end_is)) within,
      found_more_from new 0 ends end ∙ ap (λ l. l ++ slice_range new (last_end 0 ends) end ∷ []) same
          ∙ ap (λ f. found_by_part findings ends ++ f ∷ []) here,
    )

-- the findings in no part were forgotten, and more are added: they are in no part, or in one more
module _ (slice ends : List ℕ) (old findings new more : List SeenFinding) (named : slice ≡ ends)
    (last : length findings ≡ last_end 0 slice) (all : AreEnds (length findings) slice)
    (kept : found_by_part findings slice ≡ found_by_part old slice) (is : new ≡ findings ++ more) where
  within : AreEnds (length findings) ends
  within = let P : List ℕ → Type 0 = λ l. AreEnds (length findings) l in subst P named all

  before : found_by_part findings ends ≡ found_by_part old ends
  before = let P : List ℕ → Type 0 = λ l. found_by_part findings l ≡ found_by_part old l in subst P named kept

  pub part_refused : AreEnds (length new) ends × (found_by_part new ends ≡ found_by_part old ends)
  part_refused = let (kept_within, same) = parts_kept findings new more ends is within in (kept_within, same ∙ before)

  pub part_added : (end : ℕ) → end ≡ length new
      → AreEnds (length new) (ends ++ end ∷ []) × (found_by_part new (ends ++ end ∷ []) ≡ found_by_part old ends ++ more ∷ [])
  part_added end end_is =
      let (more_within, same) = part_more findings new more ends end is (last ∙ ap (last_end 0) named) end_is within in
      (more_within, same ∙ ap (λ l. l ++ more ∷ []) before)

-- the part at a place
last_before : (start : ℕ) (ends : List ℕ) (i d : ℕ) → i < length ends → last_end start (take (suc i) ends) ≡ get_or ends i d
last_before start [] i d lt = absurd (omega (arith, lt))
last_before start (e ∷ []) zero d lt = refl
last_before start (e ∷ x ∷ es) zero d lt = refl
last_before start (e ∷ es) (suc i) d lt = last_before e es i d (omega (arith, lt))

pub end_is : (ends : List ℕ) (i d : ℕ) → 0 < i → i ≤ length ends → get_or ends (i - 1) d ≡ last_end 0 (take i ends)
end_is ends zero d some le = absurd (omega (arith, some))
end_is ends (suc i) d some le =
    let same : suc i - 1 ≡ i = omega arith in
    ap (λ n. get_or ends n d) same ∙ sym (last_before 0 ends i d (omega (arith, le)))

part_from : (findings : List SeenFinding) (start : ℕ) (ends : List ℕ) (i d : ℕ) → i < length ends
    → slice_get (found_from findings start ends) i ≡ Some (slice_range findings (last_end start (take i ends)) (get_or ends i d))
part_from findings start [] i d lt = absurd (omega (arith, lt))
part_from findings start (e ∷ es) zero d lt = refl
part_from findings start (e ∷ es) (suc i) d lt = part_from findings e es i d (omega (arith, lt))

pub part_found_at : (findings : List SeenFinding) (ends : List ℕ) (i d : ℕ) (p : ListPart) → i < length ends
    → p.start ≡ last_end 0 (take i ends) → p.end ≡ get_or ends i d → findings_of_part findings p ≡ found_at (found_by_part findings ends) i
part_found_at findings ends i d p lt start end =
    ap (λ n. slice_range findings n p.end) start ∙ ap (slice_range findings (last_end 0 (take i ends))) end
    ∙ sym (ap (λ o. unwrap_or o []) (part_from findings 0 ends i d lt))

part_within_from : (count start : ℕ) (ends : List ℕ) (i d : ℕ) → i < length ends → AreEndsFrom count start ends
    → (last_end start (take i ends) ≤ get_or ends i d) × (get_or ends i d ≤ count)
part_within_from count start [] i d lt all = absurd (omega (arith, lt))
part_within_from count start (e ∷ es) zero d lt (here, all) =
    let (order, end) = ends_within count e es all in (here, omega (arith, order, end))
part_within_from count start (e ∷ es) (suc i) d lt (here, all) = part_within_from count e es i d (omega (arith, lt)) all

pub part_within : (count : ℕ) (ends : List ℕ) (i d : ℕ) (p : ListPart) → i < length ends
    → p.start ≡ last_end 0 (take i ends) → p.end ≡ get_or ends i d → AreEnds count ends → IsPart count p
part_within count ends i d p lt start end all =
    let (order, within) = part_within_from count 0 ends i d lt all in
    record { order = omega (arith, start, end, order); end = omega (arith, end, within) }

found_len : (findings : List SeenFinding) (start : ℕ) (ends : List ℕ) → length (found_from findings start ends) ≡ length ends
found_len findings start [] = refl
found_len findings start (e ∷ es) = ap (λ n. suc n) (found_len findings e es)

-- past the end there is none
pub none_found_at : (findings : List SeenFinding) (ends : List ℕ) (i : ℕ) → length ends ≤ i → found_at (found_by_part findings ends) i ≡ []
none_found_at findings ends i past =
    ap (λ o. unwrap_or o []) (slice_get_past (found_by_part findings ends) i (omega (arith, past, found_len findings 0 ends)))

-- the first parts
pub ends_first : (n count start : ℕ) (ends : List ℕ) → AreEndsFrom count start ends → AreEndsFrom count start (take n ends)
ends_first zero count start [] all = all
ends_first zero count start (e ∷ es) all = let (order, end) = ends_within count start (e ∷ es) all in omega (arith, order, end)
ends_first (suc n) count start [] all = all
ends_first (suc n) count start (e ∷ es) (here, all) = (here, ends_first n count e es all)

pub found_first : (findings : List SeenFinding) (n start : ℕ) (ends : List ℕ)
    → found_from findings start (take n ends) ≡ take n (found_from findings start ends)
found_first findings zero start [] = refl
found_first findings zero start (e ∷ es) = refl
found_first findings (suc n) start [] = refl
found_first findings (suc n) start (e ∷ es) = ap (λ l. slice_range findings start e ∷ l) (found_first findings n e es)

-- the findings of one more record
pub own_more : (records : List Placed) (p : Placed) → map own_findings (contents records) ++ own_findings p.content ∷ [] ≡ map own_findings (contents (records ++ p ∷ []))
own_more records p = sym (ap (map own_findings) (map-append (λ (q : Placed). q.content) records (p ∷ [])) ∙ map-append own_findings (contents records) (p.content ∷ []))

pub own_first : (n : ℕ) (records : List Placed) → take n (map own_findings (contents records)) ≡ map own_findings (contents (take n records))
own_first n records = take-map own_findings n (contents records) ∙ ap (map own_findings) (take-map (λ (q : Placed). q.content) n records)

-- what one more record shows whose digest isn't known to differ
pub unjudged_more : (records : List Placed) (p : Placed) → map unjudged (contents records) ++ unjudged p.content ∷ [] ≡ map unjudged (contents (records ++ p ∷ []))
unjudged_more records p = sym (ap (map unjudged) (map-append (λ (q : Placed). q.content) records (p ∷ [])) ∙ map-append unjudged (contents records) (p.content ∷ []))

pub unjudged_first : (n : ℕ) (records : List Placed) → take n (map unjudged (contents records)) ≡ map unjudged (contents (take n records))
unjudged_first n records = take-map unjudged n (contents records) ∙ ap (map unjudged) (take-map (λ (q : Placed). q.content) n records)

module _ {X : Type 0} (seen : X → SeenFinding) (test : SeenFinding → Bool) where
  -- the lines of one more finding, if it passes
  pub reported_more : (position : ℕ) (xs : List X) (i : ℕ) (d : X) (output : List ℕ) → i < length xs
      → (output ++ record_lines position (filter test (map seen (take i xs)))) ++ record_lines position (filter test (seen (get_or xs i d) ∷ []))
      ≡ output ++ record_lines position (filter test (map seen (take (i + 1) xs)))
  reported_more position xs i d output lt =
      let so_far = filter test (map seen (take i xs)) in
      let one = filter test (seen (get_or xs i d) ∷ []) in
      let more : filter test (map seen (take (i + 1) xs)) ≡ so_far ++ one = ap (filter test) (map_more seen xs i d lt) ∙ filter-append test (map seen (take i xs)) (seen (get_or xs i d) ∷ []) in
      append_assoc output (record_lines position so_far) (record_lines position one)
      ∙ ap (λ l. output ++ l) (sym (text_append position so_far one) ∙ ap (record_lines position) (sym more))

  -- the lines so far, and the others
  pub reported_rest : (position : ℕ) (xs : List X) (i : ℕ) (output : List ℕ)
      → (output ++ record_lines position (filter test (map seen (take i xs)))) ++ record_lines position (filter test (map seen (drop i xs))) ≡ output ++ record_lines position (filter test (map seen xs))
  reported_rest position xs i output =
      let so_far = filter test (map seen (take i xs)) in
      let rest = filter test (map seen (drop i xs)) in
      append_assoc output (record_lines position so_far) (record_lines position rest)
      ∙ ap (λ l. output ++ l) (sym (text_append position so_far rest)
      ∙ ap (record_lines position) (sym (filter-append test (map seen (take i xs)) (map seen (drop i xs))) ∙ ap (filter test) (sym (map-append seen (take i xs) (drop i xs)) ∙ ap (map seen) (take-append-drop i xs))))

-- three texts of a record, one after another
pub two_texts : (position : ℕ) (a b : List SeenFinding) (output : List ℕ) → (output ++ record_lines position a) ++ record_lines position b ≡ output ++ record_lines position (a ++ b)
two_texts position a b output = append_assoc output (record_lines position a) (record_lines position b) ∙ ap (λ l. output ++ l) (sym (text_append position a b))

pub three_texts : (position : ℕ) (a b c : List SeenFinding) (output : List ℕ) → ((output ++ record_lines position a) ++ record_lines position b) ++ record_lines position c ≡ output ++ record_lines position (a ++ b ++ c)
three_texts position a b c output = ap (λ l. l ++ record_lines position c) (two_texts position a b output) ∙ two_texts position (a ++ b) c output

pub last_texts : (position : ℕ) (a b c : List SeenFinding) (output : List ℕ) → (output ++ record_lines position a) ++ record_lines position (b ++ c) ≡ output ++ record_lines position (a ++ b ++ c)
last_texts position a b c output = two_texts position a (b ++ c) output ∙ ap (λ l. output ++ record_lines position l) (sym (append_assoc a b c))

-- the findings of a part of the packed ones
pub part_found : (names : List ℕ) (findings : List PackedFinding) (p : ListPart) → all_found names (slice_range findings p.start p.end) ≡ findings_of_part (all_found names findings) p
part_found names findings p =
    sym (ap (take (p.end - p.start)) (drop-map (finding_in names) p.start findings) ∙ take-map (finding_in names) (p.end - p.start) (drop p.start findings))

pub part_len : (findings : List SeenFinding) (p : ListPart) → IsPart (length findings) p → p.end - p.start ≡ length (findings_of_part findings p)
part_len findings p is = sym (length-take-le (p.end - p.start) (drop p.start findings) (omega (arith, length-drop p.start findings, is.order, is.end)))

-- the line of a finding, if it holds
pub once_line : (position : ℕ) (f : SeenFinding) (holds : Bool) → holds ≡ true → line_text (about_record position f) ≡ record_lines position (once f holds)
once_line position f true is = sym (append-nil (line_text (about_record position f)))
once_line position f false is = absurd (cc is)

-- a part that is within, whatever the ends are called
pub part_is : (count : ℕ) (ends slice : List ℕ) (p : ListPart) → slice ≡ ends → ((n : ℕ) → AreEnds n slice → IsPart n p) → AreEnds count ends → IsPart count p
part_is count ends slice p same within all = let P : List ℕ → Type 0 = λ l. AreEnds count l in within count (subst P (sym same) all)

-- N4 and N6 are put among the others by three ranges of numbers
twice : {X : Type 0} (p q r : X → Bool) (xs : List X) → ((x : X) → r x ≡ (q x && p x)) → filter p (filter q xs) ≡ filter r xs
twice p q r [] same = refl
twice p q r (x ∷ xs) same = grind (arith, same x, twice p q r xs same)

none_twice : {X : Type 0} (p q : X → Bool) (xs : List X) → ((x : X) → (q x && p x) ≡ false) → filter p (filter q xs) ≡ []
none_twice p q [] none = refl
none_twice p q (x ∷ xs) none = grind (arith, none x, none_twice p q xs none)

abbrev AreRanges : SeenFinding → Type 0
AreRanges f =
    (is_between 0 4 f ≡ (is_lower Digest f && is_lower IdUsed f)) × (is_between 4 6 f ≡ (is_higher Digest f && is_lower IdUsed f))
    × ((is_lower Digest f && is_higher IdUsed f) ≡ false) × (is_between 6 255 f ≡ (is_higher Digest f && is_higher IdUsed f))

ranges : (f : SeenFinding) → AreRanges f
ranges (Absent name) = (refl, refl, refl, refl)
ranges (Forbidden name) = (refl, refl, refl, refl)
ranges (Repeated name) = (refl, refl, refl, refl)
ranges Digest = (refl, refl, refl, refl)
ranges SegmentNumber = (refl, refl, refl, refl)
ranges IdUsed = (refl, refl, refl, refl)
ranges NoContentType = (refl, refl, refl, refl)
ranges Profile = (refl, refl, refl, refl)
ranges (NotUtf8 name) = (refl, refl, refl, refl)
ranges BareId = (refl, refl, refl, refl)
ranges NoOrigin = (refl, refl, refl, refl)
ranges Empty = (refl, refl, refl, refl)

three_filtered : (test : SeenFinding → Bool) (a b c x y z : List SeenFinding) → filter test a ≡ x → filter test b ≡ y → filter test c ≡ z → filter test (a ++ b ++ c) ≡ x ++ y ++ z
three_filtered test a b c x y z ia ib ic =
    filter-append test (a ++ b) c ∙ ap (λ l. l ++ filter test c) (filter-append test a b)
    ∙ ap (λ l. l ++ filter test b ++ filter test c) ia ∙ ap (λ l. x ++ l ++ filter test c) ib ∙ ap (λ l. x ++ y ++ l) ic

digest_stays : (bad : Bool) → filter (is_lower IdUsed) (once Digest bad) ≡ once Digest bad
digest_stays true = refl
digest_stays false = refl

digest_goes : (bad : Bool) → filter (is_higher IdUsed) (once Digest bad) ≡ []
digest_goes true = refl
digest_goes false = refl

parts_of_five : (a b c d e : List SeenFinding) → (a ++ b) ++ (c ++ d) ++ e ≡ (a ++ b ++ c) ++ d ++ e
parts_of_five a b c d e = simp append_assoc

pub both_parts : (o : List SeenFinding) (bad used : Bool)
    → (filter (is_between 0 4) o ++ once Digest bad) ++ (filter (is_between 4 6) o ++ once IdUsed used) ++ filter (is_between 6 255) o ≡ with_both o bad used
both_parts o bad used =
    let first = filter (is_between 0 4) o in
    let second = filter (is_between 4 6) o in
    let last = filter (is_between 6 255) o in
    let below = filter (is_lower Digest) o in
    let above = filter (is_higher Digest) o in
    let front : filter (is_lower IdUsed) (with_digest o bad) ≡ first ++ once Digest bad ++ second =
    three_filtered (is_lower IdUsed) below (once Digest bad) above first (once Digest bad) second
    (twice (is_lower IdUsed) (is_lower Digest) (is_between 0 4) o (λ f. (ranges f).0)) (digest_stays bad)
    (twice (is_lower IdUsed) (is_higher Digest) (is_between 4 6) o (λ f. (ranges f).1)) in
    let back : filter (is_higher IdUsed) (with_digest o bad) ≡ last =
    three_filtered (is_higher IdUsed) below (once Digest bad) above [] [] last
    (none_twice (is_higher IdUsed) (is_lower Digest) o (λ f. (ranges f).2)) (digest_goes bad)
    (twice (is_higher IdUsed) (is_higher Digest) (is_between 6 255) o (λ f. (ranges f).3)) in
    parts_of_five first (once Digest bad) second (once IdUsed used) last ∙ ap (λ l. l ++ once IdUsed used ++ last) (sym front)
    ∙ ap (λ l. filter (is_lower IdUsed) (with_digest o bad) ++ once IdUsed used ++ l) (sym back)

pub both_lines : (position : ℕ) (o : List SeenFinding) (bad used : Bool) (output : List ℕ)
    → ((output ++ record_lines position (filter (is_between 0 4) o ++ once Digest bad)) ++ record_lines position (filter (is_between 4 6) o ++ once IdUsed used)) ++ record_lines position (filter (is_between 6 255) o)
    ≡ output ++ record_lines position (with_both o bad used)
both_lines position o bad used output =
    three_texts position (filter (is_between 0 4) o ++ once Digest bad) (filter (is_between 4 6) o ++ once IdUsed used) (filter (is_between 6 255) o) output
    ∙ ap (λ l. output ++ record_lines position l) (both_parts o bad used)

-- how many they are with N4
pub digest_len : (found : List SeenFinding) (bad : Bool) → IsWithoutDigest found → length (with_digest found bad) ≡ length found + (if bad then 1 else 0)
digest_len found true is =
    let a = filter (is_lower Digest) found in
    let b = filter (is_higher Digest) found in
    let whole : length (with_digest found true) ≡ length (a ++ Digest ∷ []) + length b = length-append (a ++ Digest ∷ []) b in
    let rest : length (with_digest found false) ≡ length (a ++ []) + length b = length-append (a ++ []) b in
    let one : length (a ++ Digest ∷ []) ≡ length a + 1 = length-append a (Digest ∷ []) in
    let none : length (a ++ []) ≡ length a + 0 = length-append a [] in
    omega (arith, whole, rest, one, none, ap length is)
digest_len found false is = ap length is ∙ omega arith

-- the other findings of records, and what is kept of N4
pub each_more : (others : List (List SeenFinding)) (states : List DigestState) (o : List SeenFinding) (s : DigestState) → length others ≡ length states
    → each_with (others ++ o ∷ []) (states ++ s ∷ []) ≡ each_with others states ++ found_with o s ∷ []
each_more [] [] o s same = refl
each_more [] (x ∷ xs) o s same = absurd (omega (arith, same))
each_more (x ∷ xs) [] o s same = absurd (omega (arith, same))
each_more (x ∷ xs) (y ∷ ys) o s same = ap (λ l. found_with x y ∷ l) (each_more xs ys o s (omega (arith, same)))

pub each_len : (others : List (List SeenFinding)) (states : List DigestState) → length others ≡ length states → length (each_with others states) ≡ length states
each_len [] [] same = refl
each_len [] (x ∷ xs) same = absurd (omega (arith, same))
each_len (x ∷ xs) [] same = absurd (omega (arith, same))
each_len (x ∷ xs) (y ∷ ys) same = ap (λ n. suc n) (each_len xs ys (omega (arith, same)))

pub each_first : (n : ℕ) (others : List (List SeenFinding)) (states : List DigestState) → each_with (take n others) (take n states) ≡ take n (each_with others states)
each_first zero [] states = refl
each_first zero (x ∷ xs) [] = refl
each_first zero (x ∷ xs) (y ∷ ys) = refl
each_first (suc n) [] states = refl
each_first (suc n) (x ∷ xs) [] = refl
each_first (suc n) (x ∷ xs) (y ∷ ys) = ap (λ l. found_with x y ∷ l) (each_first n xs ys)

one_marked : (o : List SeenFinding) (s : DigestState) → found_with o (marked s) ≡ with_bad (found_with o s)
one_marked o Outside = refl
one_marked o Unmarked = refl
one_marked o Marked = refl

pub each_marked : (others : List (List SeenFinding)) (states : List DigestState) (i : ℕ) (d : DigestState) → length others ≡ length states
    → each_with others (set states i (marked (get_or states i d))) ≡ mark_at (each_with others states) i
each_marked [] [] i d same = refl
each_marked [] (y ∷ ys) i d same = absurd (omega (arith, same))
each_marked (x ∷ xs) [] i d same = absurd (omega (arith, same))
each_marked (x ∷ xs) (y ∷ ys) zero d same = ap (λ f. f ∷ each_with xs ys) (one_marked x y)
each_marked (x ∷ xs) (y ∷ ys) (suc i) d same = ap (λ l. found_with x y ∷ l) (each_marked xs ys i d (omega (arith, same)))

pub each_at : (others : List (List SeenFinding)) (states : List DigestState) (i : ℕ) → length others ≡ length states
    → found_at (map all_of (each_with others states)) i ≡ with_digest (found_at others i) (bad_at states i)
each_at [] [] i same = refl
each_at [] (y ∷ ys) i same = absurd (omega (arith, same))
each_at (x ∷ xs) [] i same = absurd (omega (arith, same))
each_at (x ∷ xs) (y ∷ ys) zero same = refl
each_at (x ∷ xs) (y ∷ ys) (suc i) same = each_at xs ys i (omega (arith, same))

-- none of them has N4
pub without_at : (others : List (List SeenFinding)) (i : ℕ) → AllByRecursion IsWithoutDigest others → IsWithoutDigest (found_at others i)
without_at [] i all = refl
without_at (x ∷ xs) zero (here, all) = here
without_at (x ∷ xs) (suc i) (here, all) = without_at xs i all

-- what is kept of a record of which nothing is known but its fields
pub state_shown : (o : List SeenFinding) (known : Bool) → found_with o (state_by known) ≡ record { others = o; known = known; bad = false }
state_shown o true = refl
state_shown o false = refl

-- The first and the last of dated rows, and the lines of a summary.
use Rattle.std.proofs.Common.{◌≡◌, ℕ, ◌+◌, ◌<◌, ◌≤◌, Bool, true, false, not, List, [], ◌∷◌, ◌++◌, length, map, Option, None, Some, if◌then◌else◌, codes, option_map, Result, Ok, Err, OnOk, refl, sym, ap, ap₂, subst, ◌∙◌, arith, ⊎_elim, append_assoc, true≢false, get_or}
use Rattle.std.proofs.lemmas.Bool.{cases_lt}
use Rattle.std.proofs.lemmas.Bool.Decides.{nat_tests}
use Rattle.std.proofs.lemmas.Option.{slice_get_within, slice_get-get_or}
use Rattle.std.proofs.lemmas.List.{map-append}
use Rattle.std.specs.List.{concat, flat_map, slice_get}
use Rattle.std.specs.Option.{option_map_or}
use Rattle.warc_field.specs.Area.{Pair}
use Rattle.warc_field.specs.Decimal.{decimal_of}
use Rattle.warc_frame.specs.Names.{warc_segment_number}
use Rattle.warc_quick.specs.Quick.{AreAlone}
use Rattle.warc_record.specs.Readings.{SegmentReading, present_value, segment_number}
use Rattle.warc_record.specs.declared.readings.SegmentNumber.TheVariants.{Absent, Number, Bad}
use Rattle.warc_value.specs.declared.hash.Verdict.{Verdict}
use Rattle.warc_value.specs.Dates.{Instant, is_before}
use Rattle.warc_index.specs.Captures.{is_earlier}
use Rattle.warc_reading.specs.Row.{Placed, Row}
use Rattle.warc_judged.specs.Fixity.{stated_on}
use Rattle.warc_judged.specs.Summary.{Flags, IsEndRow, has_segment_number, is_numbered, instant_at, is_nearer, number_line, shown_date, summary_numbers, summary_text, text_line}
use Rattle.warc_judged.specs.Tallies.{IsEndSoFar, IsEndUpTo, nearest}
use Rattle.warc_judged.specs.declared.tally.Dated.{Dated}
use Rattle.warc_judged.specs.declared.tally.End.{End}
use Rattle.warc_judged.specs.declared.summary.Summary.{Summary}
use Rattle.warc_judged.specs.declared.tally.End.TheVariants.{First, Last}

-- ---- the order of instants

chain_before : (a b c : Instant) → is_before a b ≡ false → is_before b c ≡ false → is_before a c ≡ false
chain_before a b c e f = grind (arith, nat_tests)

chain : (a b c : Option Instant) → is_earlier a b ≡ false → is_earlier b c ≡ false → is_earlier a c ≡ false
chain a b None e f = refl
chain a None (Some c) e f = absurd (true≢false f)
chain None (Some b) (Some c) e f = absurd (true≢false e)
chain (Some a) (Some b) (Some c) e f = chain_before a b c e f

one_way_before : (a b : Instant) → is_before a b ≡ true → is_before b a ≡ false
one_way_before a b e = grind (arith, nat_tests)

one_way : (a b : Option Instant) → is_earlier a b ≡ true → is_earlier b a ≡ false
one_way a None e = absurd (true≢false (sym e))
one_way None (Some b) e = refl
one_way (Some a) (Some b) e = one_way_before a b e

itself_before : (a : Instant) → is_before a a ≡ false
itself_before a = grind (arith, nat_tests)

itself : (a : Option Instant) → is_earlier a a ≡ false
itself None = refl
itself (Some a) = itself_before a

-- earlier than one than which another isn't earlier
passes_before : (a b c : Instant) → is_before a b ≡ true → is_before c b ≡ false → is_before a c ≡ true
passes_before a b c e f = grind (arith, nat_tests)

passes : (a b c : Option Instant) → is_earlier a b ≡ true → is_earlier c b ≡ false → is_earlier a c ≡ true
passes a None c e f = absurd (true≢false (sym e))
passes a (Some b) None e f = absurd (true≢false f)
passes None (Some b) (Some c) e f = refl
passes (Some a) (Some b) (Some c) e f = passes_before a b c e f

-- ---- the row at an end

pub same_at : (rows : List Row) (q n : ℕ) (r row : Row) → q ≡ n → slice_get rows q ≡ Some r → slice_get rows n ≡ Some row → r ≡ row
same_at rows q n r row z e f = cc

not_earlier_at : (rows : List Row) (q n : ℕ) (r row : Row) → q ≡ n → slice_get rows q ≡ Some r → slice_get rows n ≡ Some row → (o : Option Instant) → is_earlier (instant_at row) o ≡ false → is_earlier (instant_at r) o ≡ false
not_earlier_at rows q n r row z e f o is = let same = same_at rows q n r row z e f in ap (λ (x : Row). is_earlier (instant_at x) o) same ∙ is

not_later_at : (rows : List Row) (q n : ℕ) (r row : Row) → q ≡ n → slice_get rows q ≡ Some r → slice_get rows n ≡ Some row → (o : Option Instant) → is_earlier o (instant_at row) ≡ false → is_earlier o (instant_at r) ≡ false
not_later_at rows q n r row z e f o is = let same = same_at rows q n r row z e f in ap (λ (x : Row). is_earlier o (instant_at x)) same ∙ is

earlier_at : (rows : List Row) (q n : ℕ) (r row : Row) → q ≡ n → slice_get rows q ≡ Some r → slice_get rows n ≡ Some row → (o : Option Instant) → is_earlier (instant_at row) o ≡ true → is_earlier (instant_at r) o ≡ true
earlier_at rows q n r row z e f o is = let same = same_at rows q n r row z e f in ap (λ (x : Row). is_earlier (instant_at x) o) same ∙ is

not_true : (b : Bool) → not b ≡ true → b ≡ false
not_true true e = absurd (true≢false (sym e))
not_true false e = refl

not_false : (b : Bool) → not b ≡ false → b ≡ true
not_false true e = refl
not_false false e = absurd (true≢false e)

module _ (rows : List Row) (row : Row) where
  pub end_begins : (end : End) → slice_get rows 0 ≡ Some row → IsEndUpTo end rows 1 0 row
  end_begins First at = record {
    at = at;
    low = omega arith;
    none = λ q r e lt. not_earlier_at rows q 0 r row (omega (arith, lt)) e at (instant_at row) (itself (instant_at row));
    before = λ q r e lt. absurd (omega (arith, lt));
  }
  end_begins Last at = record {
    at = at;
    low = omega arith;
    none = λ q r e lt. not_later_at rows q 0 r row (omega (arith, lt)) e at (instant_at row) (itself (instant_at row));
    following = λ q r e lt gt. absurd (omega (arith, lt, gt));
  }

  module _ (n p : ℕ) (best : Row) (at : slice_get rows n ≡ Some row) where
    pub end_moves : (end : End) → IsEndUpTo end rows n p best → is_nearer end (instant_at row) (instant_at best) ≡ true → IsEndUpTo end rows (n + 1) n row
    end_moves First is nearer = record {
      at = at;
      low = omega arith;
      none = λ q r e lt. ⊎_elim
          (λ l. one_way (instant_at row) (instant_at r) (passes (instant_at row) (instant_at best) (instant_at r) nearer (is.none q r e l)))
          (λ ge. not_earlier_at rows q n r row (omega (arith, lt, ge)) e at (instant_at row) (itself (instant_at row)))
          (cases_lt q n);
      before = λ q r e lt. passes (instant_at row) (instant_at best) (instant_at r) nearer (is.none q r e lt);
    }
    end_moves Last is nearer = record {
      at = at;
      low = omega arith;
      none = λ q r e lt. ⊎_elim
          (λ l. chain (instant_at row) (instant_at best) (instant_at r) (not_true _ nearer) (is.none q r e l))
          (λ ge. not_later_at rows q n r row (omega (arith, lt, ge)) e at (instant_at row) (itself (instant_at row)))
          (cases_lt q n);
      following = λ q r e lt gt. absurd (omega (arith, lt, gt));
    }

    pub end_stays : (end : End) → IsEndUpTo end rows n p best → is_nearer end (instant_at row) (instant_at best) ≡ false → IsEndUpTo end rows (n + 1) p best
    end_stays First is other = record {
      at = is.at;
      low = omega (arith, is.low);
      none = λ q r e lt. ⊎_elim
          (λ l. is.none q r e l)
          (λ ge. not_earlier_at rows q n r row (omega (arith, lt, ge)) e at (instant_at best) other)
          (cases_lt q n);
      before = is.before;
    }
    end_stays Last is other = record {
      at = is.at;
      low = omega (arith, is.low);
      none = λ q r e lt. ⊎_elim
          (λ l. is.none q r e l)
          (λ ge. not_later_at rows q n r row (omega (arith, lt, ge)) e at (instant_at best) (one_way (instant_at row) (instant_at best) (not_false _ other)))
          (cases_lt q n);
      following = λ q r e lt gt. ⊎_elim
          (λ l. is.following q r e l gt)
          (λ ge. earlier_at rows q n r row (omega (arith, lt, ge)) e at (instant_at best) (not_false _ other))
          (cases_lt q n);
    }

near_same : (end : End) (a b c d : Option Instant) → a ≡ b → c ≡ d → is_nearer end b d ≡ is_nearer end a c
near_same end a b c d same too = rw (same, too)

-- one turn: the nearer of the best so far and the next row
pub end_turns : (end : End) (rows : List Row) (row best : Row) (n : ℕ) (is_best is_next : Dated) → slice_get rows n ≡ Some row → is_next.position ≡ n → is_next.instant ≡ instant_at row
    → IsEndUpTo end rows n is_best.position best → is_best.instant ≡ instant_at best → (r : Dated) → r ≡ (if is_nearer end is_next.instant is_best.instant then is_next else is_best)
    → (found : Row) × IsEndUpTo end rows (n + 1) r.position found × (r.instant ≡ instant_at found)
end_turns end rows row best n is_best is_next at here dated is was r same =
    elim (is_nearer end is_next.instant is_best.instant) as (λ b. is_nearer end is_next.instant is_best.instant ≡ b → r ≡ (if b then is_next else is_best) → (found : Row) × IsEndUpTo end rows (n + 1) r.position found × (r.instant ≡ instant_at found)) [
      | true ↦ λ e q.
          let P : ℕ → Type 0 = λ p. IsEndUpTo end rows (n + 1) p row in
          (row, subst P (sym (ap (λ (d : Dated). d.position) q ∙ here)) (end_moves rows row n is_best.position best at end is (near_same end is_next.instant (instant_at row) is_best.instant (instant_at best) dated was ∙ e)), ap (λ (d : Dated). d.instant) q ∙ dated)
      | false ↦ λ e q.
          let P : ℕ → Type 0 = λ p. IsEndUpTo end rows (n + 1) p best in
          (best, subst P (sym (ap (λ (d : Dated). d.position) q)) (end_stays rows row n is_best.position best at end is (near_same end is_next.instant (instant_at row) is_best.instant (instant_at best) dated was ∙ e)), ap (λ (d : Dated). d.instant) q ∙ was)
    ] refl same

pub end_there : (end : End) (rows : List Row) (n p : ℕ) (row : Row) → IsEndUpTo end rows n p row → slice_get rows p ≡ Some row
end_there First rows n p row is = is.at
end_there Last rows n p row is = is.at

-- one turn, if there may be none so far
pub end_next : (end : End) (rows : List Row) (row : Row) (n : ℕ) (best : Option Dated) (next : Dated) → slice_get rows n ≡ Some row → next.position ≡ n → next.instant ≡ instant_at row
    → IsEndSoFar end rows n best → (r : Dated) → r ≡ nearest end best next → IsEndSoFar end rows (n + 1) (Some r)
end_next end rows row n None next at here dated none r same =
    let P : Dated → Type 0 = λ d. IsEndSoFar end rows (n + 1) (Some d) in
    let Q : ℕ → Type 0 = λ m. IsEndUpTo end rows (m + 1) m row in
    let first : slice_get rows 0 ≡ Some row = ap (slice_get rows) (sym none) ∙ at in
    let R : ℕ → Type 0 = λ m. IsEndUpTo end rows (n + 1) m row in
    subst P (sym same) (row, subst R (sym here) (subst Q (sym none) (end_begins rows row end first)), dated)
end_next end rows row n (Some best) next at here dated (found, is, was) r same =
    end_turns end rows row found n best next at here dated is was r same

pub is_there : {X : Type 0} (xs : List X) (i : ℕ) → i < length xs → slice_get xs i ≡ None → ⊥
is_there [] i lt e = absurd (omega (arith, lt))
is_there (x ∷ xs) i lt e = let some : slice_get (x ∷ xs) i ≡ Some (get_or (x ∷ xs) i x) = slice_get-get_or (x ∷ xs) i x lt in cc

pub end_whole : (end : End) (rows : List Row) (n p : ℕ) (row : Row) → length rows ≤ n → IsEndUpTo end rows n p row → IsEndRow end rows p row
end_whole First rows n p row past is = record {
  at = is.at;
  none = λ q r e. is.none q r e (omega (arith, past, slice_get_within rows q r e));
  before = is.before;
}
end_whole Last rows n p row past is = record {
  at = is.at;
  none = λ q r e. is.none q r e (omega (arith, past, slice_get_within rows q r e));
  following = λ q r e gt. is.following q r e (omega (arith, past, slice_get_within rows q r e)) gt;
}

pub empty_rows : (rows : List Row) → slice_get rows 0 ≡ None → rows ≡ []
empty_rows [] e = refl
empty_rows (r ∷ rs) e = cc

-- ---- the lines

pub flat : {X Y : Type 0} (line : Y → List ℕ) (seen : X → Y) (xs : List X) → concat (map (λ x. line (seen x)) xs) ≡ flat_map line (map seen xs)
flat line seen [] = refl
flat line seen (x ∷ xs) = ap (λ t. line (seen x) ++ t) (flat line seen xs)

parts_of : (s : Summary) → (flat_map number_line (summary_numbers s) ++ text_line (codes "first date") (shown_date (option_map (λ d. d.now) s.first_date)))
    ++ text_line (codes "last date") (shown_date (option_map (λ d. d.now) s.last_date)) ≡ summary_text s
unfolding summary_text
parts_of s = refl

-- all lines, of their three parts
module _ (s : Summary) (a b c : List ℕ) (is_a : a ≡ flat_map number_line (summary_numbers s))
    (is_b : b ≡ text_line (codes "first date") (shown_date (option_map (λ d. d.now) s.first_date))) (is_c : c ≡ text_line (codes "last date") (shown_date (option_map (λ d. d.now) s.last_date))) where
  pub lines_in_turn : (a ++ b) ++ c ≡ summary_text s
  lines_in_turn =
      ap (λ x. (x ++ b) ++ c) is_a ∙ ap (λ x. (flat_map number_line (summary_numbers s) ++ x) ++ c) is_b
      ∙ ap (λ x. (flat_map number_line (summary_numbers s) ++ text_line (codes "first date") (shown_date (option_map (λ d. d.now) s.first_date))) ++ x) is_c
      ∙ parts_of s

  pub all_lines_of : a ++ (b ++ c) ≡ summary_text s
  all_lines_of = sym (append_assoc a b c) ∙ lines_in_turn

-- ---- what is kept of a record that was read in place

never_absent : (number : Option ℕ) → option_map_or Number number Bad ≡ Absent → ⊥
never_absent None is = cc is
never_absent (Some n) is = cc is

not_numbered : (fields : List Pair) (value : Option (List ℕ)) → present_value warc_segment_number fields ≡ value → segment_number fields ≡ Absent
    → has_segment_number fields ≡ false
not_numbered fields None is none = rw is refl
not_numbered fields (Some text) is none =
    let same : segment_number fields ≡ option_map_or Number (decimal_of text) Bad = rw is refl in
    absurd (never_absent (decimal_of text) (sym same ∙ none))

-- a record that says nothing of segments has no segment number
pub alone_is_no_segment : (fields : List Pair) → AreAlone fields → has_segment_number fields ≡ false
alone_is_no_segment fields alone = not_numbered fields (present_value warc_segment_number fields) refl (ap (λ (s : SegmentReading). s.number) alone.segment)

pub flags_more : {E : Type 0} (answer : Result (Unit {0}) E) (old new : Flags) (records : List Placed) (p : Placed) (verdict : Verdict)
    → (old.segmented ≡ map is_numbered records) × (old.verdicts ≡ map stated_on records) → is_numbered p ≡ false → verdict ≡ stated_on p
    → OnOk answer ((new.segmented ≡ old.segmented ++ false ∷ []) × (new.verdicts ≡ old.verdicts ++ verdict ∷ []))
    → OnOk answer ((new.segmented ≡ map is_numbered (records ++ p ∷ [])) × (new.verdicts ≡ map stated_on (records ++ p ∷ [])))
flags_more (Ok u) old new records p verdict is number judged added = (
  added.0 ∙ ap₂ (λ (l : List Bool) (x : Bool). l ++ x ∷ []) is.0 (sym number) ∙ sym (map-append is_numbered records (p ∷ [])),
  added.1 ∙ ap₂ (λ (l : List Verdict) (x : Verdict). l ++ x ∷ []) is.1 judged ∙ sym (map-append stated_on records (p ∷ [])),
)
flags_more (Err e) old new records p verdict is number judged added = tt

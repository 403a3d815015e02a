-- Searches for the next good record, by version lines.
use Rattle.std.proofs.Common.{◌≡◌, ◌≢◌, ℕ, zero, suc, ◌+◌, ◌-◌, ◌*◌, ◌<◌, ◌≤◌, max, Bool, true, false, if◌then◌else◌, List, [], ◌∷◌, ◌++◌, length, take, drop, append_assoc, Some, None, Result, Ok, Err, refl, sym, ap, subst, ◌∙◌, arith, inl, inr, ◌⊎◌, ⊎_elim, length-append}
use Rattle.std.proofs.Math.Seq.{take-append_seam}
use Rattle.std.proofs.lemmas.Bool.{cases_Bool, cases_lt, cond-true, cond-false}
use Rattle.std.proofs.lemmas.List.{drop-drop, drop-take, drop_all, length-drop, length-take, take-append-drop, take-take}
use Rattle.memchr.specs.Find.{FindsNeedle, NoneBefore, OccursAt, occurs_at}
use Rattle.memchr.proofs.lemmas.MatchLemmas.{OccursAt-part, OccursAt-from_part, OccursAt-true, occurs_at-true}
use Rattle.warc_field.specs.Lines.{crlf}
use Rattle.warc_frame.specs.Reading.{record_of}
use Rattle.warc_frame.specs.Seen.{IfHeld, SeenSource}
use Rattle.warc_frame.specs.VersionLine.{version_line}
use Rattle.warc_frame.specs.declared.fault.Fault.{Fault}
use Rattle.warc_frame.specs.declared.fault.FaultKind.{FaultKind}
use Rattle.warc_frame.specs.declared.fault.FaultKind.TheVariants.{Memory, Read}
use Rattle.warc_frame.specs.declared.version.Version.{Version}
use Rattle.warc_frame.specs.declared.version.Version.TheVariants.{V1_0, V1_1}
use Rattle.warc_record.specs.Heads.{head_fault}
use Rattle.warc_reading.specs.Fronts.{BeginsWithNone}
use Rattle.warc_pieces.specs.Judging.{IsFaultAt, IsUnreadAt, FindsRecord, MissesBy}
use Rattle.warc_pieces.specs.Pieces.{near}
use Rattle.warc_pieces.specs.Skip.{NoneWithin}
use Rattle.warc_pieces.specs.Search.{IsNextRecord, IsSearchStopped, NoLine, line_start, lines_in}
use Rattle.warc_pieces.specs.Window.{ReadsBy, Shown, Shows, failures_after, own_reads, reached}
use Rattle.warc_pieces.specs.Reads.{goes_on_by, reads_beside}
use Rattle.warc_pieces.proofs.ReadsLemmas.{reads_as, reads_none, reads_then}
use Rattle.warc_pieces.proofs.RecordLemmas.{shown_front, shown_within}
use Rattle.warc_pieces.proofs.RunLemmas.{begins_with_none, begins_with_one, part_is}

-- ---- version lines and good records

-- the last bytes of a version line
line_end : Version → List ℕ
line_end V1_0 = 48 ∷ 13 ∷ 10 ∷ []
line_end V1_1 = 49 ∷ 13 ∷ 10 ∷ []

line_is : (v : Version) → version_line v ≡ line_start ++ line_end v
unfolding line_end
line_is V1_0 = refl
line_is V1_1 = refl

-- a needle that what is left of a text begins with occurs there
occurs_front : (t rest : List ℕ) (k : ℕ) → drop k t ≡ line_start ++ rest → OccursAt t line_start k
occurs_front t rest k is =
    let size : length (drop k t) ≡ 7 + length rest = ap length is ∙ length-append line_start rest in
    OccursAt-from_part t line_start k (omega (arith, size, length-drop k t)) (ap (take 7) is ∙ take-append_seam line_start rest)

-- where no version line begins, there is no good record
pub none_without_line : (t : List ℕ) (k : ℕ) → ¬ OccursAt t line_start k → BeginsWithNone (drop k t)
none_without_line t k absent = λ r text more whole spelled good.
    let area = spelled.area in
    let tail = line_end r.version ++ (area ++ crlf ++ r.block ++ crlf ++ crlf ++ more) in
    let parts : text ++ more ≡ line_start ++ tail =
    ap (λ x. x ++ more) spelled.text_is ∙ simp (line_is r.version, append_assoc) in
    absent (occurs_front t tail k (whole ∙ parts))

-- ---- parts of a text

-- a part of a text, and where a version line begins in both
part_there : (t : List ℕ) (at m k : ℕ) → k + 7 ≤ m → take 7 (drop k (take m (drop at t))) ≡ take 7 (drop (at + k) t)
part_there t at m k fits =
    let sum : m ≡ k + (m - k) = omega arith in
    let inner : drop k (take m (drop at t)) ≡ take (m - k) (drop k (drop at t)) =
    ap (λ n. drop k (take n (drop at t))) sum ∙ drop-take k (m - k) (drop at t) in
    ap (take 7) inner ∙ take-take 7 (m - k) (drop k (drop at t)) (omega (arith, fits)) ∙ ap (take 7) (drop-drop k at t)

-- a version line in a part is one in the text
pub line_of_part : (t : List ℕ) (at m k : ℕ) → OccursAt (take m (drop at t)) line_start k → OccursAt t line_start (at + k)
line_of_part t at m k occurs =
    let fits : k + 7 ≤ length (take m (drop at t)) = occurs.fits in
    let size = length-take m (drop at t) in
    OccursAt-from_part t line_start (at + k) (omega (arith, fits, size, length-drop at t))
    (sym (part_there t at m k (omega (arith, fits, size))) ∙ OccursAt-part (take m (drop at t)) line_start k occurs)

-- a version line in the text is one in a part that it ends in
pub line_in_part : (t : List ℕ) (at m k : ℕ) → k + 7 ≤ m → OccursAt t line_start (at + k) → OccursAt (take m (drop at t)) line_start k
line_in_part t at m k fits occurs =
    let whole : at + k + 7 ≤ length t = occurs.fits in
    let size = length-take m (drop at t) in
    OccursAt-from_part (take m (drop at t)) line_start k (omega (arith, fits, whole, size, length-drop at t))
    (part_there t at m k fits ∙ OccursAt-part t line_start (at + k) occurs)

line_of_take : (t : List ℕ) (m k : ℕ) → OccursAt (take m t) line_start k → OccursAt t line_start k
line_of_take t m k occurs =
    let same : 0 + k ≡ k = omega arith in
    let P : ℕ → Type 0 = λ q. OccursAt t line_start q in
    subst P same (line_of_part t 0 m k occurs)

-- what is left of a text has the version lines of the text
pub line_in_rest : (t : List ℕ) (from q : ℕ) → from ≤ q → OccursAt t line_start q → OccursAt (drop from t) line_start (q - from)
line_in_rest t from q low occurs =
    let whole : q + 7 ≤ length t = occurs.fits in
    let sum : from + (q - from) ≡ q = omega (arith, low) in
    let there : drop (q - from) (drop from t) ≡ drop q t = drop-drop (q - from) from t ∙ ap (λ k. drop k t) sum in
    OccursAt-from_part (drop from t) line_start (q - from) (omega (arith, whole, low, length-drop from t))
    (ap (take 7) there ∙ OccursAt-part t line_start q occurs)

-- ---- what a window shows

-- the part of the source that a window shows from an offset on
pub shown_is : (bytes : List ℕ) (w : Shown) (at : ℕ) → Shows bytes w → w.begin ≤ at → drop (at - w.begin) w.bytes ≡ take (reached w - at) (drop at (near bytes))
shown_is bytes w at shows low =
    let t = near bytes in
    let n : ℕ = length w.bytes in
    let k : ℕ = at - w.begin in
    let place : w.begin + k ≡ at = omega (arith, low) in
    ⊎_elim
    (λ (past : n < k).
    let none : reached w - at ≡ 0 = omega (arith, past, low) in
    drop_all k w.bytes (omega (arith, past)) ∙ sym (ap (λ m. take m (drop at t)) none))
    (λ (inside : k ≤ n).
    let sum : n ≡ k + (n - k) = omega (arith, inside) in
    let left : n - k ≡ reached w - at = omega (arith, low) in
    ap (drop k) shows.same ∙ ap (λ m. drop k (take m (drop w.begin t))) sum ∙ drop-take k (n - k) (drop w.begin t)
    ∙ ap (λ m. take m (drop k (drop w.begin t))) left ∙ ap (take (reached w - at)) (drop-drop k w.begin t ∙ ap (λ m. drop m t) place))
    (cases_lt n k)

shown_len : (w : Shown) (at : ℕ) → w.begin ≤ at → length (drop (at - w.begin) w.bytes) ≡ reached w - at
shown_len w at low = omega (arith, low, length-drop (at - w.begin) w.bytes)

module _ (bytes : List ℕ) (w : Shown) (from at : ℕ) (shows : Shows bytes w) (low : w.begin ≤ at) (after : from ≤ at) (none : NoLine (near bytes) from at) where
  part_shown : List ℕ
  part_shown = take (reached w - at) (drop at (near bytes))

  -- no version line begins before one that isn't in the part
  before_shown : (n : ℕ) → ((j : ℕ) → j < n → OccursAt (near bytes) line_start (at + j) → ⊥) → NoLine (near bytes) from (at + n)
  before_shown n absent k first last occurs = ⊎_elim
      (λ (before : k < at). none k first before occurs)
      (λ (following : at ≤ k).
      let sum : k ≡ at + (k - at) = omega (arith, following) in
      let P : ℕ → Type 0 = λ q. OccursAt (near bytes) line_start q in
      absent (k - at) (omega (arith, following, last)) (subst P sum occurs))
      (cases_lt k at)

  -- the first version line that is shown is the next one
  pub line_found : (place : ℕ) → FindsNeedle (drop (at - w.begin) w.bytes) line_start 0 (Some place) → NoneBefore (OccursAt (near bytes) line_start) from (length (near bytes)) (at + place) × OccursAt (near bytes) line_start (at + place)
  line_found place finds =
      let t = near bytes in
      let m : ℕ = reached w - at in
      let P : List ℕ → Type 0 = λ x. FindsNeedle x line_start 0 (Some place) in
      let found = subst P (shown_is bytes w at shows low) finds in
      let there : OccursAt t line_start (at + place) = line_of_part t at m place found.1 in
      let fits : place + 7 ≤ length (take m (drop at t)) = found.1.fits in
      let whole : at + place + 7 ≤ length t = there.fits in (
        record {
          low = omega (arith, after);
          high = omega (arith, whole);
          before = before_shown place (λ j less occurs. found.0.before j (omega arith) less (line_in_part t at m j (omega (arith, fits, less, length-take m (drop at t))) occurs));
        },
        there,
      )

  -- none is shown: none begins but in the last six bytes, or at the end of the source
  pub none_shown : FindsNeedle (drop (at - w.begin) w.bytes) line_start 0 None → (n : ℕ) → at + n + 6 ≤ reached w → NoLine (near bytes) from (at + n)
  none_shown finds n fits =
      let t = near bytes in
      let m : ℕ = reached w - at in
      let P : List ℕ → Type 0 = λ x. FindsNeedle x line_start 0 None in
      let found = subst P (shown_is bytes w at shows low) finds in
      before_shown n (λ j less occurs.
      let part = line_in_part t at m j (omega (arith, fits, less)) occurs in
      let in_part : j + 7 ≤ length (take m (drop at t)) = part.fits in
      found j (omega arith) (omega (arith, in_part)) part)

  pub none_left : FindsNeedle (drop (at - w.begin) w.bytes) line_start 0 None → reached w ≡ length (near bytes) → NoLine (near bytes) from (length (near bytes))
  none_left finds last k first within occurs = ⊎_elim
      (λ (before : k < at). none k first before occurs)
      (λ (following : at ≤ k).
      let t = near bytes in
      let m : ℕ = reached w - at in
      let P : List ℕ → Type 0 = λ x. FindsNeedle x line_start 0 None in
      let found = subst P (shown_is bytes w at shows low) finds in
      let sum : k ≡ at + (k - at) = omega (arith, following) in
      let Q : ℕ → Type 0 = λ q. OccursAt t line_start q in
      let whole : k + 7 ≤ length t = occurs.fits in
      let part = line_in_part t at m (k - at) (omega (arith, following, whole, last)) (subst Q sum occurs) in
      let in_part : k - at + 7 ≤ length (take m (drop at t)) = part.fits in
      found (k - at) (omega arith) (omega (arith, in_part)) part)
      (cases_lt k at)

  -- where the next look begins
  pub none_further : FindsNeedle (drop (at - w.begin) w.bytes) line_start 0 None → (next : ℕ) → next ≡ max at (reached w - 6) → NoLine (near bytes) from next
  none_further finds next is = ⊎_elim
      (λ (short : reached w - 6 < at).
      let same : next ≡ at = omega (arith, is, short) in
      let P : ℕ → Type 0 = λ k. NoLine (near bytes) from k in
      subst P (sym same) none)
      (λ (long : at ≤ reached w - 6). ⊎_elim
      (λ (few : reached w < 6).
      let same : next ≡ at = omega (arith, is, long, few) in
      let P : ℕ → Type 0 = λ k. NoLine (near bytes) from k in
      subst P (sym same) none)
      (λ (many : 6 ≤ reached w).
      let n : ℕ = reached w - 6 - at in
      let sum : next ≡ at + n = omega (arith, is, long) in
      let P : ℕ → Type 0 = λ k. NoLine (near bytes) from k in
      subst P (sym sum) (none_shown finds n (omega (arith, long, many))))
      (cases_lt (reached w) 6))
      (cases_lt (reached w - 6) at)

  -- a read failed where the window goes no further
  pub none_read : FindsNeedle (drop (at - w.begin) w.bytes) line_start 0 None → (next offset : ℕ) → next ≡ max at (reached w - 6) → offset ≡ max next (reached w) → NoLine (take offset (near bytes)) from offset
  none_read finds next offset is end k first last occurs =
      let t = near bytes in
      let fits : k + 7 ≤ length (take offset t) = occurs.fits in
      let size = length-take offset t in
      ⊎_elim
      (λ (before : k < next). none_further finds next is k first before (line_of_take t offset k occurs))
      (λ (following : next ≤ k). absurd (omega (arith, fits, size, following, is, end)))
      (cases_lt k next)

-- ---- how many version lines

lines_yes : (t : List ℕ) (n : ℕ) → OccursAt t line_start n → lines_in t (suc n) ≡ suc (lines_in t n)
unfolding lines_in
lines_yes t n occurs = cond-true _ _ _ (occurs_at-true t line_start n occurs)

lines_no : (t : List ℕ) (n : ℕ) → occurs_at t line_start n ≡ false → lines_in t (suc n) ≡ lines_in t n
unfolding lines_in
lines_no t n not_there = cond-false _ _ _ not_there

lines_step : (t : List ℕ) (n : ℕ) → lines_in t n ≤ lines_in t (suc n)
lines_step t n = ⊎_elim
    (λ yes. omega (arith, lines_yes t n (OccursAt-true t line_start n yes)))
    (λ no_line. omega (arith, lines_no t n no_line))
    (cases_Bool (occurs_at t line_start n))

lines_add : (t : List ℕ) (m k : ℕ) → lines_in t m ≤ lines_in t (m + k)
lines_add t m zero =
    let same : m + 0 ≡ m = omega arith in
    rw same (omega arith)
lines_add t m (suc k) =
    let same : m + suc k ≡ suc (m + k) = omega arith in
    let before = lines_add t m k in
    rw same (omega (arith, before, lines_step t (m + k)))

pub lines_rise : (t : List ℕ) (m n : ℕ) → m ≤ n → lines_in t m ≤ lines_in t n
lines_rise t m n less =
    let sum : n ≡ m + (n - m) = omega (arith, less) in
    let P : ℕ → Type 0 = λ k. lines_in t m ≤ lines_in t k in
    subst P (sym sum) (lines_add t m (n - m))

-- one more after a version line
pub lines_past : (t : List ℕ) (from at q : ℕ) → from ≤ at → at ≤ q → OccursAt t line_start q → lines_in (drop from t) (at - from) + 1 ≤ lines_in (drop from t) (q + 1 - from)
lines_past t from at q low less occurs =
    let rest = drop from t in
    let there = line_in_rest t from q (omega (arith, low, less)) occurs in
    let sum : q + 1 - from ≡ suc (q - from) = omega (arith, low, less) in
    let more : lines_in rest (suc (q - from)) ≡ suc (lines_in rest (q - from)) = lines_yes rest (q - from) there in
    let rise : lines_in rest (at - from) ≤ lines_in rest (q - from) = lines_rise rest (at - from) (q - from) (omega (arith, low, less)) in
    rw sum (omega (arith, more, rise))

-- ---- the search

-- a search has come to an offset by a number of tries
pub record ComesTo (bytes : List ℕ) (from at tries : ℕ) (w : Shown) : Type 0 where
  pub shows : Shows bytes w
  pub within : at ≤ length (near bytes)
  pub none : (q : ℕ) → from ≤ q → q < at → BeginsWithNone (drop q (near bytes))
  pub few : tries ≤ lines_in (drop from (near bytes)) (at - from)

-- no good record before the next version line
none_to : (bytes : List ℕ) (from at line : ℕ) → ((q : ℕ) → from ≤ q → q < at → BeginsWithNone (drop q (near bytes))) → NoLine (near bytes) at line → (q : ℕ) → from ≤ q → q < line → BeginsWithNone (drop q (near bytes))
none_to bytes from at line none absent q first last = ⊎_elim
    (λ (before : q < at). none q first before)
    (λ (following : at ≤ q). none_without_line (near bytes) q (absent q following last))
    (cases_lt q at)

-- the bytes end before another version line
pub search_ends : (bytes : List ℕ) (from at tries end : ℕ) (w : Shown) → from ≤ at → ComesTo bytes from at tries w → end ≡ length (near bytes) → NoLine (near bytes) at (length (near bytes)) → IsNextRecord bytes from end
search_ends bytes from at tries end w low comes is absent = record {
  after = omega (arith, low, comes.within, is);
  within = omega (arith, is);
  none = λ q first last. none_to bytes from at (length (near bytes)) comes.none absent q first (omega (arith, last, is));
  next = inl is;
}

-- a good record is at the next version line
pub search_finds : (bytes : List ℕ) (from at tries line len : ℕ) (w now : Shown) → from ≤ at → ComesTo bytes from at tries w
    → NoneBefore (OccursAt (near bytes) line_start) at (length (near bytes)) line → FindsRecord line bytes (Ok len) → IsNextRecord bytes from line
search_finds bytes from at tries line len w now low comes first (r, is) = record {
  after = omega (arith, low, first.low);
  within = omega (arith, first.high);
  none = none_to bytes from at line comes.none first.before;
  next = inr (begins_with_one (drop line (near bytes)) r len is);
}

-- a fault of what is at an offset
fault_there : (kind : FaultKind) (at : ℕ) (bytes : List ℕ) (f : Fault) → kind ≢ Read → kind ≢ Memory → MissesBy kind at bytes f → IsFaultAt at (drop at (near bytes)) f
fault_there Read at bytes f not_read not_memory miss = absurd (not_read refl)
fault_there Memory at bytes f not_read not_memory miss = absurd (not_memory refl)
fault_there kind at bytes f not_read not_memory miss = miss

-- none is at an offset, at the version line or after it
none_from : (bytes : List ℕ) (line q : ℕ) (g : Fault) → record_of head_fault (drop line (near bytes)) ≡ Err g → line ≤ q → (0 < q - line → BeginsWithNone (drop (q - line) (drop line (near bytes)))) → BeginsWithNone (drop q (near bytes))
none_from bytes line q g is most after =
    let P : ℕ → Type 0 = λ k. BeginsWithNone (drop k (near bytes)) in
    ⊎_elim
    (λ (here : q < line + 1). subst P (let e : line ≡ q = omega (arith, most, here) in e) (begins_with_none (drop line (near bytes)) g is))
    (λ (later : line + 1 ≤ q).
    let there : drop (q - line) (drop line (near bytes)) ≡ drop q (near bytes) =
    drop-drop (q - line) line (near bytes) ∙ ap (λ k. drop k (near bytes)) (let e : line + (q - line) ≡ q = omega (arith, most) in e) in
    subst BeginsWithNone there (after (omega (arith, later))))
    (cases_lt q (line + 1))

-- none is at the next version line, nor before an offset after it
pub search_goes_on : (bytes : List ℕ) (from at tries line next : ℕ) (f : Fault) (w now : Shown) → from ≤ at → ComesTo bytes from at tries w
    → NoneBefore (OccursAt (near bytes) line_start) at (length (near bytes)) line → OccursAt (near bytes) line_start line → f.kind ≢ Read → f.kind ≢ Memory → MissesBy f.kind line bytes f → Shows bytes now
    → line < next → next ≤ length (near bytes) → NoneWithin (drop line (near bytes)) (next - line) → ComesTo bytes from next (tries + 1) now
search_goes_on bytes from at tries line next f w now low comes first occurs not_read not_memory miss shows goes within none_there =
    let (g, is, same) = fault_there f.kind line bytes f not_read not_memory miss in
    let past = lines_past (near bytes) from at line low first.low occurs in
    let rise = lines_rise (drop from (near bytes)) (line + 1 - from) (next - from) (omega (arith, goes)) in
    let few = comes.few in
    record {
      shows = shows;
      within = within;
      none = λ q after before. ⊎_elim
          (λ (less : q < line). none_to bytes from at line comes.none first.before q after less)
          (λ (most : line ≤ q). none_from bytes line q g is most (λ some. none_there (q - line) some (omega (arith, before, most))))
          (cases_lt q line);
      few = omega (arith, few, past, rise);
    }

-- a text without a good record at an offset has none there in what is read of it
pub none_in_part : (t : List ℕ) (q m : ℕ) → q ≤ m → BeginsWithNone (drop q t) → BeginsWithNone (drop q (take m t))
none_in_part t q m low none = λ r text more whole spelled good.
    let rest = drop (m - q) (drop q t) in
    none r text (more ++ rest) (sym (take-append-drop (m - q) (drop q t)) ∙ ap (λ x. x ++ rest) (sym (part_is q m t low) ∙ whole) ∙ append_assoc text more rest) spelled good

-- where a failed search ended
pub failed_from : (kind : FaultKind) (line : ℕ) (bytes : List ℕ) (f : Fault) → (kind ≡ Read) ⊎ (kind ≡ Memory) → MissesBy kind line bytes f → line ≤ f.offset
failed_from Read line bytes f fails miss = miss.after
failed_from Memory line bytes f fails miss = omega (arith, miss.0)
failed_from kind line bytes f fails miss = absurd (⊎_elim (λ e. cc) (λ e. cc) fails)

-- the search fails at a version line
pub search_fails : (bytes : List ℕ) (from at tries line : ℕ) (f : Fault) (w : Shown) → from ≤ at → ComesTo bytes from at tries w
    → NoneBefore (OccursAt (near bytes) line_start) at (length (near bytes)) line → (f.kind ≡ Read) ⊎ (f.kind ≡ Memory) → MissesBy f.kind line bytes f → IsSearchStopped bytes from f
search_fails bytes from at tries line f w low comes first fails miss =
    let end = failed_from f.kind line bytes f fails miss in
    record {
      at = line;
      after = omega (arith, low, first.low);
      none = λ q after before. none_in_part (near bytes) q f.offset (omega (arith, before, end)) (none_to bytes from at line comes.none first.before q after before);
      misses = miss;
    }

-- the search fails before the next version line
pub search_stops : (bytes : List ℕ) (from at tries : ℕ) (f : Fault) (w : Shown) → from ≤ at → ComesTo bytes from at tries w → f.kind ≡ Read
    → (at ≤ f.offset) × (f.offset ≤ length (near bytes)) × NoLine (take f.offset (near bytes)) at f.offset → IsSearchStopped bytes from f
search_stops bytes from at tries f w low comes read (after, within, absent) =
    let t = near bytes in
    let part = take f.offset t in
    let unread : IsUnreadAt f.offset bytes f.offset = record {
      after = omega arith;
      cut = inl (drop_all f.offset part (omega (arith, length-take f.offset t)));
    } in
    let P : FaultKind → Type 0 = λ kind. MissesBy kind f.offset bytes f in
    record {
      at = f.offset;
      after = omega (arith, low, after);
      none = λ q first last. ⊎_elim
          (λ (before : q < at). none_in_part t q f.offset (omega (arith, last)) (comes.none q first before))
          (λ (following : at ≤ q). none_without_line part q (absent q following last))
          (cases_lt q at);
      misses = subst P (sym read) unread;
    }

-- the version lines passed bound the tries
pub few_tries : (bytes : List ℕ) (from at tries end : ℕ) (w : Shown) → ComesTo bytes from at tries w → at ≤ end → tries + 1 ≤ lines_in (drop from (near bytes)) (end - from) + 1
few_tries bytes from at tries end w comes before =
    let rise = lines_rise (drop from (near bytes)) (at - from) (end - from) (omega (arith, before)) in
    let few = comes.few in
    omega (arith, few, rise)

-- the tries of a search, which bound what was read
pub record Tries (from at : ℕ) (start w : Shown) (old new : SeenSource) : Type 0 where
  pub count : ℕ
  pub reads : ReadsBy {X = Unit {0}} ((own_reads + 1) * count) (Ok tt) start w old new
  pub held : IfHeld old.holds (λ bytes. Shows bytes start → from ≤ length (near bytes) → ComesTo bytes from at count w)

pub no_tries : (from : ℕ) (w : Shown) (s : SeenSource) → Tries from from w w s s
no_tries from w s = record {
  count = 0;
  reads = reads_none tt w s;
  held = λ bytes held shows low. record {
    shows = shows;
    within = low;
    none = λ q first last. absurd (omega (arith, first, last));
    few = omega arith;
  };
}

-- one read more is made where the source ends
last_reads : (more : Bool) (w now : Shown) (at : ℕ) → w.is_last ≡ false → goes_on_by w now at more → (if w.is_last then 1 else 0) + reads_beside (Ok more) ≤ (if now.is_last then 1 else 0)
last_reads true w now at was goes = rw was (omega arith)
last_reads false w now at was goes = rw (was, goes.0) (omega arith)

pub looks_on : (more : Bool) (start w now : Shown) (at : ℕ) (s0 s1 s2 : SeenSource) → w.is_last ≡ false → goes_on_by w now at more → ReadsBy {X = Unit {0}} (if w.is_last then 1 else 0) (Ok tt) start w s0 s1
    → ReadsBy (reads_beside (Ok more)) (Ok more) w now s1 s2 → ReadsBy {X = Unit {0}} (if now.is_last then 1 else 0) (Ok tt) start now s0 s2
looks_on more start w now at s0 s1 s2 was goes first second =
    let before : ℕ = if w.is_last then 1 else 0 in
    let beside : ℕ = reads_beside (Ok more) in
    reads_as (before + beside) (if now.is_last then 1 else 0) (Ok more) (Ok tt) start now s0 s2 (last_reads more w now at was goes) refl
    (reads_then before beside (Ok tt) (Ok more) start w now s0 s1 s2 refl first second)

-- ---- tries

-- the last look for a version line, or the last try
pub tries_end : {X Y : Type 0} (a b n : ℕ) (x : Result X Fault) (y : Result Y Fault) (start w now : Shown) (s0 s1 s2 : SeenSource) → a ≡ (own_reads + 1) * n → b ≤ own_reads + 1 → ReadsBy {X = Unit {0}} a (Ok tt) start w s0 s1
    → ReadsBy b x w now s1 s2 → failures_after x s0.faults ≡ failures_after y s0.faults → ReadsBy ((own_reads + 1) * (n + 1)) y start now s0 s2
tries_end a b n x y start w now s0 s1 s2 sum few first second same =
    reads_as (a + b) ((own_reads + 1) * (n + 1)) x y start now s0 s2 (omega (arith, sum, few)) same (reads_then a b (Ok tt) x start w now s0 s1 s2 refl first second)

-- a look for a version line, and a try
pub tries_both : {X Y Z : Type 0} (n : ℕ) (found : X) (x : Result Y Fault) (y : Result Z Fault) (start w mid now : Shown) (s0 s1 s2 s3 : SeenSource) → ReadsBy {X = Unit {0}} ((own_reads + 1) * n) (Ok tt) start w s0 s1
    → ReadsBy {X = X} 1 (Ok found) w mid s1 s2 → ReadsBy own_reads x mid now s2 s3 → failures_after x s0.faults ≡ failures_after y s0.faults → ReadsBy ((own_reads + 1) * (n + 1)) y start now s0 s3
tries_both n found x y start w mid now s0 s1 s2 s3 first second third same =
    let all : ℕ = (own_reads + 1) * n in
    reads_as (all + 1 + own_reads) ((own_reads + 1) * (n + 1)) x y start now s0 s3 (omega arith) same
    (reads_then (all + 1) own_reads (Ok found) x start mid now s0 s2 s3 refl (reads_then all 1 (Ok tt) (Ok found) start w mid s0 s1 s2 refl first second) third)

-- what is skipped after a version line, by what is shown from there on, which may be the last bytes of all
pub skipped : (bytes : List ℕ) (line n : ℕ) (shown : List ℕ) (last : Bool) (kind : FaultKind) (place : ℕ) (f : Fault) (now : Shown) → now.begin ≤ line → line ≤ length (near bytes) → Shows bytes now
    → shown ≡ drop (line - now.begin) now.bytes → last ≡ now.is_last → f.kind ≢ Read → f.kind ≢ Memory → MissesBy f.kind line bytes f → f.kind ≡ kind → place ≡ f.offset - line
    → ((more : List ℕ) (g : Fault) → (last ≡ true → more ≡ []) → record_of head_fault (shown ++ more) ≡ Err g → g.kind ≡ kind → g.offset ≡ place → NoneWithin (shown ++ more) n)
    → NoneWithin (drop line (near bytes)) n
skipped bytes line n shown last kind place f now begin there shows is last_is not_read not_memory miss kind_is place_is none =
    let (g, bad, same) = fault_there f.kind line bytes f not_read not_memory miss in
    let seen = drop (line - now.begin) now.bytes in
    let more = drop (length seen) (drop line (near bytes)) in
    let whole : drop line (near bytes) ≡ shown ++ more = shown_front bytes line now begin there shows ∙ ap (λ x. x ++ more) (sym is) in
    let of_kind : g.kind ≡ kind = sym (ap (λ (x : Fault). x.kind) same) ∙ kind_is in
    let of_place : g.offset ≡ place = omega (arith, place_is, ap (λ (x : Fault). x.offset) same) in
    let all : last ≡ true → more ≡ [] = λ e.
    let end = shows.last (sym last_is ∙ e) in
    drop_all (length seen) (drop line (near bytes)) (omega (arith, end, shown_len now line begin, length-drop line (near bytes))) in
    let P : List ℕ → Type 0 = λ t. NoneWithin t n in
    subst P (sym whole) (none more g all (ap (record_of head_fault) (sym whole) ∙ bad) of_kind of_place)

pub skipped_within : (bytes : List ℕ) (line n : ℕ) (shown : List ℕ) (now : Shown) → now.begin ≤ line → line < length (near bytes) → Shows bytes now → shown ≡ drop (line - now.begin) now.bytes → n ≤ max 1 (length shown) → line + n ≤ length (near bytes)
skipped_within bytes line n shown now begin there shows is few =
    let fits = shown_within bytes line now begin (omega (arith, there)) shows in
    omega (arith, fits, ap length is, few, there)

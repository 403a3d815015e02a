-- The outcomes of captures, each origin judged once, and their lines.
use Rattle.std.proofs.Common.{◌≡◌, ◌⊎◌, append_assoc, codes, decimal, inl, inr, ℕ, zero, suc, ◌+◌, ◌<◌, List, [], ◌∷◌, ◌++◌, length, map, take, drop, get_or, Option, Some, Result, Ok, Err, refl, sym, ap, subst, ◌∙◌, arith}
use Rattle.std.specs.Prelude.{IfErr}
use Rattle.std.proofs.lemmas.Grind.{flat_map-append}
use Rattle.std.proofs.lemmas.List.{append-nil, take_more, take-append-drop}
use Rattle.std.specs.List.{AllByRecursion, slice_get}
use Rattle.warc_value.specs.declared.hash.Verdict.{Verdict}
use Rattle.warc_frame.specs.Effects.{Preserves}
use Rattle.warc_frame.specs.Record.{Record}
use Rattle.warc_frame.specs.Seen.{SeenSource}
use Rattle.warc_frame.specs.declared.fault.OutFault.{OutFault}
use Rattle.warc_frame.specs.declared.fault.OutFault.TheVariants as outs
use Rattle.warc_index.specs.Orders.{Indexes}
use Rattle.warc_segment.specs.Kept.{Kept as Parts}
use Rattle.warc_answer.specs.Answers.{path_from}
use Rattle.warc_answer.specs.Laws.{PathsEndInside}
use Rattle.warc_answer.specs.Seen.{IsEarly}
use Rattle.warc_answer.specs.declared.answer.Path.{Path}
use Rattle.warc_answer.specs.declared.answer.ReplayFault.TheVariants.{Out}
use Rattle.warc_reading.specs.Archive.{contents}
use Rattle.warc_lookup.specs.Indexed.{AreOf, indexed_record}
use Rattle.warc_reading.specs.Row.{Placed, Row}
use Rattle.warc_replay.specs.Origins.{IsRecordAt}
use Rattle.warc_answer.specs.declared.answer.Reason.{Reason as Why}
use Rattle.warc_replay.specs.CaptureColumns.{end_columns, front_columns, middle_columns}
use Rattle.warc_replay.specs.Captures.{capture_line, captures_text, columns_line, columns_of, date_front, full_date, number_shown, reason_shown}
use Rattle.warc_judged.specs.Listing.{shown}
use Rattle.warc_replay.specs.Capturing.{IsIndexedAt, JudgesNext}
use Rattle.warc_replay.specs.Outcomes.{CaptureSeen, IsOutcome, outcome_seen}
use Rattle.warc_replay.specs.Replaying.{AsksInside}
use Rattle.warc_replay.specs.declared.replay.captures.JoinedVerdicts.{JoinedVerdicts}
use Rattle.warc_replay.specs.declared.replay.outcome.Outcome.{Outcome}
use Rattle.warc_replay.proofs.ReplayLemmas.{asks_both, path_by_links}

-- what is found in a list with one more element
pub appended : {X : Type 0} (xs : List X) (x : X) (k : ℕ) (o : X) → slice_get (xs ++ x ∷ []) k ≡ Some o → (slice_get xs k ≡ Some o) ⊎ ((k ≡ length xs) × (o ≡ x))
appended [] x zero o is = inr (refl, (let f : x ≡ o = cc is in sym f))
appended [] x (suc k) o is = absurd (cc is)
appended (y ∷ ys) x zero o is = inl is
appended (y ∷ ys) x (suc k) o is = elim (appended ys x k o is) [
  | inl there ↦ inl there
  | inr last ↦ inr ((let e : k ≡ length ys = last.0 in omega (arith, e)), last.1)
]

each_more : {X Y : Type 0} (P : Y → Type 0) (f : X → Y) (xs : List X) (x : X) → AllByRecursion P (map f xs) → P (f x) → AllByRecursion P (map f (xs ++ x ∷ []))
each_more P f [] x all is = (is, tt)
each_more P f (y ∷ ys) x all is = (all.0, each_more P f ys x all.1 is)

pub more_outcomes : {A : Type 0} (records : List Record) (os : List (Outcome A)) (x : Outcome A) → AllByRecursion (IsOutcome records) (map outcome_seen os) → IsOutcome records (outcome_seen x)
    → AllByRecursion (IsOutcome records) (map outcome_seen (os ++ x ∷ []))
more_outcomes records os x all is = each_more (IsOutcome records) outcome_seen os x all is

pub chosen_seen : {A : Type 0} (os : List (Outcome A)) → map (λ (c : CaptureSeen). c.chosen) (map outcome_seen os) ≡ map (λ (o : Outcome A). o.chosen) os
chosen_seen [] = refl
chosen_seen (o ∷ os) = ap (λ l. o.chosen ∷ l) (chosen_seen os)

pub chosen_more : {A : Type 0} (os : List (Outcome A)) (x : Outcome A) → map (λ (o : Outcome A). o.chosen) (os ++ x ∷ []) ≡ map (λ (o : Outcome A). o.chosen) os ++ x.chosen ∷ []
chosen_more [] x = refl
chosen_more (o ∷ os) x = ap (λ l. o.chosen ∷ l) (chosen_more os x)

pub take_next : (xs : List ℕ) (i x : ℕ) → i < length xs → x ≡ get_or xs i 0 → take i xs ++ x ∷ [] ≡ take (i + 1) xs
take_next xs i x within is = ap (λ y. take i xs ++ y ∷ []) is ∙ sym (take_more xs i 0 within)

-- a refusal because an allocation failed
pub memory_early : {X : Type 0} (r : Result X OutFault) → IfErr r (λ fault. fault ≡ outs.Memory 0) → IfErr r (λ e. IsEarly (Out e))
memory_early (Ok x) is = tt
memory_early (Err e) is = subst (λ (f : OutFault). IsEarly (Out f)) (sym is) refl

-- ---- what is read

-- the origin of the record at a position is one of the records
pub record_at : PathsEndInside → (rows : List Row) (index : Indexes) (parts : Parts) (position : ℕ) (path : Path) → ((records : List Placed) → AreOf records index parts → Ok path ≡ path_from (map indexed_record records) position)
    → (bytes : List ℕ) → IsIndexedAt rows index parts position bytes → IsRecordAt rows parts path.given bytes
record_at inside rows index parts position path found bytes (is, are, low) =
    (is, are.parts_are, (inside (contents is.are.records)).1 position low path (sym (path_by_links is.are.records position) ∙ sym (found is.are.records are)))

pub asks_then : {rows : List Row} {index : Indexes} {parts : Parts} {old mid : SeenSource} (new : SeenSource) → Preserves old mid → AsksInside rows index parts old mid → AsksInside rows index parts mid new
    → AsksInside rows index parts old new
asks_then {rows} {index} {parts} {old} {mid} new first before then = λ bytes is.
    asks_both (λ at. at < length bytes) old mid new.watched_reads first.watched (before bytes is) (then bytes is)

pub asks_on : {A : Type 0} {rows : List Row} {index : Indexes} {parts : Parts} {position : ℕ} {known : List Verdict} {found again : JoinedVerdicts A} {old mid new : SeenSource} {answer : Result (Outcome A) OutFault}
    → Preserves old mid → AsksInside rows index parts old mid → JudgesNext rows index parts position known found again mid new answer → AsksInside rows index parts old new
asks_on {A} {rows} {index} {parts} {position} {known} {found} {again} {old} {mid} {new} {answer} first before next = asks_then new first before next.inside

-- ---- lines

pub text_more : (rows : List Row) (cs ds : List CaptureSeen) → captures_text rows (cs ++ ds) ≡ captures_text rows cs ++ captures_text rows ds
unfolding captures_text
text_more rows cs ds = flat_map-append (capture_line rows) cs ds

pub map-appended : {X Y : Type 0} (f : X → Y) (xs ys : List X) → map f (xs ++ ys) ≡ map f xs ++ map f ys
map-appended f [] ys = refl
map-appended f (x ∷ xs) ys = ap (λ l. f x ∷ l) (map-appended f xs ys)

-- the line of the next outcome
pub text_next : {A : Type 0} (rows : List Row) (os : List (Outcome A)) (i : ℕ) (x : Outcome A) → i < length os → x ≡ get_or os i x
    → captures_text rows (map outcome_seen (take i os)) ++ capture_line rows (outcome_seen x) ≡ captures_text rows (map outcome_seen (take (i + 1) os))
unfolding captures_text
text_next {A} rows os i x within is =
    sym (ap (λ l. captures_text rows (map outcome_seen l)) (take_more os i x within)
    ∙ ap (captures_text rows) (map-appended outcome_seen (take i os) (get_or os i x ∷ []))
    ∙ text_more rows (map outcome_seen (take i os)) (outcome_seen (get_or os i x) ∷ [])
    ∙ ap (λ l. captures_text rows (map outcome_seen (take i os)) ++ l) (append-nil (capture_line rows (outcome_seen (get_or os i x))))
    ∙ ap (λ (o : Outcome A). captures_text rows (map outcome_seen (take i os)) ++ capture_line rows (outcome_seen o)) (sym is))

-- the first lines, and the others
pub text_front : {A : Type 0} (rows : List Row) (os : List (Outcome A)) (i : ℕ)
    → captures_text rows (map outcome_seen os) ≡ captures_text rows (map outcome_seen (take i os)) ++ captures_text rows (map outcome_seen (drop i os))
text_front rows os i =
    ap (λ l. captures_text rows (map outcome_seen l)) (sym (take-append-drop i os)) ∙ ap (captures_text rows) (map-appended outcome_seen (take i os) (drop i os))
    ∙ text_more rows (map outcome_seen (take i os)) (map outcome_seen (drop i os))

-- ---- a line, from the pieces that it is put together from

pub parts_are : (a b c d e f g h i j k l m : List ℕ)
    → front_columns a b c ++ (middle_columns d e f g h i ++ end_columns j k l m) ≡ columns_of a b (c ++ d) e f g h i (j ++ k ++ l) m
unfolding columns_of
parts_are a b c d e f g h i j k l m = simp append_assoc

pub columns_from : (row : Row) (chosen : ℕ) (given status size : Option ℕ) (media : List ℕ) (why : Option Why) (a b c d e f g h i j k l m : List ℕ) → a ≡ decimal chosen → b ≡ row.date
    → c ≡ date_front row.date → d ≡ drop (length c) (codes "0000-01-01T00:00:00.000000000Z") → e ≡ row.kind → f ≡ number_shown given → g ≡ number_shown status → h ≡ shown media
    → i ≡ number_shown size → j ++ k ++ l ≡ reason_shown why → m ≡ shown row.target
    → columns_of a b (c ++ d) e f g h i (j ++ k ++ l) m ≡ columns_line row chosen given status media size why
unfolding full_date
columns_from row chosen given status size media why a b c d e f g h i j k l m is_a is_b is_c is_d is_e is_f is_g is_h is_i is_jkl is_m =
    let full : c ++ d ≡ date_front row.date ++ drop (length (date_front row.date)) (codes "0000-01-01T00:00:00.000000000Z") =
    ap (λ t. c ++ t) is_d ∙ ap (λ t. t ++ drop (length t) (codes "0000-01-01T00:00:00.000000000Z")) is_c in
    λ n. columns_of (is_a n) (is_b n) (full n) (is_e n) (is_f n) (is_g n) (is_h n) (is_i n) (is_jkl n) (is_m n)

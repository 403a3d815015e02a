-- The bytes of the records at positions.
use Rattle.std.proofs.Common.{◌≡◌, ℕ, ◌+◌, ◌^◌, ◌<◌, ◌≤◌, List, [], ◌∷◌, ◌++◌, length, take, drop, get_or, Option, Some, None, Result, refl, sym, ap, subst, ◌∙◌, arith}
use Rattle.std.specs.Prelude.{Contains}
use Rattle.std.specs.List.{AllByRecursion, cons_option, flat_map, slice_get}
use Rattle.std.proofs.lemmas.Grind.{flat_map-append}
use Rattle.std.proofs.lemmas.List.{append-nil, take-append-drop}
use Rattle.std.proofs.lemmas.List.Elements.{Contains-append_left, Contains-push, filter_map-append}
use Rattle.std.proofs.lemmas.List.Sums.{sum_by-append, sum_by_push}
use Rattle.std.proofs.lemmas.Option.{slice_get-get_or}
use Rattle.warc_frame.specs.Effects.{IsRange, ReadsOnly, ReadsRange, Sends}
use Rattle.warc_frame.specs.Seen.{Seen, SeenSource}
use Rattle.warc_frame.specs.declared.fault.OutFault.{OutFault}
use Rattle.warc_frame.proofs.EffectLemmas.{fails_more, reads_both, reads_within}
use Rattle.warc_reading.specs.Archive.{IsArchiveOf}
use Rattle.warc_reading.specs.Row.{Row}
use Rattle.warc_reading.proofs.PlacedLemmas.{placed, take_one}
use Rattle.warc_reading.proofs.RemainLemmas.{written}
use Rattle.warc_rewrite.specs.Selected.{AreBytesOf, HasBytesOf}
use Rattle.warc_rewrite.specs.Selecting.{IsInAnyRecord, IsSelection, ReadsRecords, at_positions, record_bytes, records_len}
use Rattle.warc_lookup.specs.RecordBytes.{IsInRecord, record_len}
use Rattle.warc_rewrite.proofs.EmitLemmas.{Begins, InTurn}

-- ---- one record

pub range_of : (row : Row) (at len : ℕ) (bytes text : List ℕ) → at ≡ row.offset → (row.block_start + row.block_len + 4 < 2 ^ 64 → len ≡ record_len (Some row))
    → IsRange row.offset (record_len (Some row)) bytes text → IsRange at len bytes text
range_of row at len bytes text at_is len_is (range, is) =
    let exact : len ≡ record_len (Some row) = len_is (omega (arith, range.0, range.1)) in
    rw (at_is, exact) (range, is)

pub reads_of : (row : Row) (at len : ℕ) {old new : SeenSource} → at ≡ row.offset → len ≤ record_len (Some row) → ReadsRange at len old new
    → ReadsOnly (IsInRecord (Some row)) (record_len (Some row)) old new
reads_of row at len {old} {new} at_is most reads =
    reads_within (λ q in_. (omega (arith, at_is, in_.0), omega (arith, at_is, most, in_.0, in_.1))) most reads

-- ---- what is at the first positions, and at one more

pub at_more : {X : Type 0} (xs : List X) (ps : List ℕ) (i : ℕ) (x : X) → i < length ps → slice_get xs (get_or ps i 0) ≡ Some x
    → at_positions xs (take (i + 1) ps) ≡ at_positions xs (take i ps) ++ x ∷ []
at_more {X} xs ps i x within is =
    ap (λ l. at_positions xs l) (take_one ps i (get_or ps i 0) (slice_get-get_or ps i 0 within))
    ∙ filter_map-append (slice_get xs) (take i ps) (get_or ps i 0 ∷ [])
    ∙ ap (λ o. at_positions xs (take i ps) ++ cons_option o []) is

pub at_split : {X : Type 0} (xs : List X) (ps : List ℕ) (i : ℕ) → at_positions xs ps ≡ at_positions xs (take i ps) ++ at_positions xs (drop i ps)
at_split {X} xs ps i =
    ap (λ l. at_positions xs l) (sym (take-append-drop i ps)) ∙ filter_map-append (slice_get xs) (take i ps) (drop i ps)

-- ---- their bytes

within_parts : (bytes : List ℕ) (xs ys : List Row) → AllByRecursion (HasBytesOf bytes) (xs ++ ys) → AllByRecursion (HasBytesOf bytes) xs × AllByRecursion (HasBytesOf bytes) ys
within_parts bytes [] ys all = (tt, all)
within_parts bytes (x ∷ xs) ys all = let (one, two) = within_parts bytes xs ys all.1 in ((all.0, one), two)

bytes_parts : (bytes : List ℕ) (xs ys : List Row) (text : List ℕ) → AreBytesOf (xs ++ ys) bytes text → InTurn (AreBytesOf xs) (AreBytesOf ys) bytes text
bytes_parts bytes xs ys text are =
    let (one, two) = within_parts bytes xs ys are.within in (
      flat_map (record_bytes bytes) xs,
      flat_map (record_bytes bytes) ys,
      are.is ∙ flat_map-append (record_bytes bytes) xs ys,
      record { within = one; is = refl },
      record { within = two; is = refl },
    )

pub bytes_more : (rows : List Row) (ps : List ℕ) (i : ℕ) (row : Row) (bytes text : List ℕ) → i < length ps → slice_get rows (get_or ps i 0) ≡ Some row
    → AreBytesOf (at_positions rows (take (i + 1) ps)) bytes text
    → InTurn (AreBytesOf (at_positions rows (take i ps))) (IsRange row.offset (record_len (Some row))) bytes text
bytes_more rows ps i row bytes text within is are =
    let P : List Row → Type 0 = λ l. AreBytesOf l bytes text in
    let (one, two, same, first, second) = bytes_parts bytes (at_positions rows (take i ps)) (row ∷ []) text (subst P (at_more rows ps i row within is) are) in
    (one, two, same, first, (second.within.0, second.is ∙ append-nil (record_bytes bytes row)))

bytes_begin : (rows : List Row) (ps : List ℕ) (n : ℕ) (bytes text : List ℕ) → AreBytesOf (at_positions rows ps) bytes text
    → Begins (AreBytesOf (at_positions rows (take n ps))) bytes text
bytes_begin rows ps n bytes text are =
    let P : List Row → Type 0 = λ l. AreBytesOf l bytes text in
    let (one, two, same, first, second) = bytes_parts bytes (at_positions rows (take n ps)) (at_positions rows (drop n ps)) text (subst P (at_split rows ps n) are) in
    (one, two, same, first)

pub bytes_begin_more : (rows : List Row) (ps : List ℕ) (i : ℕ) (row : Row) (bytes text : List ℕ) → i < length ps → slice_get rows (get_or ps i 0) ≡ Some row
    → AreBytesOf (at_positions rows ps) bytes text
    → Begins (InTurn (AreBytesOf (at_positions rows (take i ps))) (IsRange row.offset (record_len (Some row)))) bytes text
bytes_begin_more rows ps i row bytes text within is are =
    let (one, more, same, first) = bytes_begin rows ps (i + 1) bytes text are in
    (one, more, same, bytes_more rows ps i row bytes one within is first)

pub bytes_none : (bytes text : List ℕ) → AreBytesOf [] bytes text → text ≡ []
bytes_none bytes text are = are.is

-- ---- what is read of them

pub reads_more : (rows : List Row) (ps : List ℕ) (i : ℕ) (row : Row) {old mid new : SeenSource} → i < length ps → slice_get rows (get_or ps i 0) ≡ Some row
    → ReadsOnly (IsInAnyRecord (at_positions rows ps)) (records_len (at_positions rows (take i ps))) old mid
    → ReadsOnly (IsInRecord (Some row)) (record_len (Some row)) mid new
    → ReadsOnly (IsInAnyRecord (at_positions rows ps)) (records_len (at_positions rows (take (i + 1) ps))) old new
reads_more rows ps i row {old} {mid} {new} within is first one =
    let P : List Row → Type 0 = λ l. Contains l row in
    let front = at_positions rows (take i ps) in
    let more = at_more rows ps i row within is in
    let here : Contains (at_positions rows (take (i + 1) ps)) row = subst P (sym more) (Contains-push front row) in
    let there : Contains (at_positions rows ps) row =
    subst P (sym (at_split rows ps (i + 1))) (Contains-append_left (at_positions rows (take (i + 1) ps)) (at_positions rows (drop (i + 1) ps)) row here) in
    let whole : records_len (at_positions rows (take (i + 1) ps)) ≡ records_len front + record_len (Some row) =
    ap (λ l. records_len l) more ∙ sum_by_push (λ (r : Row). record_len (Some r)) front row in
    let last : ReadsOnly (IsInAnyRecord (at_positions rows ps)) (record_len (Some row)) mid new =
    reads_within (λ at in_. record { row = row; is = there; inside = in_ }) (omega arith) one in
    reads_within (λ at in_. in_) (omega (arith, whole)) (reads_both first last)

pub reads_all : (rows : List Row) (ps : List ℕ) (n : ℕ) {old new : SeenSource}
    → ReadsOnly (IsInAnyRecord (at_positions rows ps)) (records_len (at_positions rows (take n ps))) old new → ReadsRecords (at_positions rows ps) old new
reads_all rows ps n {old} {new} reads =
    let whole : records_len (at_positions rows ps) ≡ records_len (at_positions rows (take n ps)) + records_len (at_positions rows (drop n ps)) =
    ap (λ l. records_len l) (at_split rows ps n) ∙ sum_by-append (λ (r : Row). record_len (Some r)) (at_positions rows (take n ps)) (at_positions rows (drop n ps)) in
    reads_within (λ at in_. in_) (omega (arith, whole)) reads

-- ---- the records of an archive are there

all_cons : {X : Type 0} (P : X → Type 0) (found : Option X) (xs : List X) → ((x : X) → found ≡ Some x → P x) → AllByRecursion P xs → AllByRecursion P (cons_option found xs)
all_cons {X} P None xs each all = all
all_cons {X} P (Some x) xs each all = (each x refl, all)

pub all_at : {X : Type 0} (P : X → Type 0) (xs : List X) (ps : List ℕ) → ((p : ℕ) (x : X) → slice_get xs p ≡ Some x → P x) → AllByRecursion P (at_positions xs ps)
all_at {X} P xs [] each = tt
all_at {X} P xs (p ∷ ps) each = all_cons P (slice_get xs p) (at_positions xs ps) (each p) (all_at P xs ps each)

pub has_bytes : (bytes : List ℕ) (rows : List Row) → IsArchiveOf bytes rows → (p : ℕ) (row : Row) → slice_get rows p ≡ Some row → HasBytesOf bytes row
has_bytes bytes rows is p row at =
    let (one, here, row_is) = placed is.are.records p row (sym (ap (λ l. slice_get l p) is.are.rows_are) ∙ at) in
    let is_present = written bytes is.are.records is.are.spelled p one here in
    let P : Row → Type 0 = λ r. HasBytesOf bytes r in
    subst P (sym row_is) (omega (arith, is_present.end, is_present.within), omega (arith, is.short))

-- what is sent as the bytes of rows is the selection of an archive of these rows
pub sends_selection : (rows seen : List Row) (ps : List ℕ) {old new : SeenSource} {before after : Seen} {answer : Result (Unit {0}) OutFault}
    → rows ≡ seen → Sends (AreBytesOf (at_positions rows ps)) old new before after answer → Sends (IsSelection seen ps) old new before after answer
sends_selection rows seen ps {old} {new} {before} {after} {answer} same sends =
    let P : List Row → Type 0 = λ l. Sends (AreBytesOf (at_positions l ps)) old new before after answer in
    let sent = subst P same sends in
    let are : (bytes text : List ℕ) → IsSelection seen ps bytes text → AreBytesOf (at_positions seen ps) bytes text =
    λ bytes text it. record { within = all_at (HasBytesOf bytes) seen ps (has_bytes bytes seen it.0); is = it.1 } in
    record {
      out = λ bytes text held it. sent.out bytes text held (are bytes text it);
      cut = λ bytes text held it. sent.cut bytes text held (are bytes text it);
      cause = sent.cause;
      fails = fails_more (λ bytes held it. (it.0, are bytes it.0 it.1)) sent.fails;
    }

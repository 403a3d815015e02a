-- The findings of the first records, and one more.
use Rattle.std.proofs.Common.{◌≡◌, ℕ, ◌+◌, ◌-◌, ◌^◌, ◌≤◌, false, min, List, [], ◌∷◌, ◌++◌, length, take, drop, Option, Some, None, Result, Ok, Err, append_assoc, length-append, take_all, refl, sym, ap, subst, ◌∙◌, arith}
use Rattle.std.proofs.lemmas.Grind.{flat_map-append}
use Rattle.std.proofs.lemmas.List.{append-nil, length-map, length-take-le, take-append-drop}
use Rattle.std.specs.Io.KnownBytes.{append_known}
use Rattle.std.specs.List.{enumerate_from, flat_map, slice_get}
use Rattle.std.specs.Prelude.{IfErr}
use Rattle.warc_frame.specs.Count.{capped}
use Rattle.warc_frame.specs.Effects.{FailsBy}
use Rattle.warc_frame.specs.Failing.{HasFailedBy, MayHaveFailedBy, failed_with, is_read}
use Rattle.warc_frame.specs.Record.{Record}
use Rattle.warc_frame.specs.Seen.{SeenSource}
use Rattle.warc_frame.specs.Send.{WentOut, ended_by, sent_of}
use Rattle.warc_frame.specs.declared.fault.OutFault.{OutFault}
use Rattle.warc_frame.specs.declared.fault.OutFault.TheVariants.{Read as ReadFailed, Write as WriteFailed, Memory as OutOfMemory}
use Rattle.warc_frame.proofs.EffectLemmas.{fails_never}
use Rattle.warc_reading.specs.Archive.{contents}
use Rattle.warc_reading.specs.Rereading.{AreCheckable}
use Rattle.warc_reading.specs.Row.{Placed, Row, row_of}
use Rattle.warc_frame.specs.declared.fault.EarlyFault.{EarlyFault}
use Rattle.warc_frame.specs.declared.fault.EarlyFault.TheVariants.{Read, Memory}
use Rattle.warc_reading.proofs.PlacedLemmas.{below, content_at, take_one}
use Rattle.warc_checking.specs.Checking.{Line, about_record, findings_at, findings_after, findings_of_records, line_text}
use Rattle.warc_checking.specs.Lines.{findings_of_first, first_text, record_lines, records_text}
use Rattle.warc_checking.specs.UsedIds.{HoldsIdsOf, Ids}

enumerate_from-append : {X : Type 0} (n : ℕ) (xs ys : List X) → enumerate_from n (xs ++ ys) ≡ enumerate_from n xs ++ enumerate_from (n + length xs) ys
enumerate_from-append n [] ys = ap (λ k. enumerate_from k ys) (omega arith)
enumerate_from-append n (x ∷ xs) ys =
    let e : n + 1 + length xs ≡ n + length (x ∷ xs) = omega arith in
    ap (λ l. (n, x) ∷ l) (enumerate_from-append (n + 1) xs ys ∙ ap (λ k. enumerate_from (n + 1) xs ++ enumerate_from k ys) e)

enumerate_one : {X : Type 0} (xs : List X) (i : ℕ) (x : X) → slice_get xs i ≡ Some x → enumerate_from 0 (take (i + 1) xs) ≡ enumerate_from 0 (take i xs) ++ (i, x) ∷ []
enumerate_one xs i x is =
    let size : 0 + length (take i xs) ≡ i = omega (arith, length-take-le i xs (omega (arith, below xs i x is))) in
    ap (enumerate_from 0) (take_one xs i x is) ∙ enumerate_from-append 0 (take i xs) (x ∷ []) ∙ ap (λ k. enumerate_from 0 (take i xs) ++ enumerate_from k (x ∷ [])) size

-- the findings of one more record
first_more : (rs : List Record) (i : ℕ) (r : Record) → slice_get rs i ≡ Some r → findings_of_first (i + 1) rs ≡ findings_of_first i rs ++ findings_at rs i r
first_more rs i r is =
    let f : ℕ × Record → List Line = λ p. findings_at rs p.0 p.1 in
    ap (flat_map f) (enumerate_one rs i r is) ∙ flat_map-append f (enumerate_from 0 (take i rs)) ((i, r) ∷ []) ∙ ap (λ l. findings_of_first i rs ++ l) (append-nil (findings_at rs i r))

-- the lines of one more record, and their number
pub text_more : (records : List Placed) (i : ℕ) (p : Placed) (output : List ℕ) → slice_get records i ≡ Some p
    → (output ++ first_text i (contents records)) ++ record_lines i (findings_after (take i (contents records)) p.content) ≡ output ++ first_text (i + 1) (contents records)
text_more records i p output at =
    let rs = contents records in
    let more = ap (flat_map line_text) (first_more rs i p.content (content_at records i p at)) ∙ flat_map-append line_text (findings_of_first i rs) (findings_at rs i p.content) in
    append_assoc output (first_text i rs) (record_lines i (findings_after (take i rs) p.content)) ∙ ap (λ l. output ++ l) (sym more)

saturated : (a b m : ℕ) → min (min a m + min b m) m ≡ min (a + b) m
saturated a b m = omega arith

pub number_more : (records : List Placed) (i : ℕ) (p : Placed) → slice_get records i ≡ Some p
    → capped (capped (length (findings_of_first i (contents records))) + capped (length (findings_after (take i (contents records)) p.content))) ≡ capped (length (findings_of_first (i + 1) (contents records)))
number_more records i p at =
    let rs = contents records in
    let found = findings_after (take i rs) p.content in
    let size : length (findings_at rs i p.content) ≡ length found = length-map (findings_after (take i rs) p.content) (about_record i) in
    let more : length (findings_of_first (i + 1) rs) ≡ length (findings_of_first i rs) + length found =
    ap length (first_more rs i p.content (content_at records i p at)) ∙ length-append (findings_of_first i rs) (findings_at rs i p.content) ∙ ap (λ n. length (findings_of_first i rs) + n) size in
    saturated (length (findings_of_first i rs)) (length found) (2 ^ 64 - 1) ∙ ap capped (sym more)

-- the ids of one more record
pub ids_one : (records : List Placed) (i : ℕ) (p : Placed) (ids : Ids) → slice_get records i ≡ Some p → HoldsIdsOf (take i (contents records) ++ p.content ∷ []) ids
    → HoldsIdsOf (take (i + 1) (contents records)) ids
ids_one records i p ids at has =
    let P : List Record → Type 0 = λ rs. HoldsIdsOf rs ids in
    subst P (sym (take_one (contents records) i p.content (content_at records i p at))) has

-- the lines of the others
abbrev pub rest_text : ℕ → List Record → List ℕ
rest_text n rs = flat_map line_text (flat_map (λ p. findings_at rs p.0 p.1) (enumerate_from (0 + length (take n rs)) (drop n rs)))

pub text_rest : (rs : List Record) (n : ℕ) (output : List ℕ) → (output ++ first_text n rs) ++ rest_text n rs ≡ output ++ records_text rs
text_rest rs n output =
    let f : ℕ × Record → List Line = λ p. findings_at rs p.0 p.1 in
    let lines : findings_of_records rs ≡ findings_of_first n rs ++ flat_map f (enumerate_from (0 + length (take n rs)) (drop n rs)) =
    ap (λ l. flat_map f (enumerate_from 0 l)) (sym (take-append-drop n rs)) ∙ ap (flat_map f) (enumerate_from-append 0 (take n rs) (drop n rs))
    ∙ flat_map-append f (enumerate_from 0 (take n rs)) (enumerate_from (0 + length (take n rs)) (drop n rs)) in
    append_assoc output (first_text n rs) (rest_text n rs)
    ∙ ap (λ l. output ++ l) (sym (ap (flat_map line_text) lines ∙ flat_map-append line_text (findings_of_first n rs) (flat_map f (enumerate_from (0 + length (take n rs)) (drop n rs)))))

-- the first n records are all of them where there are n
pub first_all : (bytes : List ℕ) (records : List Placed) (rows : List Row) (n : ℕ) → AreCheckable bytes records rows → length rows ≤ n
    → findings_of_first n (contents records) ≡ findings_of_records (contents records)
first_all bytes records rows n can past =
    let size : length (contents records) ≤ n =
    omega (arith, past, ap length can.rows_are, length-map records row_of, length-map records (λ (p : Placed). p.content)) in
    ap (λ l. flat_map (λ p. findings_at (contents records) p.0 p.1) (enumerate_from 0 l)) (take_all n (contents records) size)

-- the source has failed as often as before by an end that is no failed read
pub unread : (X : Type 0) (e : OutFault) (old new : ℕ) → is_read e ≡ false → new ≡ old → MayHaveFailedBy {X = X} (Err e) old new × HasFailedBy {X = X} (Err e) old new
unread X (ReadFailed sent) old new none same = absurd (cc none)
unread X (WriteFailed sent) old new none same = (same, same)
unread X (OutOfMemory sent) old new none same = (same, same)

pub fails_unread : {X : Type 0} {Expected : List ℕ → Type 0} (answer : Result X OutFault) {old new : SeenSource} → IfErr answer (λ e. is_read e ≡ false) → new.faults ≡ old.faults → FailsBy Expected answer old new
fails_unread {X} {Expected} (Ok x) {old} {new} none same = fails_never same
fails_unread {X} {Expected} (Err e) {old} {new} none same =
    record { may = (unread X e old.faults new.faults none same).0; failed = λ bytes held is. (unread X e old.faults new.faults none same).1 }

unsent : (fault : EarlyFault) → sent_of (ended_by fault 0) ≡ 0
unsent Read = refl
unsent Memory = refl

silent : (fault : EarlyFault) (n : ℕ) → failed_with (ended_by fault 0) n ≡ n
silent Read n = refl
silent Memory n = refl

append_none : (start : Option (List ℕ)) → append_known start [] ≡ start
append_none None = refl
append_none (Some text) = ap (λ l. Some l) (append-nil text)

-- an output that ends before it begins
module _ (fault : EarlyFault) (e : OutFault) (is : e ≡ ended_by fault 0) where
  pub none_sent : sent_of e ≡ 0
  none_sent = ap sent_of is ∙ unsent fault

  pub none_out : (start : Option (List ℕ)) (output : List ℕ) → WentOut start output start (sent_of e)
  none_out start output = record { count = 0; within = omega arith; reported = sym (append_none start); number = none_sent }

  pub none_failed : (n : ℕ) → n ≡ failed_with e n
  none_failed n = sym (ap (λ f. failed_with f n) is ∙ silent fault n)

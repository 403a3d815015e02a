-- Each replay gives one thing, and no other.
use Rattle.std.proofs.Common.{◌≡◌, ℕ, zero, suc, ◌<◌, List, [], ◌∷◌, length, map, Option, Some, None, Result, Ok, Err, slice_get, refl, sym, ◌∙◌, ap, subst, arith}
use Rattle.std.proofs.lemmas.List.{length-map}
use Rattle.warc_value.specs.Dates.{Instant}
use Rattle.warc_frame.specs.Record.{Record}
use Rattle.warc_index.specs.Captures.{Indexed, ChosenIsLatest, indexed_of, chosen_of}
use Rattle.warc_index.specs.Referents.{OriginsAreRecords, ok_then, origin_of}
use Rattle.warc_index.specs.declared.unfound.Unfound.{Unfound}
use Rattle.warc_payload.specs.Laws.{AtMostOneBody, NoBodyWhereCoded, OneOfThree}
use Rattle.warc_segment.specs.Joined.{ReadRecord, joined_records}
use Rattle.warc_segment.specs.declared.gap.Gap.{Gap}
use Rattle.warc_answer.specs.Answers.{path_at, path_for, path_from, path_of, index_of, Given, is_truncated, given_by, IsGivenBy, IsGivenAt, IsGivenOn, IsAnswerOn}
use Rattle.warc_answer.specs.Laws.{AnswersOnce, EndsInside, PathsEndInside}
use Rattle.warc_answer.specs.Payloads.{read_record}
use Rattle.warc_answer.specs.declared.answer.Path.{Path}
use Rattle.warc_answer.specs.declared.answer.Reason.{Reason}
use Rattle.warc_answer.specs.declared.answer.Reason.TheVariants.{NotFound}
use Rattle.warc_answer.proofs.PayloadLemmas.{payload_once, payload_some}

-- ---- the origin is in the list

pub below_is_present : {A : Type 0} (xs : List A) (p : ℕ) (x : A) → slice_get xs p ≡ Some x → p < length xs
below_is_present [] p x e = absurd (cc)
below_is_present (y ∷ xs) zero x e = omega arith
below_is_present (y ∷ xs) (suc p) x e = let lt : p < length xs = below_is_present xs p x e in omega arith

pub is_present_below : {A : Type 0} (xs : List A) (p : ℕ) → p < length xs → (x : A) × (slice_get xs p ≡ Some x)
is_present_below [] p lt = absurd (omega arith)
is_present_below (y ∷ xs) zero lt = (y, refl)
is_present_below (y ∷ xs) (suc p) lt = is_present_below xs p (omega arith)

abbrev path_by : ℕ → Result ℕ Unfound → Result Path Unfound
path_by chosen origin = ok_then (λ given. Ok (record { chosen = chosen; given = given })) origin

from_below : OriginsAreRecords → (all : List Indexed) (p : ℕ) → p < length all → (path : Path) → path_from all p ≡ Ok path
    → path.given < length all
from_below remain all p lt path e = by_origin (origin_of all p) refl e
  where
    by_origin : (o : Result ℕ Unfound) → origin_of all p ≡ o → path_by p o ≡ Ok path → path.given < length all
    by_origin (Err why) is e = absurd (cc)
    by_origin (Ok q) is e =
        let same : q ≡ path.given =
        (let w : Path = record { chosen = p; given = q } in let f : w ≡ path = (cc) in ap (λ (v : Path). v.given) f) in
        subst (λ (n : ℕ). n < length all) same (remain all p q lt is)

path_below : ChosenIsLatest → OriginsAreRecords → (all : List Indexed) (uri : List ℕ) (moment : Instant) (path : Path)
    → path_of all uri moment ≡ Ok path → path.given < length all
path_below latest remain all uri moment path e = by_chosen (chosen_of all uri moment) refl e
  where
    by_chosen : (c : Result ℕ Unfound) → chosen_of all uri moment ≡ c → ok_then (path_from all) c ≡ Ok path
        → path.given < length all
    by_chosen (Err why) is e = absurd (cc)
    by_chosen (Ok p) is e =
        let chosen = ((latest all uri moment).0 p).0 is in
        from_below remain all p (below_is_present all p chosen.it chosen.is_present) path e

-- ---- one outcome

given_once : AtMostOneBody → NoBodyWhereCoded → (path : Path) (origin : ReadRecord)
    (joined : Result (List ReadRecord) Gap) (a b : Result Given Reason)
    → IsGivenBy path origin joined a → IsGivenBy path origin joined b → a ≡ b
given_once once coded path origin joined a b x y =
    x.2 ∙ (ap (given_by path (is_truncated joined)) (payload_once once coded origin joined x.0 y.0 x.1 y.1) ∙ sym y.2)

at_once : AtMostOneBody → NoBodyWhereCoded → (all : List ReadRecord) (path : Path) (o : Option ReadRecord)
    (a b : Result Given Reason) → IsGivenAt all path o a → IsGivenAt all path o b → a ≡ b
at_once once coded all path None a b x y = absurd x
at_once once coded all path (Some origin) a b x y =
    given_once once coded path origin (joined_records all origin) a b x y

on_once : AtMostOneBody → NoBodyWhereCoded → (all : List ReadRecord) (path : Result Path Unfound)
    (a b : Result Given Reason) → IsGivenOn all path a → IsGivenOn all path b → a ≡ b
on_once once coded all (Err why) a b x y = x ∙ sym y
on_once once coded all (Ok path) a b x y = at_once once coded all path (slice_get all path.given) a b x y

on_some : OneOfThree → (all : List ReadRecord) (path : Result Path Unfound)
    → ((p : Path) → path ≡ Ok p → p.given < length all) → (outcome : Result Given Reason) × IsGivenOn all path outcome
on_some three all (Err why) within = (Err (NotFound why), refl)
on_some three all (Ok path) within =
    let at = is_present_below all path.given (within path refl) in
    let payload = payload_some three at.0 (joined_records all at.0) in
    let outcome : Result Given Reason = given_by path (is_truncated (joined_records all at.0)) payload.0 in
    let here : IsGivenAt all path (Some at.0) outcome = (payload.0, payload.1, refl) in
    (outcome, subst (λ (o : Option ReadRecord). IsGivenAt all path o outcome) (sym at.1) here)

-- as many are kept in an index as there are records
as_many : (records : List Record) → length (index_of (map read_record records)) ≡ length records
as_many records =
    length-map (map read_record records) (λ r. indexed_of r.head) ∙ length-map records read_record

pub paths_end_inside : ChosenIsLatest → OriginsAreRecords → PathsEndInside
unfolding path_for path_at
paths_end_inside latest remain records = (
  λ uri moment path e. subst (λ (n : ℕ). path.given < n) (as_many records)
      (path_below latest remain (index_of (map read_record records)) uri moment path e),
  λ position lt path e. subst (λ (n : ℕ). path.given < n) (as_many records)
      (from_below remain (index_of (map read_record records)) position (subst (λ (n : ℕ). position < n) (sym (as_many records)) lt) path e),
)

pub answer_some : OneOfThree → (records : List Record) (found : Result Path Unfound) → EndsInside records found
    → (outcome : Result Given Reason) × IsAnswerOn records found outcome
unfolding IsAnswerOn
answer_some three records found within =
    on_some three (map read_record records) found
    (λ path e. subst (λ (n : ℕ). path.given < n) (sym (length-map records read_record)) (within path e))

answer_once : AtMostOneBody → NoBodyWhereCoded → (records : List Record) (found : Result Path Unfound)
    (one other : Result Given Reason) → IsAnswerOn records found one → IsAnswerOn records found other → one ≡ other
unfolding IsAnswerOn
answer_once once coded records found one other is also = on_once once coded (map read_record records) found one other is also

pub answers_once : AtMostOneBody → NoBodyWhereCoded → OneOfThree → ChosenIsLatest → OriginsAreRecords → AnswersOnce
answers_once once coded three latest remain records uri moment =
    let found = path_for records uri moment in
    let some = answer_some three records found ((paths_end_inside latest remain records).0 uri moment) in
    (some.0, some.1, λ other is. answer_once once coded records found some.0 other some.1 is)

-- Verdicts on payloads, one after another.
use Rattle.std.proofs.Common.{◌≡◌, ◌≢◌, ◌⊎◌, inl, inr, ℕ, zero, suc, ◌+◌, ◌<◌, List, [], ◌∷◌, ◌++◌, length, Option, Some, None, Result, Ok, Err, IfErr, OnOk, refl, sym, ap, subst, ◌∙◌, length-append, arith}
use Rattle.std.specs.Prelude.{unwrap_or}
use Rattle.std.specs.List.{slice_get}
use Rattle.warc_field.specs.Area.{Pair}
use Rattle.warc_frame.specs.Effects.{FailsBy, Preserves}
use Rattle.warc_frame.specs.Record.{Record}
use Rattle.warc_frame.specs.Seen.{SeenSource}
use Rattle.warc_frame.specs.declared.fault.OutFault.{OutFault}
use Rattle.warc_frame.specs.declared.fault.OutFault.TheVariants as outs
use Rattle.warc_record.specs.Readings.{reading_of}
use Rattle.warc_record.specs.declared.types.Kind.{Kind}
use Rattle.warc_fixity.specs.declared.names.Algorithm.{Algorithm}
use Rattle.warc_index.specs.Orders.{Indexes}
use Rattle.warc_segment.specs.Kept.{Kept as Parts}
use Rattle.warc_answer.specs.Hashed.{IsDigestOf, StoredPayload}
use Rattle.warc_answer.specs.Seen.{IsEarly}
use Rattle.warc_answer.specs.declared.answer.ReplayFault.TheVariants.{Out}
use Rattle.warc_answer.specs.declared.hashed.PayloadDigest.{PayloadDigest}
use Rattle.warc_reading.specs.Archive.{IsArchiveOf, contents}
use Rattle.std.proofs.lemmas.List.{length-map}
use Rattle.warc_reading.specs.Row.{Placed, Row, row_of}
use Rattle.warc_reading.proofs.PlacedLemmas.{below, content_at, placed}
use Rattle.warc_replay.specs.Capturing.{IsIndexedAt}
use Rattle.warc_judged.specs.Fixity.{digest_at}
use Rattle.warc_replay.specs.PayloadStates.{AreKnown, IsComparedAt, IsPathDigest, algorithm_for, take_fault}
use Rattle.warc_replay.specs.PayloadVerdicts.{AreJudgedPayloads, GivesPayload, IsJudgedPayload, IsPayloadJudged, IsRevisitVerdict, IsVerdictByKind, PayloadJudgements, payload_value, payload_verdict_at, revisit_verdict, value_shown}
use Rattle.warc_replay.specs.Replaying.{AsksInside}
use Rattle.warc_replay.specs.declared.record.digests.Known.{Known}
use Rattle.warc_replay.specs.declared.record.payload.PayloadVerdict.{PayloadVerdict}

-- ---- of one record

pub judged_none : (records : List Record) (position : ℕ) (content : Record) (fields : List Pair) → fields ≡ content.fields → payload_value fields ≡ []
    → IsJudgedPayload records position content None
judged_none records position content fields same none = sym (ap payload_value same) ∙ none

pub judged_some : (records : List Record) (position : ℕ) (content : Record) (fields : List Pair) (kind : Kind) (verdict : PayloadVerdict) → fields ≡ content.fields → payload_value fields ≢ []
    → kind ≡ (reading_of fields).kind → IsVerdictByKind kind records position content verdict → IsJudgedPayload records position content (Some verdict)
judged_some records position content fields kind verdict same some kind_is is = (
  λ e. some (ap payload_value same ∙ e),
  subst (λ (k : Kind). IsVerdictByKind k records position content verdict) (kind_is ∙ ap (λ f. (reading_of f).kind) same) is,
)

pub revisit_made : (records : List Record) (position : ℕ) (content : Record) (fields : List Pair) (by : Algorithm) (digest : Option PayloadDigest) (verdict : PayloadVerdict) → fields ≡ content.fields
    → by ≡ algorithm_for fields → ((payload : Option StoredPayload) → IsDigestOf (algorithm_for fields) payload digest → verdict ≡ revisit_verdict fields payload)
    → IsPathDigest records position by digest → IsRevisitVerdict records position content verdict
revisit_made records position content fields by digest verdict same by_is law (payload, on, of) = (
  payload,
  on,
  law payload (subst (λ (a : Algorithm). IsDigestOf a payload digest) by_is of) ∙ ap (λ f. revisit_verdict f payload) same,
)

-- where a read or a request for memory fails
pub gives_out : (rows : List Row) (index : Indexes) (parts : Parts) (position : ℕ) (row : Row) (fault : OutFault) {old new : SeenSource} → slice_get rows position ≡ Some row → IsEarly (Out fault)
    → AsksInside rows index parts old new → Preserves old new → {X : Type 0} → FailsBy {X = X} (IsIndexedAt rows index parts position) (Err fault) old new
    → GivesPayload rows index parts position old new (Err (take_fault fault))
gives_out rows index parts position row (outs.Write n) {old} {new} at early inside keeps {X} fails = absurd early
gives_out rows index parts position row (outs.Read n) {old} {new} at early inside keeps {X} fails = record {
  taken = λ bytes held is are. tt;
  absent = (λ e. absurd (cc e), λ none. let no : Some row ≡ None = sym at ∙ none in absurd (cc no));
  inside = inside;
  keeps = keeps;
  fails = record {
    may = fails.may;
    failed = λ bytes held (is, are).
        let (p, there, same) = placed is.are.records position row (sym (ap (λ l. slice_get l position) is.are.rows_are) ∙ at) in
        fails.failed bytes held (is, are, below (contents is.are.records) position p.content (content_at is.are.records position p there));
  };
}
gives_out rows index parts position row (outs.Memory n) {old} {new} at early inside keeps {X} fails = record {
  taken = λ bytes held is are. tt;
  absent = (λ e. absurd (cc e), λ none. let no : Some row ≡ None = sym at ∙ none in absurd (cc no));
  inside = inside;
  keeps = keeps;
  fails = record { may = fails.may; failed = λ bytes held is. fails.may };
}

-- ---- one more

at_more : {X : Type 0} (xs : List X) (x : X) (i : ℕ) → i < length xs → slice_get (xs ++ x ∷ []) i ≡ slice_get xs i
at_more [] x i low = absurd (omega (arith, low))
at_more (y ∷ ys) x zero low = refl
at_more (y ∷ ys) x (suc i) low = at_more ys x i (omega (arith, low))

at_last : {X : Type 0} (xs : List X) (x : X) (i : ℕ) → i ≡ length xs → slice_get (xs ++ x ∷ []) i ≡ Some x
at_last [] x zero is = refl
at_last [] x (suc i) is = absurd (omega (arith, is))
at_last (y ∷ ys) x zero is = absurd (omega (arith, is))
at_last (y ∷ ys) x (suc i) is = at_last ys x i (omega (arith, is))

lower_or_last : (i n : ℕ) → i < n + 1 → (i < n) ⊎ (i ≡ n)
lower_or_last zero zero low = inr refl
lower_or_last zero (suc n) low = inl (omega arith)
lower_or_last (suc i) zero low = absurd (omega (arith, low))
lower_or_last (suc i) (suc n) low = elim (lower_or_last i n (omega (arith, low))) [
  | inl less ↦ inl (omega (arith, less))
  | inr same ↦ inr (ap suc same)
]

one_longer : {X : Type 0} (xs new : List X) (x : X) (n : ℕ) → new ≡ xs ++ x ∷ [] → length xs ≡ n → length new ≡ n + 1
one_longer xs new x n is size = ap length is ∙ length-append xs (x ∷ []) ∙ ap (λ k. k + 1) size

pub judged_more : (records : List Record) (n : ℕ) (old new : PayloadJudgements) (fields : List Pair) (verdict : Option PayloadVerdict) (value : List ℕ) → AreJudgedPayloads records n old
    → IsComparedAt records n fields verdict → value ≡ payload_value fields
    → (new.verdicts ≡ old.verdicts ++ verdict ∷ []) × (new.digests ≡ old.digests ++ value_shown verdict value ∷ []) → AreJudgedPayloads records (n + 1) new
judged_more records n old new fields verdict value are at value_is added =
    let shown = value_shown verdict value in
    record {
      verdicts_are = one_longer old.verdicts new.verdicts verdict n added.0 are.verdicts_are;
      digests_are = one_longer old.digests new.digests shown n added.1 are.digests_are;
      each = λ i low. elim (lower_or_last i n low) [
        | inl less ↦
            let v : payload_verdict_at new.verdicts i ≡ payload_verdict_at old.verdicts i =
            ap (λ l. payload_verdict_at l i) added.0 ∙ ap (λ (o : Option (Option PayloadVerdict)). unwrap_or o None) (at_more old.verdicts verdict i (omega (arith, less, are.verdicts_are))) in
            let d : digest_at new.digests i ≡ digest_at old.digests i =
            ap (λ l. digest_at l i) added.1 ∙ ap (λ (o : Option (List ℕ)). unwrap_or o []) (at_more old.digests shown i (omega (arith, less, are.digests_are))) in
            subst (λ w. IsPayloadJudged records i w (digest_at new.digests i)) (sym v) (subst (λ t. IsPayloadJudged records i (payload_verdict_at old.verdicts i) t) (sym d) (are.each i less))
        | inr same ↦
            let v : payload_verdict_at new.verdicts n ≡ verdict =
            ap (λ l. payload_verdict_at l n) added.0 ∙ ap (λ (o : Option (Option PayloadVerdict)). unwrap_or o None) (at_last old.verdicts verdict n (sym are.verdicts_are)) in
            let d : digest_at new.digests n ≡ shown =
            ap (λ l. digest_at l n) added.1 ∙ ap (λ (o : Option (List ℕ)). unwrap_or o []) (at_last old.digests shown n (sym are.digests_are)) in
            let here : IsPayloadJudged records n verdict shown =
            record { content = at.content; there = at.there; is = at.is; shown = ap (value_shown verdict) (value_is ∙ ap payload_value at.fields_are) } in
            subst (λ k. IsPayloadJudged records k (payload_verdict_at new.verdicts k) (digest_at new.digests k)) (sym same)
            (subst (λ w. IsPayloadJudged records n w (digest_at new.digests n)) (sym v) (subst (λ t. IsPayloadJudged records n verdict t) (sym d) here))
      ];
    }

pub judged_next : (answer : Result (Unit {0}) OutFault) (records : List Record) (n : ℕ) (old new : PayloadJudgements) (fields : List Pair) (verdict : Option PayloadVerdict) (value : List ℕ) (knows : List Known)
    → AreKnown records knows → AreJudgedPayloads records n old → IsComparedAt records n fields verdict → value ≡ payload_value fields
    → OnOk answer ((new.verdicts ≡ old.verdicts ++ verdict ∷ []) × (new.digests ≡ old.digests ++ value_shown verdict value ∷ []))
    → OnOk answer (AreKnown records knows × AreJudgedPayloads records (n + 1) new)
judged_next (Ok u) records n old new fields verdict value knows known are at value_is added = (known, judged_more records n old new fields verdict value are at value_is added)
judged_next (Err e) records n old new fields verdict value knows known are at value_is added = tt

-- an allocation fails, and no read failed
pub next_memory : {Expected : List ℕ → Type 0} {old new : SeenSource} (answer : Result (Unit {0}) OutFault) → IfErr answer (λ fault. fault ≡ outs.Memory 0) → new.faults ≡ old.faults
    → FailsBy Expected answer old new
next_memory {Expected} {old} {new} (Ok u) is same = record { may = same; failed = λ bytes held expected. same }
next_memory {Expected} {old} {new} (Err e) is same =
    subst (λ (f : OutFault). FailsBy {X = Unit {0}} Expected (Err f) old new) (sym is) (record { may = same; failed = λ bytes held expected. same })

pub none_judged : (records : List Record) (judged : PayloadJudgements) → judged.verdicts ≡ [] → judged.digests ≡ [] → AreJudgedPayloads records 0 judged
none_judged records judged verdicts digests = record {
  verdicts_are = ap length verdicts;
  digests_are = ap length digests;
  each = λ i low. absurd (omega (arith, low));
}

-- a row is that of a record
pub row_below : (bytes : List ℕ) (rows : List Row) (i : ℕ) (is : IsArchiveOf bytes rows) → i < length rows → i < length (contents is.are.records)
row_below bytes rows i is low = omega (arith, low, ap length is.are.rows_are, length-map is.are.records row_of, length-map is.are.records (λ (p : Placed). p.content))

-- The verdicts on the blocks of some records, which are read again.
use Rattle.std.proofs.Common.{◌≡◌, ◌⊎◌, inl, inr, ℕ, zero, suc, ◌+◌, ◌<◌, List, [], ◌∷◌, ◌++◌, length, length-append, Some, Result, Ok, Err, IfErr, OnOk, refl, sym, ap, subst, ◌∙◌, arith}
use Rattle.std.specs.List.{slice_get}
use Rattle.warc_value.specs.declared.hash.Verdict.{Verdict}
use Rattle.warc_value.specs.declared.hash.Verdict.TheVariants.{Unchecked}
use Rattle.warc_frame.specs.Effects.{ReadsOnly}
use Rattle.warc_frame.specs.Record.{Record}
use Rattle.warc_frame.specs.Seen.{AsksOnly, SeenSource}
use Rattle.warc_frame.specs.declared.fault.OutFault.{OutFault}
use Rattle.warc_frame.specs.declared.fault.OutFault.TheVariants as outs
use Rattle.warc_answer.specs.Known.{Agrees}
use Rattle.warc_answer.specs.Payloads.{has_bad_block, read_record}
use Rattle.warc_judged.specs.Counting.{verdict_at}
use Rattle.warc_judged.specs.Waiting.{IsSetAt}
use Rattle.warc_reading.specs.Archive.{IsArchiveOf, contents}
use Rattle.warc_reading.specs.Judging.{verdict_on}
use Rattle.warc_reading.specs.Placing.{IsInRow}
use Rattle.warc_reading.specs.Row.{Placed, Row}
use Rattle.warc_reading.proofs.PlaceLemmas.{HeadsAreRead}
use Rattle.warc_reading.proofs.PlacedLemmas.{content_at}
use Rattle.warc_replay.specs.BlocksAgain.{AddsBlock, AreBlocksAt}
use Rattle.warc_replay.specs.Capturing.{AreKnownBlocks, IsBlockVerdict}
use Rattle.warc_replay.proofs.CaptureLemmas.{memory_early}
use Rattle.warc_replay.proofs.ComparedLemmas.{next_memory}
use Rattle.warc_replay.proofs.DigestLemmas.{text_there}
use Rattle.warc_replay.proofs.KnownLemmas.{own_right}

-- ---- one block

-- nothing is known of it
unknown_added : (answer : Result (Unit {0}) OutFault) (records : List Record) (position : ℕ) (blocks adds : List Verdict) → OnOk answer (adds ≡ blocks ++ Unchecked ∷ [])
    → OnOk answer ((v : Verdict) × (adds ≡ blocks ++ v ∷ []) × IsBlockVerdict records position v)
unknown_added (Ok u) records position blocks adds is = (Unchecked, is, λ r there. tt)
unknown_added (Err e) records position blocks adds is = tt

pub adds_unknown : {rows : List Row} {position : ℕ} {blocks adds : List Verdict} {seen : SeenSource} (answer : Result (Unit {0}) OutFault) → OnOk answer (adds ≡ blocks ++ Unchecked ∷ [])
    → IfErr answer (λ fault. fault ≡ outs.Memory 0) → AddsBlock rows position blocks adds seen seen answer
adds_unknown {rows} {position} {blocks} {adds} {seen} answer is memory = record {
  reported = λ bytes held of. unknown_added answer (contents of.are.records) position blocks adds is;
  early = memory_early answer memory;
  inside = λ bytes of off. refl;
  keeps = record { kept = refl; watched = refl };
  fails = next_memory answer memory refl;
}

-- the verdict on it is that on the record's block
verdict_there : (records : List Placed) (position : ℕ) (p : Placed) → slice_get records position ≡ Some p → IsBlockVerdict (contents records) position (verdict_on p)
verdict_there records position p there = λ r here.
    let e : Some p.content ≡ Some r = sym (content_at records position p there) ∙ here in
    let f : p.content ≡ r = cc e in own_right p r f

pub row_added : (answer : Result (Unit {0}) OutFault) (records : List Placed) (position : ℕ) (p : Placed) (blocks adds : List Verdict) → slice_get records position ≡ Some p
    → OnOk answer (adds ≡ blocks ++ verdict_on p ∷ []) → OnOk answer ((v : Verdict) × (adds ≡ blocks ++ v ∷ []) × IsBlockVerdict (contents records) position v)
row_added (Ok u) records position p blocks adds there is = (verdict_on p, is, verdict_there records position p there)
row_added (Err e) records position p blocks adds there is = tt

-- the record of a row ends before the archive does
pub row_inside : HeadsAreRead → (rows : List Row) (i : ℕ) (row : Row) (most : ℕ) {old new : SeenSource} → slice_get rows i ≡ Some row → ReadsOnly (IsInRow row) most old new
    → (bytes : List ℕ) → IsArchiveOf bytes rows → AsksOnly (λ at. at < length bytes) old new
row_inside law rows i row most at reads bytes is off =
    let has = text_there law bytes rows i row is at in
    let begin = ap (λ (r : Row). r.block_start) has.row_is in
    let size = ap (λ (r : Row). r.block_len) has.row_is in
    reads.near (λ q in_. off q (omega (arith, in_.1, begin, size, has.written.end, has.written.within)))

-- ---- several blocks

verdict_more : (vs : List Verdict) (v : Verdict) (i : ℕ) → (verdict_at (vs ++ v ∷ []) i ≡ verdict_at vs i) ⊎ ((i ≡ length vs) × (verdict_at (vs ++ v ∷ []) i ≡ v))
verdict_more [] v zero = inr (refl, refl)
verdict_more [] v (suc i) = inl refl
verdict_more (x ∷ xs) v zero = inl refl
verdict_more (x ∷ xs) v (suc i) = elim (verdict_more xs v i) [
  | inl same ↦ inl same
  | inr last ↦ inr (ap suc last.0, last.1)
]

pub none_judged_at : (records : List Record) (positions : List ℕ) (verdicts : List Verdict) → verdicts ≡ [] → AreBlocksAt records positions verdicts
none_judged_at records positions verdicts is =
    subst (λ (l : List Verdict). AreBlocksAt records positions l) (sym is) (λ i position there r here. tt)

pub blocks_more : (records : List Record) (positions : List ℕ) (vs adds : List Verdict) (n p : ℕ) (v : Verdict) → n ≡ length vs → slice_get positions n ≡ Some p → AreBlocksAt records positions vs
    → adds ≡ vs ++ v ∷ [] → IsBlockVerdict records p v → AreBlocksAt records positions adds
blocks_more records positions vs adds n p v size here are same is = λ i q there.
    let now : IsBlockVerdict records q (verdict_at (vs ++ v ∷ []) i) = (elim (verdict_more vs v i) [
      | inl before ↦ subst (λ (w : Verdict). IsBlockVerdict records q w) (sym before) (are i q there)
      | inr last ↦
          let e : Some p ≡ Some q = sym here ∙ ap (slice_get positions) (size ∙ sym last.0) ∙ there in
          let f : p ≡ q = cc e in
          subst (λ (w : Verdict). IsBlockVerdict records q w) (sym last.1) (subst (λ (k : ℕ). IsBlockVerdict records k v) f is)
    ]) in
    subst (λ (l : List Verdict). IsBlockVerdict records q (verdict_at l i)) (sym same) now

pub one_longer : (vs adds : List Verdict) (n : ℕ) (v : Verdict) → n ≡ length vs → adds ≡ vs ++ v ∷ [] → n + 1 ≡ length adds
one_longer vs adds n v size same = ap (λ k. k + 1) size ∙ sym (length-append vs (v ∷ [])) ∙ sym (ap length same)

-- ---- each record

pub unknown_right : (verdicts : List Verdict) (records : List Placed) → ((i : ℕ) → verdict_at verdicts i ≡ Unchecked) → AreKnownBlocks verdicts records
unknown_right verdicts records none = λ position r there. subst (λ (v : Verdict). Agrees v (has_bad_block (read_record r))) (sym (none position)) tt

pub set_right : (records : List Placed) (old new : List Verdict) (position : ℕ) (v : Verdict) → IsSetAt old new position v → AreKnownBlocks old records → IsBlockVerdict (contents records) position v
    → AreKnownBlocks new records
set_right records old new position v set known is = λ i. elim (set i) [
  | inl same ↦ subst (λ (w : Verdict). IsBlockVerdict (contents records) i w) (sym same) (known i)
  | inr now ↦ subst (λ (w : Verdict). IsBlockVerdict (contents records) i w) (sym now.1) (subst (λ (k : ℕ). IsBlockVerdict (contents records) k v) (sym now.0) is)
]

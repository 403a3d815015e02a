-- The laws of the module `laws`, each under its function's name.
use Rattle.std.proofs.Common.{◌≡◌, ◌≢◌, ℕ, ◌+◌, ◌≤◌, List, [], ◌∷◌, ◌++◌, Option, None, Ok, Err, length, length-append, take, ◌⊎◌, ◌^◌, ◌<◌, refl, ap, sym, subst, ◌∙◌, arith}
use Rattle.warc_field.specs.Lines.{crlf}
use Rattle.warc_frame.specs.declared.fault.FaultKind.TheVariants.{Truncated}
use Rattle.warc_frame.specs.declared.fault.Fault.{Fault}
use Rattle.warc_frame.specs.Record.{Record, IsFramed, head_text, max_archive}
use Rattle.warc_frame.specs.Spelling.{Spells, SpellsAll, canonical}
use Rattle.warc_frame.specs.Reading.{Judgement, Head, any_fields, head_of, record_of}
use Rattle.warc_frame.specs.Faults.{AllAccepted, ReadsAs, IsFirstFault}
use Rattle.warc_frame.proofs.CanonicalLemmas.{head_size}
use Rattle.warc_frame.proofs.ReadLemmas.{record-spelled, head-from}
use Rattle.warc_frame.proofs.StreamHeads.{head_more, head_parts}
use Rattle.warc_frame.proofs.SpellLemmas.{record-read, canonical-spells, head-spelled}
use Rattle.warc_frame.proofs.StableLemmas.{record-fault-stays}
use Rattle.warc_frame.proofs.FaultLemmas.{same_front, spelling_ends, spelling_one, none_where_spelled, spelled_or_fault, first-stays, first_one, reads_one, reads_some}
use Rattle.std.proofs.lemmas.Grind.{common_steps}
use Rattle.std.proofs.lemmas.List.{append-nil, append_assoc, take-append-le}
use Rattle.std.proofs.Math.Seq.{take-append_seam}
use Rattle.std.specs.Io.KnownBytes.{append_known}
use Rattle.warc_frame.specs.Device.{Staged}
use Rattle.warc_frame.specs.Send.{WentOut, IsStaged}

-- no text that spells a record begins another one that does
pub spelling_is_unambiguous : (r s : Record) (text more : List ℕ) → Spells r text → Spells s (text ++ more) → (more ≡ []) × (r ≡ s)
spelling_is_unambiguous = spelling_ends

-- a text spells at most one list
pub spelling_is_unambiguous-list : (rs ss : List Record) (text : List ℕ) → SpellsAll rs text → SpellsAll ss text → rs ≡ ss
spelling_is_unambiguous-list = spelling_one

-- the canonical text of a record spells it
pub canonical_text_spells : (r : Record) → IsFramed r → Spells r (canonical r)
canonical_text_spells = canonical-spells

-- what is spelled is read, whatever follows
pub reading_is_spelling-read : (judge : Judgement) (r : Record) (text more : List ℕ) → Spells r text → judge r.fields ≡ None → record_of judge (text ++ more) ≡ Ok (r, length text)
reading_is_spelling-read = record-read

-- what is read is spelled
pub reading_is_spelling : (judge : Judgement) (text : List ℕ) (r : Record) (n : ℕ) → record_of judge text ≡ Ok (r, n) → (n ≤ length text) × Spells r (take n text) × (judge r.fields ≡ None)
reading_is_spelling = record-spelled

-- a text that spells a list has no first fault
pub no_fault_where_spelled : (judge : Judgement) (q : ℕ) (text : List ℕ) (records : List Record) (fault : Fault) → q + length text ≤ max_archive → SpellsAll records text → AllAccepted judge records → IsFirstFault judge q text fault → ⊥
no_fault_where_spelled = none_where_spelled

-- a text that has none spells one
pub no_fault_where_spelled-or : (judge : Judgement) (q : ℕ) (text : List ℕ) → q + length text ≤ max_archive → ((records : List Record) × SpellsAll records text × AllAccepted judge records) ⊎ ((fault : Fault) × IsFirstFault judge q text fault)
no_fault_where_spelled-or = spelled_or_fault

-- every fault but truncation stays when bytes are appended
pub faults_are_stable : (judge : Judgement) (q : ℕ) (text more : List ℕ) (fault : Fault) → IsFirstFault judge q text fault → fault.kind ≢ Truncated → IsFirstFault judge q (text ++ more) fault
faults_are_stable = first-stays

-- so do those of the record at the front
pub faults_are_stable-record : (judge : Judgement) (text more : List ℕ) (fault : Fault) → record_of judge text ≡ Err fault → fault.kind ≢ Truncated → record_of judge (text ++ more) ≡ Err fault
faults_are_stable-record = record-fault-stays

-- a text has at most one first fault
pub first_fault_is_unique : (judge : Judgement) (q : ℕ) (text : List ℕ) (one other : Fault) → IsFirstFault judge q text one → IsFirstFault judge q text other → one ≡ other
first_fault_is_unique = first_one

-- a text is read as one list of records and one fault, or none
pub reading_is_unique : (judge : Judgement) (q : ℕ) (text : List ℕ) (rs ss : List Record) (one other : Option Fault) → ReadsAs judge q text rs one → ReadsAs judge q text ss other → (rs ≡ ss) × (one ≡ other)
reading_is_unique = reads_one

-- each text is read so
pub reading_is_unique-some : (judge : Judgement) (q : ℕ) (text : List ℕ) → (records : List Record) × (found : Option Fault) × ReadsAs judge q text records found
reading_is_unique-some = reads_some

-- a head that is read stays read
pub heads_are_stable : (judge : Judgement) (t x : List ℕ) (h : Head) → head_of judge t ≡ Ok h → head_of judge (t ++ x) ≡ Ok h
heads_are_stable judge t x h e = let parts = head_parts judge t h e in head_more judge t x h.version h.len parts.0 parts.1 ∙ e

-- the head of a record that is spelled
pub head_of_spelled : (judge : Judgement) (r : Record) (t : List ℕ) (n : ℕ) → Spells r t → judge r.fields ≡ None → n + length r.block + 4 ≡ length t
    → head_of judge (take n t) ≡ Ok (record { version = r.version; fields = r.fields; len = n; block_len = length r.block })
head_of_spelled judge r t n s judged size =
    let head = head_text r.version s.area in
    let tail = r.block ++ (crlf ++ crlf) in
    let place : length s.area + 12 ≡ length head = sym (head_size r.version s.area) in
    let whole : t ≡ head ++ tail = s.text_is ∙ append_assoc (head ++ r.block) crlf crlf ∙ append_assoc head r.block (crlf ++ crlf) in
    let len : n ≡ length head = omega (arith, size, ap length whole, length-append head tail, length-append r.block (crlf ++ crlf)) in
    let cut : take n t ≡ head = ap (take n) whole ∙ ap (λ k. take k (head ++ tail)) len ∙ take-append_seam head tail in
    let read = head-from judge (head ++ []) _ (head-spelled judge r s.area [] s.framed judged s.fields s.head) in
    ap (head_of judge) (cut ∙ sym (append-nil head)) ∙ read ∙ ap (λ k. Ok (record { version = r.version; fields = r.fields; len = k; block_len = length r.block })) (place ∙ sym len)

front_same : (f r g s : List ℕ) → length f ≡ length g → f ++ r ≡ g ++ s → f ≡ g
front_same f r g s size e = sym (take-append_seam f r) ∙ ap (take (length f)) e ∙ ap (λ k. take k (g ++ s)) size ∙ take-append_seam g s

-- a text begins with one text that spells a list
pub fronts_are_same : (rs : List Record) (front other rest more : List ℕ) → SpellsAll rs front → SpellsAll rs other → front ++ rest ≡ other ++ more → front ≡ other
fronts_are_same [] front other rest more a b e = a ∙ sym b
fronts_are_same (r ∷ rs) front other rest more (f1, r1, s1, e1, m1) (f2, r2, s2, e2, m2) e =
    let whole : f1 ++ (r1 ++ rest) ≡ f2 ++ (r2 ++ more) = sym (ap (λ xs. xs ++ rest) e1 ∙ append_assoc f1 r1 rest) ∙ e ∙ (ap (λ xs. xs ++ more) e2 ∙ append_assoc f2 r2 more) in
    let same = same_front any_fields r r f1 (r1 ++ rest) f2 (r2 ++ more) s1 s2 refl refl whole in
    let here : f1 ≡ f2 = front_same f1 (r1 ++ rest) f2 (r2 ++ more) same.1 whole in
    let later : r1 ≡ r2 = fronts_are_same rs r1 r2 rest more m1 m2 same.2 in
    e1 ∙ ap (λ xs. xs ++ r1) here ∙ ap (λ xs. f2 ++ xs) later ∙ sym e2

pub went_out_of_longer : (start now : Option (List ℕ)) (output more : List ℕ) (sent : ℕ) → WentOut start output now sent → WentOut start (output ++ more) now sent
went_out_of_longer start now output more sent out = record {
  count = out.count;
  within = grind (arith, common_steps, out.within);
  reported = out.reported ∙ ap (λ l. append_known start l) (sym (take-append-le out.count output more out.within));
  number = out.number;
}

pub staged_went_out : (start now : Option (List ℕ)) (output : List ℕ) (buffer : Staged) → IsStaged start output now buffer → WentOut start output now buffer.sent
staged_went_out start now output buffer is = record {
  count = length is.gone;
  within = grind (arith, common_steps, is.whole);
  reported = is.reported ∙ ap (λ l. append_known start l) (sym (ap (λ l. take (length is.gone) l) is.whole ∙ take-append_seam is.gone buffer.bytes));
  number = is.number;
}

pub sent_is_exact : (start now : Option (List ℕ)) (output : List ℕ) (sent : ℕ) → WentOut start output now sent → length output < 2 ^ 64 → (sent ≤ length output) × (now ≡ append_known start (take sent output))
sent_is_exact start now output sent out short =
    let exact : sent ≡ out.count = omega (arith, out.number, out.within) in
    (omega (arith, out.within), out.reported ∙ ap (λ n. append_known start (take n output)) (sym exact))

-- what went out of an output went out of one that goes on with more
pub longer : {start now : Option (List ℕ)} {output : List ℕ} {sent : ℕ} (more : List ℕ) → WentOut start output now sent → WentOut start (output ++ more) now sent
longer {start} {now} {output} {sent} more out = went_out_of_longer start now output more sent out

-- what went out of an output went out of an equal one
pub same_out : {start now : Option (List ℕ)} {a b : List ℕ} {sent : ℕ} → a ≡ b → WentOut start a now sent → WentOut start b now sent
same_out {start} {now} {a} {b} {sent} same out = let P : List ℕ → Type 0 = λ l. WentOut start l now sent in subst P same out

pub same_staged : {start now : Option (List ℕ)} {a b : List ℕ} {buffer : Staged} → a ≡ b → IsStaged start a now buffer → IsStaged start b now buffer
same_staged {start} {now} {a} {b} {buffer} same is = let P : List ℕ → Type 0 = λ l. IsStaged start l now buffer in subst P same is

-- What a judgement finds in heads that framing alone has read.
use Rattle.std.proofs.Common.{◌≡◌, ◌≢◌, ℕ, ◌+◌, ◌-◌, ◌≤◌, ◌&&◌, nat_le, nat_lt, List, [], ◌∷◌, ◌++◌, Option, Some, None, Result, Ok, Err, length, length-append, refl, sym, ap, subst, ◌∙◌, arith, inl, inr, ◌⊎◌, ⊎_elim}
use Rattle.std.specs.Prelude.{is_none}
use Rattle.std.specs.List.{slice_range}
use Rattle.std.proofs.lemmas.List.{append-nil}
use Rattle.warc_frame.specs.declared.fault.FaultKind.{FaultKind}
use Rattle.warc_frame.specs.declared.fault.FaultKind.TheVariants.{Version as NoVersion, HeadTooLong, Truncated}
use Rattle.warc_frame.specs.declared.fault.Fault.{Fault}
use Rattle.warc_frame.specs.Record.{block_len, canonical_len, max_head, max_archive}
use Rattle.warc_field.specs.Area.{area_of}
use Rattle.warc_frame.specs.Spelling.{SpellsAll}
use Rattle.warc_frame.specs.Reading.{◌>>=◌, Judgement, Head, any_fields, fault, version_of, head_len, head_of, record_of, refuses, needs, accepts, at_front, fields_or_line}
use Rattle.warc_frame.specs.Faults.{AllAccepted, HasFault, IsFirstFault}
use Rattle.warc_frame.specs.Reported.{Unclosed, Reported, IsExact, EndsThere, Lies, Refutes, opened, unclosed_of, AcceptsOpen, AcceptsReported}
use Rattle.warc_frame.proofs.StableLemmas.{after_head, record_of-is}
use Rattle.warc_frame.proofs.FaultLemmas.{first_one, none_where_spelled}
use Rattle.warc_frame.proofs.StreamHeads.{head_parts, record_head}
use Rattle.warc_frame.proofs.StreamState.{head_after, head_reported, within_all, goes_not_on, all_accepted, empty_head}

-- what a judgement adds to a head that framing has read
judged : Judgement → Head → Result Head Fault
judged judge head = accepts (judge head.fields) >>= λ _. Ok head

carried : {A B C : Type 0} (r : Result A Fault) (f : A → Result B Fault) (k : B → Result C Fault) (g : A → Result C Fault) → ((x : A) → g x ≡ (f x >>= k)) → (r >>= g) ≡ ((r >>= f) >>= k)
carried (Ok x) f k g same = same x
carried (Err z) f k g same = refl

head_judged : (judge : Judgement) (t : List ℕ) → head_of judge t ≡ (head_of any_fields t >>= judged judge)
unfolding head_of judged
head_judged judge t =
    let k = judged judge in
    carried (needs (version_of t) (fault NoVersion 0)) _ k _
    (λ version. carried (refuses (is_none (head_len t) && nat_le max_head (length t)) (fault HeadTooLong 0)) _ k _
    (λ _. carried (needs (head_len t) (fault Truncated (length t))) _ k _
    (λ len. carried (fields_or_line (area_of (slice_range t 10 (len - 2)))) _ k _
    (λ fields. carried (refuses (nat_lt max_head (canonical_len version fields)) (fault HeadTooLong 0)) _ k _
    (λ _. carried (at_front (block_len fields)) _ k _
    (λ n. refl))))))

accepted_head : (judge : Judgement) (t : List ℕ) (r : Result Head Fault) → AcceptsOpen judge (opened r t) → (r >>= judged judge) ≡ r
unfolding judged
accepted_head judge t (Ok head) ok = rw ok refl
accepted_head judge t (Err f) ok = refl

-- a judgement that accepts the head reported finds what framing finds
record_judged : (judge : Judgement) (t : List ℕ) → AcceptsOpen judge (unclosed_of t) → record_of judge t ≡ record_of any_fields t
record_judged judge t ok =
    record_of-is judge t ∙ ap (λ r. r >>= after_head t) (head_judged judge t ∙ accepted_head judge t (head_of any_fields t) ok) ∙ sym (record_of-is any_fields t)

has_judged : (judge : Judgement) (q : ℕ) (t : List ℕ) (found : Option Fault) → AcceptsOpen judge (unclosed_of t) → HasFault any_fields q t found → HasFault judge q t found
has_judged judge q t None ok has = has
has_judged judge q t (Some f) ok (some, g, fails, is) = (some, g, record_judged judge t ok ∙ fails, is)

accepts_rest : (judge : Judgement) (o : Option Unclosed) (t : List ℕ) → o ≡ unclosed_of t → AcceptsOpen judge o → AcceptsOpen judge (unclosed_of t)
accepts_rest judge o t e ok = subst (AcceptsOpen judge) e ok

-- what refutes the text for framing refutes it for a judgement that accepts what was reported
pub judged_refuted : (judge : Judgement) (at : ℕ) (text : List ℕ) (reported : Reported) (f : Fault) → Refutes at text reported f → AcceptsReported judge reported → IsFirstFault judge at text f
judged_refuted judge at text reported f r (accepted, held) = record {
  records = reported.records;
  found = r.found;
  before = record {
    front = r.reads.front;
    rest = r.reads.rest;
    text = r.reads.text;
    spelled = r.reads.spelled;
    accepted = accepted;
    fault_is = has_judged judge (at + length r.reads.front) r.reads.rest r.found (accepts_rest judge reported.unclosed r.reads.rest r.unclosed_is held) r.reads.fault_is;
  };
  is = r.limit;
}

-- a text that ends in less than a record, and not with nothing, is truncated, if what was reported is accepted
pub truncated : (judge : Judgement) (at : ℕ) (text : List ℕ) (reported : Reported) → at + length text ≤ max_archive → AcceptsReported judge reported → (l : Lies text reported) → l.rest ≢ [] → IsFirstFault judge at text (fault Truncated (at + length text))
truncated judge at text reported low (accepted, held) l some =
    let offset : at + length l.front + length l.rest ≡ at + length text = omega (arith, ap length l.text_is, length-append l.front l.rest) in
    let ok = accepts_rest judge reported.unclosed l.rest l.unclosed_is held in
    record {
      records = reported.records;
      found = Some (fault Truncated (at + length text));
      before = record {
        front = l.front;
        rest = l.rest;
        text = within_all at text low ∙ l.text_is;
        spelled = l.spelled;
        accepted = accepted;
        fault_is = (some, fault Truncated (length l.rest), record_judged judge l.rest ok ∙ l.cut, ap (fault Truncated) (sym offset));
      };
      is = rw (goes_not_on at text low) refl;
    }

nil_cases : (t : List ℕ) → (t ≡ []) ⊎ (t ≢ [])
nil_cases [] = inl refl
nil_cases (b ∷ bs) = inr (λ e. cc)

all_open : (o : Option Unclosed) → AcceptsOpen any_fields o
all_open None = tt
all_open (Some u) = refl

-- framing accepts all that was reported
pub all_reported : (reported : Reported) → AcceptsReported any_fields reported
all_reported reported = (all_accepted reported.records, all_open reported.unclosed)

-- the frame fault of a text that is cut off is the judgement's too
pub judged_cut : (judge : Judgement) (at : ℕ) (text : List ℕ) (reported : Reported) (f : Fault) → Lies text reported → AcceptsReported judge reported → at + length text ≤ max_archive → IsFirstFault any_fields at text f → IsFirstFault judge at text f
judged_cut judge at text reported f l ok low h = ⊎_elim
    (λ (none : l.rest ≡ []).
    let all : l.front ≡ text = sym (l.text_is ∙ ap (λ xs. l.front ++ xs) none ∙ append-nil l.front) in
    absurd (none_where_spelled any_fields at text reported.records f low (subst (SpellsAll reported.records) all l.spelled) (all_accepted reported.records) h))
    (λ (some : l.rest ≢ []).
    let same = first_one any_fields at text (fault Truncated (at + length text)) f (truncated any_fields at text reported low (all_reported reported) l some) h in
    subst (IsFirstFault judge at text) same (truncated judge at text reported low ok l some))
    (nil_cases l.rest)

judged_fails : (judge : Judgement) (head : Head) (kind : FaultKind) → judge head.fields ≡ Some kind → judged judge head ≡ Err (fault kind 0)
unfolding judged
judged_fails judge head kind finds = rw finds refl

some_head : (judge : Judgement) (t : List ℕ) (head : Head) → head_of judge t ≡ Ok head → t ≢ []
some_head judge t head read none = let e : None ≡ Some head.len = sym empty_head ∙ sym (ap head_len none) ∙ (head_parts judge t head read).1 in absurd cc

-- the fault that the judgement finds in the head reported last
pub head_with_findings : (judge : Judgement) (at : ℕ) (text : List ℕ) (reported : Reported) (u : Unclosed) (kind : FaultKind) → IsExact text reported → reported.unclosed ≡ Some u → AllAccepted judge reported.records → judge u.fields ≡ Some kind → at + length text ≤ max_archive
    → (front rest : List ℕ) × (text ≡ front ++ rest) × SpellsAll reported.records front × IsFirstFault judge at text (fault kind (at + length front))
head_with_findings judge at text reported u kind x held accepted finds low =
    let ends : EndsThere x.rest (Some u) = subst (EndsThere x.rest) held x.ends in
    let head = ends.0 in
    let read : head_of any_fields x.rest ≡ Ok (head_reported u head) = ap (head_of any_fields) ends.2 ∙ head_after u head u.bytes ends.1 in
    let fails : head_of judge x.rest ≡ Err (fault kind 0) = head_judged judge x.rest ∙ ap (λ r. r >>= judged judge) read ∙ judged_fails judge (head_reported u head) kind finds in
    let offset : at + length x.front ≡ at + length x.front + 0 = omega arith in (
      x.front,
      x.rest,
      x.text_is,
      x.spelled,
      record {
        records = reported.records;
        found = Some (fault kind (at + length x.front));
        before = record {
          front = x.front;
          rest = x.rest;
          text = within_all at text low ∙ x.text_is;
          spelled = x.spelled;
          accepted = accepted;
          fault_is = (some_head any_fields x.rest (head_reported u head) read, fault kind 0, record_head judge x.rest (fault kind 0) fails, ap (fault kind) offset);
        };
        is = rw (goes_not_on at text low) refl;
      },
    )

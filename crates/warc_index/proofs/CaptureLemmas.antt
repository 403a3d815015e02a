-- The captures of a target, met along their entries.
use Rattle.std.proofs.Common.{◌≡◌, ℕ, ◌∷◌, ◌++◌, List, [], Option, Some, None, true, false, refl, sym, ap, ap₂, subst, ◌∙◌, inl, inr, arith, true≢false, All, slice_get}
use Rattle.std.specs.Prelude.{AllPairs, Contains, IfNone, IfSome, IsSome, MatchOption, nat_lt, ◌==◌, ◌||◌, ◌&&◌}
use Rattle.std.proofs.lemmas.Bool.Decides.{nat_tests}
use Rattle.std.proofs.lemmas.Bool.{and_from, cases_Bool}
use Rattle.std.proofs.lemmas.List.Elements.{All-contains, All-push, Contains-append_left, Contains-push}
use Rattle.std.proofs.lemmas.List.Quantifiers.{all_pairs_push}
use Rattle.warc_value.specs.Dates.{Instant}
use Rattle.warc_record.specs.Texts.{is_text}
use Rattle.warc_order.specs.declared.FoundEntry.{FoundEntry}
use Rattle.warc_order.specs.Entries.{Entry, comes_later, mark_lt, entry_at, entry_of, IsAfter, IsFirst, IsFrom, IsNone}
use Rattle.warc_index.specs.Captures.{AreCapturesOf, Indexed, IsCaptureOf, IsLaterAt, is_capture, is_capture_of, is_later}
use Rattle.warc_index.specs.Links.{first_mark}
use Rattle.warc_index.specs.Linked.{instant_mark}
use Rattle.warc_index.specs.Orders.{capture_entry, entries_from}
use Rattle.warc_index.proofs.KeptLemmas.{HasCaptureEntry, capture_is_present, later_same, no_capture}
use Rattle.warc_index.proofs.LinkedLemmas.{capture_at}
use Rattle.warc_index.proofs.PassLemmas.{forward_way}

-- each record has its instant
abbrev pub AreTimed : List Indexed → Type 0
AreTimed all = All (λ (r : Indexed). IsSome r.instant) all

-- the entry of the capture at p
record HasEntry (all : List Indexed) (uri : List ℕ) (p : ℕ) (e : Entry) : Type 0 where
  it : Indexed
  there : slice_get all p ≡ Some it
  hit : is_capture_of uri it ≡ true
  instant : Instant
  has_instant : it.instant ≡ Some instant
  is : e ≡ entry_of uri (instant_mark instant) p

record Met (all : List Indexed) (uri : List ℕ) (p : ℕ) : Type 0 where
  entry : Entry
  among : Contains (entries_from capture_entry 0 all) entry
  has : HasEntry all uri p entry

entry_for : (all : List Indexed) (uri : List ℕ) (p : ℕ) → AreTimed all → IsCaptureOf all uri p → Met all uri p
entry_for all uri p timed is =
    let h : HasCaptureEntry uri all p is.it = capture_is_present all uri p is.it timed is.there is.capture in
    record {
      entry = entry_of uri (instant_mark h.instant) p;
      among = h.is_present;
      has = record { it = is.it; there = is.there; hit = is.capture; instant = h.instant; has_instant = h.has_instant; is = refl };
    }

entry_says : (all : List Indexed) (uri : List ℕ) (e : Entry) → Contains (entries_from capture_entry 0 all) e
    → e.text ≡ uri → HasEntry all uri e.position e
entry_says all uri e among text =
    let c = capture_at all uri e among text in
    record {
      it = c.it;
      there = c.is_present;
      hit = and_from (is_capture c.it.kind) (is_text uri c.it.target) c.kind c.target;
      instant = c.instant;
      has_instant = c.has_instant;
      is = λ i. record { text = text i; mark = c.mark i; position = e.position };
    }

capture_of : (all : List Indexed) (uri : List ℕ) (p : ℕ) (e : Entry) → HasEntry all uri p e → IsCaptureOf all uri p
capture_of all uri p e has = record { it = has.it; there = has.there; capture = has.hit }

same_there : (o : Option Indexed) (x y : Indexed) → o ≡ Some x → o ≡ Some y → x ≡ y
same_there o x y a b = let s : Some x ≡ Some y = sym a ∙ b in cc s

-- later as records, and as entries
later_at : (all : List Indexed) (uri : List ℕ) (p q : ℕ) (e f : Entry) → HasEntry all uri p e → HasEntry all uri q f
    → comes_later f e ≡ true → IsLaterAt all p q
later_at all uri p q e f one other later a b at_p at_q =
    let x : a ≡ one.it = same_there (slice_get all p) a one.it at_p one.there in
    let y : b ≡ other.it = same_there (slice_get all q) b other.it at_q other.there in
    ap₂ (λ s r. is_later (q, s) (p, r)) y x
    ∙ (later_same p q one.it other.it uri uri one.instant other.instant one.has_instant other.has_instant
    ∙ (ap₂ comes_later (sym other.is) (sym one.is) ∙ later))

entry_later : (all : List Indexed) (uri : List ℕ) (p q : ℕ) (e f : Entry) → HasEntry all uri p e → HasEntry all uri q f
    → IsLaterAt all p q → comes_later f e ≡ true
entry_later all uri p q e f one other later =
    ap₂ comes_later other.is one.is
    ∙ (sym (later_same p q one.it other.it uri uri one.instant other.instant one.has_instant other.has_instant)
    ∙ later one.it other.it one.there other.there)

-- ---- on the way

-- the entry at i is the next one: those of earlier captures were met, and no other
pub record IsNext (all : List Indexed) (uri : List ℕ) (es : List Entry) (positions : List ℕ) (i : ℕ) : Type 0 where
  pub among : Contains (entries_from capture_entry 0 all) (entry_at es i)
  pub text : (entry_at es i).text ≡ uri
  pub before : (q : ℕ) → IsCaptureOf all uri q → IsLaterAt all q (entry_at es i).position → Contains positions q
  pub after : All (λ p. IsLaterAt all p (entry_at es i).position) positions

pub record IsGathered (all : List Indexed) (uri : List ℕ) (es : List Entry) (next : Option FoundEntry) (positions : List ℕ)
    : Type 0 where
  pub captures : All (IsCaptureOf all uri) positions
  pub order : AllPairs (IsLaterAt all) positions
  pub way : MatchOption next ((q : ℕ) → IsCaptureOf all uri q → Contains positions q)
      (λ found. IsNext all uri es positions found.index)

-- no mark is below the first one
least : (e : Entry) → mark_lt e.mark first_mark ≡ false
least e = numbers e.mark.major e.mark.minor
  where
    numbers : (m n : ℕ) → (nat_lt m 0 || (m == 0 && nat_lt n 0)) ≡ false
    numbers m n = grind (arith, nat_tests)

none_of : {X : Type 0} (P : X → Type 0) → All P []
none_of P k d lt = absurd (omega (arith, lt))

no_pairs : {X : Type 0} (R : X → X → Type 0) → AllPairs R []
no_pairs R i j d lt low = absurd (omega (arith, low))

module _ (all : List Indexed) (uri : List ℕ) (es : List Entry) (timed : AreTimed all) (held : es ≡ entries_from capture_entry 0 all) where
  inside : (e : Entry) → Contains es e → Contains (entries_from capture_entry 0 all) e
  inside e = subst (λ (l : List Entry). Contains l e) held

  outside : (e : Entry) → Contains (entries_from capture_entry 0 all) e → Contains es e
  outside e = subst (λ (l : List Entry). Contains l e) (sym held)

  never : (q : ℕ) → IsCaptureOf all uri q → IsNone es (IsFrom uri first_mark) → Contains [] q
  never q is none =
      let missed = no_capture all uri timed (subst (λ (l : List Entry). IsNone l (IsFrom uri first_mark)) held none) q is.it is.there in
      absurd (true≢false (sym is.capture ∙ missed))

  begun : (o : Option FoundEntry) → IfSome o (λ found. IsFirst es (IsFrom uri first_mark) (entry_at es found.index))
      → IfNone o (IsNone es (IsFrom uri first_mark))
      → MatchOption o ((q : ℕ) → IsCaptureOf all uri q → Contains [] q) (λ found. IsNext all uri es [] found.index)
  begun None first none = λ q is. never q is none
  begun (Some found) first none =
      let e : Entry = entry_at es found.index in
      let one = entry_says all uri e (inside e first.is_present) first.passes.text_is in
      record {
        among = inside e first.is_present;
        text = first.passes.text_is;
        before = λ q is later.
            let met = entry_for all uri q timed is in
            let on : comes_later e met.entry ≡ true = entry_later all uri q e.position met.entry e met.has one later in
            let off : comes_later e met.entry ≡ false =
            first.first met.entry (outside met.entry met.among) (record { text_is = ap (λ (f : Entry). f.text) met.has.is; from = least met.entry }) in
            absurd (true≢false (sym on ∙ off));
        after = none_of (λ p. IsLaterAt all p e.position);
      }

  pub begins : (o : Option FoundEntry) → IfSome o (λ found. IsFirst es (IsFrom uri first_mark) (entry_at es found.index))
      → IfNone o (IsNone es (IsFrom uri first_mark)) → IsGathered all uri es o []
  begins o first none = record {
    captures = none_of (IsCaptureOf all uri);
    order = no_pairs (IsLaterAt all);
    way = begun o first none;
  }

  module _ (positions : List ℕ) (i : ℕ) (captures : All (IsCaptureOf all uri) positions) (next : IsNext all uri es positions i) where
    abbrev here : Entry
    here = entry_at es i

    one : HasEntry all uri here.position here
    one = entry_says all uri here next.among next.text

    abbrev more : List ℕ
    more = positions ++ here.position ∷ []

    -- what isn't ahead was met
    passed : (q : ℕ) (is : IsCaptureOf all uri q) → comes_later (entry_for all uri q timed is).entry here ≡ false → Contains more q
    passed q is off =
        let met = entry_for all uri q timed is in
        elim (cases_Bool (comes_later here met.entry)) [
          | inl on ↦ Contains-append_left positions (here.position ∷ []) q (next.before q is (later_at all uri q here.position met.entry here met.has one on))
          | inr level ↦
              let same = (forward_way uri first_mark).tie here met.entry off level in
              let at : here.position ≡ q = sym same.1 ∙ ap (λ (f : Entry). f.position) met.has.is in
              subst (Contains more) at (Contains-push positions here.position)
        ]

    stepped : (o : Option FoundEntry) → IfSome o (λ found. IsFirst es (IsAfter here) (entry_at es found.index))
        → IfNone o (IsNone es (IsAfter here))
        → MatchOption o ((q : ℕ) → IsCaptureOf all uri q → Contains more q) (λ found. IsNext all uri es more found.index)
    stepped None first none = λ q is.
        let met = entry_for all uri q timed is in
        elim (cases_Bool (comes_later met.entry here)) [
          | inl on ↦ absurd (none met.entry (outside met.entry met.among) (record { text_is = ap (λ (f : Entry). f.text) met.has.is ∙ sym next.text; later = on }))
          | inr off ↦ passed q is off
        ]
    stepped (Some found) first none =
        let e : Entry = entry_at es found.index in
        let text : e.text ≡ uri = first.passes.text_is ∙ next.text in
        let other = entry_says all uri e (inside e first.is_present) text in
        record {
          among = inside e first.is_present;
          text = text;
          before = λ q is later.
              let met = entry_for all uri q timed is in
              let following : comes_later e met.entry ≡ true = entry_later all uri q e.position met.entry e met.has other later in
              elim (cases_Bool (comes_later met.entry here)) [
                | inl on ↦
                    let off : comes_later e met.entry ≡ false =
                    first.first met.entry (outside met.entry met.among) (record { text_is = ap (λ (f : Entry). f.text) met.has.is ∙ sym next.text; later = on }) in
                    absurd (true≢false (sym following ∙ off))
                | inr off ↦ passed q is off
              ];
          after = All-push (λ p. IsLaterAt all p e.position) positions here.position
              (λ k d lt.
              let met = entry_for all uri _ timed (captures k d lt) in
              let first_on = entry_later all uri _ here.position met.entry here met.has one (next.after k d lt) in
              later_at all uri _ e.position met.entry e met.has other ((forward_way uri first_mark).onward met.entry here e first_on first.passes.later))
              (later_at all uri here.position e.position here e one other first.passes.later);
        }

    pub steps_on : (o : Option FoundEntry) → AllPairs (IsLaterAt all) positions → IfSome o (λ found. IsFirst es (IsAfter here) (entry_at es found.index))
        → IfNone o (IsNone es (IsAfter here)) → IsGathered all uri es o more
    steps_on o order first none = record {
      captures = All-push (IsCaptureOf all uri) positions here.position captures (capture_of all uri here.position here one);
      order = all_pairs_push (IsLaterAt all) positions here.position order next.after;
      way = stepped o first none;
    }

-- what was gathered at the end of the way
pub gathered : (all : List Indexed) (uri : List ℕ) (es : List Entry) (o : Option FoundEntry) (positions : List ℕ) → o ≡ None
    → IsGathered all uri es o positions → AreCapturesOf all uri positions
gathered all uri es o positions is by =
    let P : Option FoundEntry → Type 0 = λ n. MatchOption n ((q : ℕ) → IsCaptureOf all uri q → Contains positions q) (λ found. IsNext all uri es positions found.index) in
    let whole : (q : ℕ) → IsCaptureOf all uri q → Contains positions q = subst P is by.way in
    record {
      each = λ p. ((λ among. All-contains (IsCaptureOf all uri) positions p by.captures among), whole p);
      order = by.order;
    }

pub next_on_way : (all : List Indexed) (uri : List ℕ) (es : List Entry) (o : Option FoundEntry) (found : FoundEntry) (positions : List ℕ) → o ≡ Some found
    → IsGathered all uri es o positions → IsNext all uri es positions found.index
next_on_way all uri es o found positions is by =
    let P : Option FoundEntry → Type 0 = λ n. MatchOption n ((q : ℕ) → IsCaptureOf all uri q → Contains positions q) (λ f. IsNext all uri es positions f.index) in
    subst P is by.way

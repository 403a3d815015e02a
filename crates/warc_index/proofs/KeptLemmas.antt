-- What is kept of records, and what look-ups among it say of them.
use Rattle.std.proofs.Common.{◌≡◌, ℕ, zero, suc, ◌+◌, ◌<◌, ◌≤◌, Bool, true, false, not, ◌&&◌, ◌||◌, List, [], ◌∷◌, ◌++◌, length, take, filter, Option, Some, None, slice_get, get_or, cond, min, All, refl, sym, ap, subst, ◌∙◌, inl, inr, ◌⊎◌, arith, true≢false, if◌then◌else◌, append_assoc}
use Rattle.std.specs.Prelude.{nat_lt, IsSome}
use Rattle.std.specs.Option.{option_to_list}
use Rattle.std.specs.List.{Contains, position, position_or_len}
use Rattle.std.proofs.lemmas.List.Sums.{position_or_len_is}
use Rattle.std.proofs.lemmas.Option.{slice_get_within, slice_get-get_or, get_or_from_slice_get}
use Rattle.std.proofs.lemmas.Bool.{cases_Bool, cases_lt, and_from, and_parts}
use Rattle.std.proofs.lemmas.Bool.Decides.{nat_tests}
use Rattle.std.proofs.lemmas.List.{append-nil, map-append, length-append, length-take-le, take_all, take-map}
use Rattle.std.proofs.lemmas.List.Elements.{All-head, All-tail, All-push, All-cons, All-append, All-weaker, All-take, filter-append, filter_passes}
use Rattle.std.proofs.lemmas.Slice.Eq.{bytes_eq-Decides}
use Rattle.warc_value.specs.Dates.{Instant}
use Rattle.warc_record.specs.Texts.{is_text}
use Rattle.warc_order.specs.declared.mark.Mark.{Mark}
use Rattle.warc_order.specs.Entries.{Entry, entry_of, mark_lt, comes_later, IsUpTo, IsFrom, IsLast, IsFirst, IsNone}
use Rattle.warc_index.specs.Captures.{Indexed, is_capture, is_capture_of, is_earlier, is_by, is_later, IsChosen, SomePasses, NonePasses}
use Rattle.warc_index.specs.Referents.{has_key, by_key, first_with}
use Rattle.warc_index.specs.Links.{Link}
use Rattle.warc_index.specs.Linked.{instant_mark, link_of}
use Rattle.warc_index.specs.Orders.{IsBelow, kind_mark, id_entry_of, id_entry, target_entry, capture_entry, entries_from, Indexes, IsIndexOf, ArePlacedOf}

-- ---- entries and records

pub contains_left : (xs ys : List Entry) (e : Entry) → Contains xs e → Contains (xs ++ ys) e
contains_left [] ys e (k, lt, is) = absurd (omega arith)
contains_left (x ∷ xs) ys e (zero, lt, is) = (0, omega arith, is)
contains_left (x ∷ xs) ys e (suc k, lt, is) =
    let more : Contains (xs ++ ys) e = contains_left xs ys e (k, omega arith, is) in
    let l : more.0 < length (xs ++ ys) = more.1 in
    (suc more.0, omega arith, more.2)

pub contains_right : (xs ys : List Entry) (e : Entry) → Contains ys e → Contains (xs ++ ys) e
contains_right [] ys e c = c
contains_right (x ∷ xs) ys e c =
    let more : Contains (xs ++ ys) e = contains_right xs ys e c in
    let l : more.0 < length (xs ++ ys) = more.1 in
    (suc more.0, omega arith, more.2)

contains_either : (xs ys : List Entry) (e : Entry) → Contains (xs ++ ys) e → Contains xs e ⊎ Contains ys e
contains_either [] ys e c = inr c
contains_either (x ∷ xs) ys e (zero, lt, is) = inl (0, omega arith, is)
contains_either (x ∷ xs) ys e (suc k, lt, is) = elim (contains_either xs ys e (k, omega arith, is)) [
  | inl (j, h, at) ↦ inl (suc j, omega arith, at)
  | inr c ↦ inr c
]

-- the entry of a record of a list
pub record IsEntryOf (entry : ℕ → Indexed → Option Entry) (p : ℕ) (all : List Indexed) (e : Entry) : Type 0 where
  pub place : ℕ
  pub it : Indexed
  pub is_present : slice_get all place ≡ Some it
  pub is : entry (p + place) it ≡ Some e

single : (o : Option Entry) (e : Entry) → Contains (option_to_list o) e → o ≡ Some e
single None e (k, lt, is) = absurd (omega arith)
single (Some x) e (zero, lt, is) = ap Some is
single (Some x) e (suc k, lt, is) = absurd (omega arith)

one_of : (o : Option Entry) (e : Entry) → o ≡ Some e → Contains (option_to_list o) e
one_of None e is = cc
one_of (Some x) e is = let same : x ≡ e = (cc) in (0, omega arith, same)

pub entry_in : (entry : ℕ → Indexed → Option Entry) (p : ℕ) (all : List Indexed) (e : Entry) →
    Contains (entries_from entry p all) e → IsEntryOf entry p all e
entry_in entry p [] e (k, lt, is) = absurd (omega arith)
entry_in entry p (r ∷ all) e c = elim (contains_either (option_to_list (entry p r)) (entries_from entry (p + 1) all) e
    c) [
      | inl here ↦ record {
        place = 0;
        it = r;
        is_present = refl;
        is = let z : p + 0 ≡ p = omega arith in
            ap (λ n. entry n r) z ∙ single (entry p r) e here;
      }
      | inr there ↦
          let w : IsEntryOf entry (p + 1) all e = entry_in entry (p + 1) all e there in
          record {
            place = suc w.place;
            it = w.it;
            is_present = w.is_present;
            is = let z : p + suc w.place ≡ (p + 1) + w.place =
                omega arith in ap (λ n. entry n w.it) z ∙ w.is;
          }
    ]

pub entry_is_present : (entry : ℕ → Indexed → Option Entry) (p : ℕ) (all : List Indexed) (k : ℕ) (r : Indexed) (e : Entry)
    → slice_get all k ≡ Some r → entry (p + k) r ≡ Some e → Contains (entries_from entry p all) e
entry_is_present entry p [] k r e at is = cc
entry_is_present entry p (x ∷ all) zero r e at is =
    let same : x ≡ r = (cc) in
    let z : p + 0 ≡ p = omega arith in
    contains_left (option_to_list (entry p x)) (entries_from entry (p + 1) all) e (one_of (entry p x) e (ap (entry p)
    same ∙ (ap (λ n. entry n r) (sym z) ∙ is)))
entry_is_present entry p (x ∷ all) (suc k) r e at is =
    let z : (p + 1) + k ≡ p + suc k = omega arith in
    contains_right (option_to_list (entry p x)) (entries_from entry (p + 1) all) e (entry_is_present entry (p + 1) all k r
    e at (ap (λ n. entry n r) z ∙ is))

-- one more record
pub entries_push : (entry : ℕ → Indexed → Option Entry) (p : ℕ) (all : List Indexed) (r : Indexed) →
    entries_from entry p (all ++ r ∷ []) ≡ entries_from entry p all ++ option_to_list (entry (p + length all) r)
entries_push entry p [] r = let z : p + 0 ≡ p = omega arith in append-nil (option_to_list (entry p r))
    ∙ ap (λ n. option_to_list (entry n r)) (sym z)
entries_push entry p (x ∷ all) r =
    let z : (p + 1) + length all ≡ p + suc (length all) = omega arith in
    ap (λ es. option_to_list (entry p x) ++ es) (entries_push entry (p + 1) all r
    ∙ ap (λ n. entries_from entry (p + 1) all ++ option_to_list (entry n r)) z)
    ∙ sym (append_assoc (option_to_list (entry p x)) (entries_from entry (p + 1) all) (option_to_list (entry (p + suc
    (length all)) r)))

-- ---- captures

-- the entry of a capture
pub record IsCaptureEntry (p : ℕ) (r : Indexed) (e : Entry) : Type 0 where
  pub target : List ℕ
  pub instant : Instant
  pub kind : is_capture r.kind ≡ true
  pub has_target : r.target ≡ Some target
  pub has_instant : r.instant ≡ Some instant
  pub is : e ≡ entry_of target (instant_mark instant) p

target_is : (p : ℕ) (t : Option (List ℕ)) (i : Option Instant) (e : Entry) → target_entry p t i ≡ Some e →
    (target : List ℕ) × (instant : Instant) × (t ≡ Some target) × (i ≡ Some instant) × (e ≡ entry_of target
    (instant_mark instant) p)
target_is p None i e is = cc
target_is p (Some t) None e is = cc
target_is p (Some t) (Some i) e is = let same : e ≡ entry_of t (instant_mark i) p = (cc) in (t, i, refl, refl, same)

pub capture_is : (p : ℕ) (r : Indexed) (e : Entry) → capture_entry p r ≡ Some e → IsCaptureEntry p r e
capture_is p r e is = elim (cases_Bool (is_capture r.kind)) [
  | inl yes1 ↦
      let found : target_entry p r.target r.instant ≡ Some e = sym (ap (λ b. if b then target_entry p r.target
      r.instant else None) yes1) ∙ is in
      let w = target_is p r.target r.instant e found in
      record { target = w.0; instant = w.1; kind = yes1; has_target = w.2; has_instant = w.3; is = w.4 }
  | inr no1 ↦
      let none : None ≡ Some e = sym (ap (λ b. if b then target_entry p r.target r.instant else None) no1) ∙ is in
      cc
]

pub capture_has : (p : ℕ) (r : Indexed) (t : List ℕ) (i : Instant) → is_capture r.kind ≡ true → r.target ≡ Some t →
    r.instant ≡ Some i → capture_entry p r ≡ Some (entry_of t (instant_mark i) p)
capture_has p r t i k h j = ap (λ b. if b then target_entry p r.target r.instant else None) k
    ∙ (ap (λ x. target_entry p x r.instant) h ∙ ap (λ x. target_entry p (Some t) x) j)

pub text_found : (uri : List ℕ) (found : Option (List ℕ)) → is_text uri found ≡ true → found ≡ Some uri
text_found uri None e = absurd (true≢false (sym e))
text_found uri (Some t) e = ap Some (sym ((bytes_eq-Decides uri t).0 e))

pub text_is : (uri : List ℕ) (found : Option (List ℕ)) → found ≡ Some uri → is_text uri found ≡ true
text_is uri found e = ap (is_text uri) e ∙ (bytes_eq-Decides uri uri).1 refl

some_instant : (o : Option Instant) → IsSome o → (i : Instant) × (o ≡ Some i)
some_instant None it = absurd (true≢false (sym it))
some_instant (Some i) it = (i, refl)

pub timed_at : (all : List Indexed) (k : ℕ) (r : Indexed) → All (λ (r : Indexed). IsSome r.instant) all →
    slice_get all k ≡ Some r → IsSome r.instant
timed_at [] k r timed at = cc
timed_at (x ∷ all) zero r timed at = let same : x ≡ r = (cc) in subst (λ (y : Indexed). IsSome y.instant) same
    (All-head (λ (r : Indexed). IsSome r.instant) x all timed)
timed_at (x ∷ all) (suc k) r timed at = timed_at all k r (All-tail (λ (r : Indexed). IsSome r.instant) x all timed) at

-- a capture of a target has its entry
pub record HasCaptureEntry (uri : List ℕ) (all : List Indexed) (q : ℕ) (r : Indexed) : Type 0 where
  pub instant : Instant
  pub has_instant : r.instant ≡ Some instant
  pub is_present : Contains (entries_from capture_entry 0 all) (entry_of uri (instant_mark instant) q)

pub capture_is_present : (all : List Indexed) (uri : List ℕ) (q : ℕ) (r : Indexed) →
    All (λ (r : Indexed). IsSome r.instant) all → slice_get all q ≡ Some r → is_capture_of uri r ≡ true →
    HasCaptureEntry uri all q r
capture_is_present all uri q r timed at hit =
    let both = and_parts (is_capture r.kind) (is_text uri r.target) hit in
    let i = some_instant r.instant (timed_at all q r timed at) in
    let z : 0 + q ≡ q = omega arith in
    record {
      instant = i.0;
      has_instant = i.1;
      is_present = entry_is_present capture_entry 0 all q r (entry_of uri (instant_mark i.0) q) at (ap (λ n. capture_entry n r)
          z ∙ capture_has q r uri i.0 both.0 (text_found uri r.target both.1) i.1);
    }

pub by_mark : (m : Instant) (r : Indexed) (i : Instant) → r.instant ≡ Some i →
    is_by (Some m) r ≡ not (mark_lt (instant_mark m) (instant_mark i))
by_mark m r i e = ap (λ x. not (is_earlier (Some m) x)) e

pub not_true : (b : Bool) → not b ≡ true → b ≡ false
not_true true e = absurd (true≢false (sym e))
not_true false e = refl

pub later_same : (p q : ℕ) (r s : Indexed) (t u : List ℕ) (i j : Instant) → r.instant ≡ Some i → s.instant ≡ Some j →
    is_later (q, s) (p, r) ≡ comes_later (entry_of u (instant_mark j) q) (entry_of t (instant_mark i) p)
later_same p q r s t u i j e f = ap (λ x. is_earlier x s.instant || (not (is_earlier s.instant x) && nat_lt p q)) e
    ∙ ap (λ x. is_earlier (Some i) x || (not (is_earlier x (Some i)) && nat_lt p q)) f

-- what is chosen
pub chosen : (all : List Indexed) (uri : List ℕ) (m : Instant) (e : Entry) →
    All (λ (r : Indexed). IsSome r.instant) all → IsLast (entries_from capture_entry 0 all) (IsUpTo uri (instant_mark
    m)) e → IsChosen all uri m e.position
chosen all uri m e timed last =
    let w : IsEntryOf capture_entry 0 all e = entry_in capture_entry 0 all e last.is_present in
    let c : IsCaptureEntry (0 + w.place) w.it e = capture_is (0 + w.place) w.it e w.is in
    let z : 0 + w.place ≡ w.place = omega arith in
    let is : e ≡ entry_of c.target (instant_mark c.instant) w.place = c.is
    ∙ ap (entry_of c.target (instant_mark c.instant)) z in
    let there : e.position ≡ w.place = ap (λ (f : Entry). f.position) is in
    let same : c.target ≡ uri = sym (ap (λ (f : Entry). f.text) is) ∙ last.passes.text_is in
    let early : mark_lt (instant_mark m) (instant_mark c.instant) ≡ false =
    sym (ap (λ (f : Entry). mark_lt (instant_mark m) f.mark) is) ∙ last.passes.up_to in
    subst (IsChosen all uri m) (sym there) record {
      it = w.it;
      is_present = w.is_present;
      capture = and_from (is_capture w.it.kind) (is_text uri w.it.target) c.kind (text_is uri w.it.target (c.has_target
          ∙ ap Some same));
      early = by_mark m w.it c.instant c.has_instant ∙ ap not early;
      last = λ q r at hit by1.
          let h : HasCaptureEntry uri all q r = capture_is_present all uri q r timed at hit in
          let up : mark_lt (instant_mark m) (instant_mark h.instant) ≡ false =
          not_true _ (sym (by_mark m r h.instant h.has_instant) ∙ by1) in
          later_same w.place q w.it r c.target uri c.instant h.instant c.has_instant h.has_instant
          ∙ (ap (λ f. comes_later (entry_of uri (instant_mark h.instant) q) f) (sym is)
          ∙ last.last (entry_of uri (instant_mark h.instant) q) h.is_present (record { text_is = refl; up_to = up }));
    }

least_mark : (a : Mark) → mark_lt a (record { major = 0; minor = 0 }) ≡ false
least_mark a = grind (arith, nat_tests)

-- no capture of a target
pub no_capture : (all : List Indexed) (uri : List ℕ) → All (λ (r : Indexed). IsSome r.instant) all →
    IsNone (entries_from capture_entry 0 all) (IsFrom uri (record { major = 0; minor = 0 })) →
    NonePasses (is_capture_of uri) all
no_capture all uri timed none q r at = elim (cases_Bool (is_capture_of uri r)) [
  | inl hit ↦
      let h : HasCaptureEntry uri all q r = capture_is_present all uri q r timed at hit in
      absurd (none (entry_of uri (instant_mark h.instant) q) h.is_present (record {
        text_is = refl;
        from =
            least_mark (instant_mark h.instant);
      }))
  | inr miss ↦ miss
]

-- one that isn't early enough
pub some_capture : (all : List Indexed) (uri : List ℕ) (mark : Mark) (e : Entry) →
    IsFirst (entries_from capture_entry 0 all) (IsFrom uri mark) e → SomePasses (is_capture_of uri) all
some_capture all uri mark e first =
    let w : IsEntryOf capture_entry 0 all e = entry_in capture_entry 0 all e first.is_present in
    let c : IsCaptureEntry (0 + w.place) w.it e = capture_is (0 + w.place) w.it e w.is in
    let same : c.target ≡ uri = sym (ap (λ (f : Entry). f.text) c.is) ∙ first.passes.text_is in (
      w.place,
      w.it,
      w.is_present,
      and_from (is_capture w.it.kind) (is_text uri w.it.target) c.kind (text_is uri w.it.target
          (c.has_target ∙ ap Some same)),
    )

pub none_early : (all : List Indexed) (uri : List ℕ) (m : Instant) → All (λ (r : Indexed). IsSome r.instant) all →
    IsNone (entries_from capture_entry 0 all) (IsUpTo uri (instant_mark m)) →
    NonePasses (λ r. is_capture_of uri r && is_by (Some m) r) all
none_early all uri m timed none q r at = elim (cases_Bool (is_capture_of uri r && is_by (Some m) r)) [
  | inl hit ↦
      let both = and_parts (is_capture_of uri r) (is_by (Some m) r) hit in
      let h : HasCaptureEntry uri all q r = capture_is_present all uri q r timed at both.0 in
      let up : mark_lt (instant_mark m) (instant_mark h.instant) ≡ false =
      not_true _ (sym (by_mark m r h.instant h.has_instant) ∙ both.1) in
      absurd (none (entry_of uri (instant_mark h.instant) q) h.is_present (record { text_is = refl; up_to = up }))
  | inr miss ↦ miss
]

-- ---- one more record and fewer

-- entries say the positions of their records
abbrev pub SaysPosition : (ℕ → Indexed → Option Entry) → Type 0
SaysPosition entry = (p : ℕ) (r : Indexed) (e : Entry) → entry p r ≡ Some e → e.position ≡ p

pub capture_says : SaysPosition capture_entry
capture_says p r e is = ap (λ (f : Entry). f.position) (capture_is p r e is).is

id_says_of : (p : ℕ) (mark : Mark) (o : Option (List ℕ)) (e : Entry) → id_entry_of p mark o ≡ Some e → e.position ≡ p
id_says_of p mark None e is = cc
id_says_of p mark (Some key) e is = let same : e ≡ entry_of key mark p = (cc) in ap (λ (f : Entry). f.position) same

pub id_says : SaysPosition id_entry
id_says p r e is = id_says_of p (kind_mark r.kind) r.id e is

one_below : (o : Option Entry) (p : ℕ) → ((e : Entry) → o ≡ Some e → e.position ≡ p) →
    All (λ (e : Entry). e.position < p + 1) (option_to_list o)
one_below None p says = λ k d h. absurd (omega arith)
one_below (Some e) p says = let at : e.position ≡ p = says e refl in
    All-cons (λ (f : Entry). f.position < p + 1) e [] (omega arith) (λ k d h. absurd (omega arith))

pub below_more : (entry : ℕ → Indexed → Option Entry) → SaysPosition entry → (es : List Entry) (p : ℕ) (r : Indexed) →
    IsBelow p es → IsBelow (p + 1) (es ++ option_to_list (entry p r))
below_more entry says es p r below = All-append (λ (e : Entry). e.position < p + 1) es (option_to_list (entry p r))
    (All-weaker (λ (e : Entry). e.position < p) (λ (e : Entry). e.position < p + 1) (λ e h. omega arith) es below)
    (one_below (entry p r) p (λ e is. says p r e is))

lt_true : (a b : ℕ) → a < b → nat_lt a b ≡ true
lt_true a b h = grind (arith, nat_tests)

lt_false : (a b : ℕ) → b ≤ a → nat_lt a b ≡ false
lt_false a b h = grind (arith, nat_tests)

keep_all : (es : List Entry) (p : ℕ) → IsBelow p es → filter (λ e. nat_lt e.position p) es ≡ es
keep_all [] p below = refl
keep_all (e ∷ es) p below =
    let hit : nat_lt e.position p ≡ true = lt_true e.position p (All-head (λ (e : Entry). e.position < p) e es below) in
    rw hit (ap (λ us. e ∷ us) (keep_all es p (All-tail (λ (e : Entry). e.position < p) e es below)))

drop_one : (o : Option Entry) (p : ℕ) → ((e : Entry) → o ≡ Some e → e.position ≡ p) →
    filter (λ (e : Entry). nat_lt e.position p) (option_to_list o) ≡ []
drop_one None p says = refl
drop_one (Some e) p says =
    let at : e.position ≡ p = says e refl in
    let miss : nat_lt e.position p ≡ false = lt_false e.position p (omega arith) in
    rw miss refl

-- one more taken back
pub entry_taken_back : (es : List Entry) (p : ℕ) (e : Entry) → e.position ≡ p → IsBelow p es
    → filter (λ e. nat_lt e.position p) (es ++ e ∷ []) ≡ es
entry_taken_back es p e at below =
    filter-append (λ (e : Entry). nat_lt e.position p) es (e ∷ [])
    ∙ (ap (λ us. us ++ filter (λ (e : Entry). nat_lt e.position p) (e ∷ [])) (keep_all es p below)
    ∙ (ap (λ us. es ++ us) (drop_one (Some e) p (λ f is. let same : f ≡ e = (cc) in ap (λ (f : Entry). f.position) same ∙ at))
    ∙ append-nil es))

keep_one : (o : Option Entry) (p n : ℕ) → p < n → ((e : Entry) → o ≡ Some e → e.position ≡ p) →
    filter (λ (e : Entry). nat_lt e.position n) (option_to_list o) ≡ option_to_list o
keep_one None p n h says = refl
keep_one (Some e) p n h says =
    let at : e.position ≡ p = says e refl in
    let hit : nat_lt e.position n ≡ true = lt_true e.position n (omega arith) in
    rw hit refl

drop_late : (o : Option Entry) (p n : ℕ) → n ≤ p → ((e : Entry) → o ≡ Some e → e.position ≡ p) →
    filter (λ (e : Entry). nat_lt e.position n) (option_to_list o) ≡ []
drop_late None p n h says = refl
drop_late (Some e) p n h says =
    let at : e.position ≡ p = says e refl in
    let miss : nat_lt e.position n ≡ false = lt_false e.position n (omega arith) in
    rw miss refl

none_kept : (entry : ℕ → Indexed → Option Entry) → SaysPosition entry → (p n : ℕ) (all : List Indexed) → n ≤ p →
    filter (λ (e : Entry). nat_lt e.position n) (entries_from entry p all) ≡ []
none_kept entry says p n [] h = refl
none_kept entry says p n (r ∷ all) h =
    filter-append (λ (e : Entry). nat_lt e.position n) (option_to_list (entry p r)) (entries_from entry (p + 1) all)
    ∙ (ap (λ us. us ++ filter (λ (e : Entry). nat_lt e.position n) (entries_from entry (p + 1) all)) (drop_late (entry
    p r) p n h (λ e is. says p r e is))
    ∙ none_kept entry says (p + 1) n all (omega arith))

-- the first records alone
pub entries_take : (entry : ℕ → Indexed → Option Entry) → SaysPosition entry → (p n : ℕ) (all : List Indexed) →
    entries_from entry p (take n all) ≡ filter (λ (e : Entry). nat_lt e.position (p + n)) (entries_from entry p all)
entries_take entry says p zero all = sym (none_kept entry says p (p + 0) all (omega arith))
entries_take entry says p (suc n) [] = refl
entries_take entry says p (suc n) (r ∷ all) =
    let z : (p + 1) + n ≡ p + suc n = omega arith in
    sym (filter-append (λ (e : Entry). nat_lt e.position (p + suc n)) (option_to_list (entry p r)) (entries_from entry
    (p + 1) all)
    ∙ (ap (λ us. us ++ filter (λ (e : Entry). nat_lt e.position (p + suc n)) (entries_from entry (p + 1) all))
    (keep_one (entry p r) p (p + suc n) (omega arith) (λ e is. says p r e is))
    ∙ ap (λ us. option_to_list (entry p r) ++ us) (sym (entries_take entry says (p + 1) n all
    ∙ ap (λ m. filter (λ (e : Entry). nat_lt e.position m) (entries_from entry (p + 1) all)) z))))

pub kept_more : (all : List Indexed) (kept more : Indexes) (r : Indexed) → IsSome r.instant → IsIndexOf all kept →
    more.count ≡ kept.count + 1 → more.ids ≡ kept.ids ++ option_to_list (id_entry kept.count r) →
    more.captures ≡ kept.captures ++ option_to_list (capture_entry kept.count r) →
    more.links ≡ kept.links ++ link_of r ∷ [] → IsIndexOf (all ++ r ∷ []) more
kept_more all kept more r timed it n i c l2 =
    let l : length (all ++ r ∷ []) ≡ length all + 1 = length-append all (r ∷ []) in
    let z : 0 + length all ≡ kept.count = omega (arith, it.count) in
    record {
      timed = All-push (λ (r : Indexed). IsSome r.instant) all r it.timed timed;
      count = n ∙ (ap (λ m. m + 1) it.count ∙ sym l);
      ids = i ∙ (ap (λ es. es ++ option_to_list (id_entry kept.count r)) it.ids
          ∙ (ap (λ m. entries_from id_entry 0 all ++ option_to_list (id_entry m r)) (sym z)
          ∙ sym (entries_push id_entry 0 all r)));
      captures = c ∙ (ap (λ es. es ++ option_to_list (capture_entry kept.count r)) it.captures
          ∙ (ap (λ m. entries_from capture_entry 0 all ++ option_to_list (capture_entry m r)) (sym z)
          ∙ sym (entries_push capture_entry 0 all r)));
      links = l2 ∙ (ap (λ ls. ls ++ link_of r ∷ []) it.links ∙ sym (map-append link_of all (r ∷ [])));
    }

pub kept_fewer : (all : List Indexed) (kept less : Indexes) (n : ℕ) → n < kept.count → IsIndexOf all kept →
    less.count ≡ n → less.ids ≡ filter (λ e. nat_lt e.position n) kept.ids →
    less.captures ≡ filter (λ e. nat_lt e.position n) kept.captures → less.links ≡ take n kept.links →
    IsIndexOf (take n all) less
kept_fewer all kept less n lt it l i c l2 =
    let k : kept.count ≡ length all = it.count in
    let z : 0 + n ≡ n = omega arith in
    record {
      timed = All-take (λ (r : Indexed). IsSome r.instant) n all it.timed;
      count = l ∙ sym (length-take-le n all (omega arith));
      ids = i ∙ (ap (λ es. filter (λ e. nat_lt e.position n) es) it.ids
          ∙ (ap (λ m. filter (λ e. nat_lt e.position m) (entries_from id_entry 0 all)) (sym z)
          ∙ sym (entries_take id_entry id_says 0 n all)));
      captures = c ∙ (ap (λ es. filter (λ e. nat_lt e.position n) es) it.captures
          ∙ (ap (λ m. filter (λ e. nat_lt e.position m) (entries_from capture_entry 0 all)) (sym z)
          ∙ sym (entries_take capture_entry capture_says 0 n all)));
      links = l2 ∙ (ap (take n) it.links ∙ take-map link_of n all);
    }

pub kept_same : (all : List Indexed) (kept : Indexes) (n : ℕ) → kept.count ≤ n → IsIndexOf all kept →
    IsIndexOf (take n all) kept
kept_same all kept n le it =
    let k : kept.count ≡ length all = it.count in
    rw (take_all n all (omega arith)) it

lt_holds : (q m : ℕ) → nat_lt q m ≡ true → q < m
lt_holds q m e = grind (arith, nat_tests)

pub below_kept : (es : List Entry) (n : ℕ) → IsBelow n (filter (λ e. nat_lt e.position n) es)
below_kept es n k d h = lt_holds _ n (filter_passes (λ (e : Entry). nat_lt e.position n) es k d h)

-- ---- the first with an id

pub position_at : (t : Indexed → Bool) (all : List Indexed) (k : ℕ) (r : Indexed) → slice_get all k ≡ Some r →
    t r ≡ true → ((j : ℕ) (s : Indexed) → j < k → slice_get all j ≡ Some s → t s ≡ false) → position t all ≡ Some k
position_at t all k r at hit miss =
    let lt : k < length all = slice_get_within all k r at in
    let first : position_or_len t all ≡ k = position_or_len_is t all k r (omega arith)
    (λ j h. miss j (get_or all j r) h (slice_get-get_or all j r (omega arith)))
    (λ h. ap t (get_or_from_slice_get all k r r at) ∙ hit) in
    ap (λ n. cond (nat_lt n (length all)) (Some n) None) first
    ∙ ap (λ b. cond b (Some k) None) (lt_true k (length all) lt)

pub position_none : (t : Indexed → Bool) (all : List Indexed) → ((j : ℕ) (s : Indexed) → slice_get all j ≡ Some s →
    t s ≡ false) → position t all ≡ None
position_none t [] miss = refl
position_none t (x ∷ all) miss =
    let n : ℕ = length (x ∷ all) in
    let first : position_or_len t (x ∷ all) ≡ n = position_or_len_is t (x ∷ all) n x (omega arith)
    (λ j h. miss j (get_or (x ∷ all) j x) (slice_get-get_or (x ∷ all) j x h))
    (λ h. absurd (omega arith)) in
    ap (λ m. cond (nat_lt m n) (Some m) None) first ∙ ap (λ b. cond b (Some n) None) (lt_false n n (omega arith))

-- the entry of a record in the order by id
pub record IsIdEntry (p : ℕ) (r : Indexed) (e : Entry) : Type 0 where
  pub key : List ℕ
  pub has_id : r.id ≡ Some key
  pub is : e ≡ entry_of key (kind_mark r.kind) p

id_is_of : (p : ℕ) (mark : Mark) (o : Option (List ℕ)) (e : Entry) → id_entry_of p mark o ≡ Some e →
    (key : List ℕ) × (o ≡ Some key) × (e ≡ entry_of key mark p)
id_is_of p mark None e is = cc
id_is_of p mark (Some key) e is = let same : e ≡ entry_of key mark p = (cc) in (key, refl, same)

id_is : (p : ℕ) (r : Indexed) (e : Entry) → id_entry p r ≡ Some e → IsIdEntry p r e
id_is p r e is = let w = id_is_of p (kind_mark r.kind) r.id e is in record { key = w.0; has_id = w.1; is = w.2 }

captures_mark : (r : Indexed) → is_capture r.kind ≡ true → kind_mark r.kind ≡ record { major = 0; minor = 0 }
captures_mark r e = ap (λ b. record { major = if b then 0 else 1; minor = 0 }) e

others_mark : (r : Indexed) → is_capture r.kind ≡ false → kind_mark r.kind ≡ record { major = 1; minor = 0 }
others_mark r e = ap (λ b. record { major = if b then 0 else 1; minor = 0 }) e

-- a capture with an id has its entry
key_is_present : (all : List Indexed) (key : List ℕ) (q : ℕ) (r : Indexed) → slice_get all q ≡ Some r →
    has_key key r ≡ true → Contains (entries_from id_entry 0 all) (entry_of key (record { major = 0; minor = 0 }) q)
key_is_present all key q r at hit =
    let both = and_parts (is_capture r.kind) (is_text key r.id) hit in
    let z : 0 + q ≡ q = omega arith in
    entry_is_present id_entry 0 all q r (entry_of key (record { major = 0; minor = 0 }) q) at
    (ap (λ n. id_entry n r) z ∙ (ap (id_entry_of q (kind_mark r.kind)) (text_found key r.id both.1)
    ∙ ap (λ m. Some (entry_of key m q)) (captures_mark r both.0)))

least_from : (key : List ℕ) (q : ℕ) → IsFrom key (record { major = 0; minor = 0 }) (entry_of key (record {
  major =
      0;
  minor = 0;
}) q)
least_from key q = record { text_is = refl; from = refl }

later_there : (key text : List ℕ) (p q : ℕ) → q < p → comes_later (entry_of text (record {
  major = 0;
  minor =
      0;
}) p) (entry_of key (record { major = 0; minor = 0 }) q) ≡ true
later_there key text p q h = lt_true q p h

pub first_key : (all : List Indexed) (key : List ℕ) (e : Entry) →
    IsFirst (entries_from id_entry 0 all) (IsFrom key (record { major = 0; minor = 0 })) e → e.mark.major ≡ 0 →
    by_key all key ≡ Some e.position
first_key all key e first zero1 =
    let w : IsEntryOf id_entry 0 all e = entry_in id_entry 0 all e first.is_present in
    let c : IsIdEntry (0 + w.place) w.it e = id_is (0 + w.place) w.it e w.is in
    let z : 0 + w.place ≡ w.place = omega arith in
    let is : e ≡ entry_of c.key (kind_mark w.it.kind) w.place = c.is ∙ ap (entry_of c.key (kind_mark w.it.kind)) z in
    let there : e.position ≡ w.place = ap (λ (f : Entry). f.position) is in
    let same : c.key ≡ key = sym (ap (λ (f : Entry). f.text) is) ∙ first.passes.text_is in
    elim (cases_Bool (is_capture w.it.kind)) [
      | inl yes1 ↦
          let at : e ≡ entry_of c.key (record { major = 0; minor = 0 }) w.place = is
          ∙ ap (λ m. entry_of c.key m w.place) (captures_mark w.it yes1) in
          position_at (has_key key) all w.place w.it w.is_present
          (and_from (is_capture w.it.kind) (is_text key w.it.id) yes1 (text_is key w.it.id (c.has_id ∙ ap Some same)))
          (λ j r h is_present. elim (cases_Bool (has_key key r)) [
            | inl hit ↦ absurd (true≢false (sym (later_there key c.key w.place j h)
                ∙ (ap (λ f. comes_later f (entry_of key (record { major = 0; minor = 0 }) j)) (sym at)
                ∙ first.first (entry_of key (record {
                  major = 0;
                  minor =
                      0;
                }) j) (key_is_present all key j r is_present hit) (least_from key j))))
            | inr miss ↦ miss
          ])
          ∙ ap Some (sym there)
      | inr no1 ↦
          let one : e.mark.major ≡ 1 = ap (λ (f : Entry). f.mark.major) is
          ∙ ap (λ (m : Mark). m.major) (others_mark w.it no1) in
          absurd (omega (arith, one, zero1))
    ]

above_zero : (key : List ℕ) (j : ℕ) (e : Entry) → (e.mark.major ≡ 0 → ⊥) →
    comes_later e (entry_of key (record { major = 0; minor = 0 }) j) ≡ true
above_zero key j e some1 =
    let lt : nat_lt 0 e.mark.major ≡ true = lt_true 0 e.mark.major (omega arith) in
    rw lt refl

pub other_key : (all : List Indexed) (key : List ℕ) (e : Entry) →
    IsFirst (entries_from id_entry 0 all) (IsFrom key (record { major = 0; minor = 0 })) e → (e.mark.major ≡ 0 → ⊥) →
    by_key all key ≡ None
other_key all key e first some1 =
    position_none (has_key key) all (λ j r is_present. elim (cases_Bool (has_key key r)) [
      | inl hit ↦
          let quiet : comes_later e (entry_of key (record { major = 0; minor = 0 }) j) ≡ false =
          first.first (entry_of key (record {
            major = 0;
            minor =
                0;
          }) j) (key_is_present all key j r is_present hit) (least_from key j) in
          absurd (true≢false (sym (above_zero key j e some1) ∙ quiet))
      | inr miss ↦ miss
    ])

pub no_key : (all : List Indexed) (key : List ℕ) → IsNone (entries_from id_entry 0 all) (IsFrom key (record {
  major =
      0;
  minor = 0;
})) → by_key all key ≡ None
no_key all key none =
    position_none (has_key key) all (λ j r is_present. elim (cases_Bool (has_key key r)) [
      | inl hit ↦ absurd (none (entry_of key (record {
        major = 0;
        minor =
            0;
      }) j) (key_is_present all key j r is_present hit) (least_from key j))
      | inr miss ↦ miss
    ])

-- ---- the first of any kind with an id

-- a record with an id has its entry
id_is_present : (all : List Indexed) (key : List ℕ) (q : ℕ) (r : Indexed) → slice_get all q ≡ Some r →
    is_text key r.id ≡ true → Contains (entries_from id_entry 0 all) (entry_of key (kind_mark r.kind) q)
id_is_present all key q r at hit =
    let z : 0 + q ≡ q = omega arith in
    entry_is_present id_entry 0 all q r (entry_of key (kind_mark r.kind) q) at
    (ap (λ n. id_entry n r) z ∙ ap (id_entry_of q (kind_mark r.kind)) (text_found key r.id hit))

later_at : (key : List ℕ) (m : Mark) (j : ℕ) (e : Entry) → mark_lt e.mark m ≡ false → j < e.position →
    comes_later e (entry_of key m j) ≡ true
later_at key m j e not_below h =
    let lt : nat_lt j e.position ≡ true = lt_true j e.position h in
    ap (λ b. mark_lt m e.mark || (not b && nat_lt j e.position)) not_below ∙ (ap (λ b. mark_lt m e.mark || b) lt
    ∙ or_true (mark_lt m e.mark))
  where
    or_true : (b : Bool) → (b || true) ≡ true
    or_true true = refl
    or_true false = refl

before_first : (all : List Indexed) (key : List ℕ) (m : Mark) (e : Entry) →
    IsFirst (entries_from id_entry 0 all) (IsFrom key m) e → mark_lt m m ≡ false → (j : ℕ) (r : Indexed) →
    slice_get all j ≡ Some r → is_text key r.id ≡ true → kind_mark r.kind ≡ m → j < e.position → ⊥
before_first all key m e first itself j r at hit same h =
    let there : Contains (entries_from id_entry 0 all) (entry_of key m j) =
    subst (λ w. Contains (entries_from id_entry 0 all) (entry_of key w j)) same (id_is_present all key j r at hit) in
    true≢false (sym (later_at key m j e first.passes.from h) ∙ first.first (entry_of key m j) there (record {
      text_is =
          refl;
      from = itself;
    }))

-- a record with the id is at the position
pub record HasIdAt (all : List Indexed) (key : List ℕ) (p : ℕ) : Type 0 where
  pub it : Indexed
  pub is_present : slice_get all p ≡ Some it
  pub hit : is_text key it.id ≡ true

id_at : (all : List Indexed) (key : List ℕ) (m : Mark) (e : Entry) →
    IsFirst (entries_from id_entry 0 all) (IsFrom key m) e → HasIdAt all key e.position
id_at all key m e first =
    let w : IsEntryOf id_entry 0 all e = entry_in id_entry 0 all e first.is_present in
    let c : IsIdEntry (0 + w.place) w.it e = id_is (0 + w.place) w.it e w.is in
    let z : 0 + w.place ≡ w.place = omega arith in
    let there : w.place ≡ e.position = sym (ap (λ (f : Entry). f.position) c.is ∙ z) in
    let same : c.key ≡ key = sym (ap (λ (f : Entry). f.text) c.is) ∙ first.passes.text_is in
    subst (HasIdAt all key) there record {
      it = w.it;
      is_present = w.is_present;
      hit = text_is key w.it.id (c.has_id
          ∙ ap Some same);
    }

-- no record with the id before both
pub first_of_both : (all : List Indexed) (key : List ℕ) (e f : Entry) →
    IsFirst (entries_from id_entry 0 all) (IsFrom key (record { major = 0; minor = 0 })) e →
    IsFirst (entries_from id_entry 0 all) (IsFrom key (record { major = 1; minor = 0 })) f → (p : ℕ) →
    p ≤ e.position → p ≤ f.position → HasIdAt all key p → first_with all key ≡ Some p
first_of_both all key e f a b p le lf has =
    position_at (λ r. is_text key r.id) all p has.it has.is_present has.hit (λ j r h at. elim (cases_Bool (is_text key
    r.id)) [
      | inl hit ↦ elim (cases_Bool (is_capture r.kind)) [
        | inl yes1 ↦ absurd (before_first all key (record {
          major = 0;
          minor =
              0;
        }) e a refl j r at hit (captures_mark r yes1) (omega arith))
        | inr no1 ↦ absurd (before_first all key (record {
          major = 1;
          minor =
              0;
        }) f b refl j r at hit (others_mark r no1) (omega arith))
      ]
      | inr miss ↦ miss
    ])

pub least_of_both : (all : List Indexed) (key : List ℕ) (e f : Entry) →
    IsFirst (entries_from id_entry 0 all) (IsFrom key (record { major = 0; minor = 0 })) e →
    IsFirst (entries_from id_entry 0 all) (IsFrom key (record { major = 1; minor = 0 })) f →
    first_with all key ≡ Some (min e.position f.position)
least_of_both all key e f a b = elim (cases_lt e.position f.position) [
  | inl low ↦ first_of_both all key e f a b e.position (omega arith) (omega arith) (id_at all key (record {
    major =
        0;
    minor = 0;
  }) e a) ∙ ap Some (let z : e.position ≡ min e.position f.position = omega arith in z)
  | inr high ↦ first_of_both all key e f a b f.position (omega arith) (omega arith) (id_at all key (record {
    major =
        1;
    minor = 0;
  }) f b) ∙ ap Some (let z : f.position ≡ min e.position f.position = omega arith in z)
]

pub first_alone : (all : List Indexed) (key : List ℕ) (e : Entry) →
    IsFirst (entries_from id_entry 0 all) (IsFrom key (record { major = 0; minor = 0 })) e →
    IsNone (entries_from id_entry 0 all) (IsFrom key (record { major = 1; minor = 0 })) →
    first_with all key ≡ Some e.position
first_alone all key e a none =
    let has : HasIdAt all key e.position = id_at all key (record { major = 0; minor = 0 }) e a in
    position_at (λ r. is_text key r.id) all e.position has.it has.is_present has.hit (λ j r h at. elim (cases_Bool (is_text
    key r.id)) [
      | inl hit ↦ elim (cases_Bool (is_capture r.kind)) [
        | inl yes1 ↦ absurd (before_first all key (record {
          major = 0;
          minor =
              0;
        }) e a refl j r at hit (captures_mark r yes1) h)
        | inr no1 ↦
            let there : Contains (entries_from id_entry 0 all) (entry_of key (record { major = 1; minor = 0 }) j) =
            subst (λ w. Contains (entries_from id_entry 0 all) (entry_of key w j)) (others_mark r no1) (id_is_present
            all key j r at hit) in
            absurd (none (entry_of key (record { major = 1; minor = 0 }) j) there (record {
              text_is = refl;
              from =
                  refl;
            }))
      ]
      | inr miss ↦ miss
    ])

pub none_with : (all : List Indexed) (key : List ℕ) → IsNone (entries_from id_entry 0 all) (IsFrom key (record {
  major
      = 0;
  minor = 0;
})) → first_with all key ≡ None
none_with all key none =
    position_none (λ r. is_text key r.id) all (λ j r at. elim (cases_Bool (is_text key r.id)) [
      | inl hit ↦ absurd (none (entry_of key (kind_mark r.kind) j) (id_is_present all key j r at hit) (record {
        text_is =
            refl;
        from = least_mark (kind_mark r.kind);
      }))
      | inr miss ↦ miss
    ])

-- ---- the captures and the links alone

pub placed_of : (all : List Indexed) (count : ℕ) (ids es : List Entry) (ls : List Link) (kept : Indexes) →
    record { count = count; ids = ids; captures = es; links = ls } ≡ kept → IsIndexOf all kept → ArePlacedOf all es ls
placed_of all count ids es ls kept is it = record {
  timed = it.timed;
  captures = ap (λ (k : Indexes). k.captures) is ∙ it.captures;
  links = ap (λ (k : Indexes). k.links) is ∙ it.links;
}

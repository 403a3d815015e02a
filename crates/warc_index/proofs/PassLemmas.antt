-- A pass along the entries of a text, forward or back: it meets each that is on the way.
use Rattle.std.proofs.Common.{◌≡◌, ℕ, zero, suc, ◌<◌, ◌≤◌, Bool, true, false, not, ◌&&◌, ◌||◌, ◌==◌, List, [], ◌∷◌, length, Option, Some, None, refl, sym, ◌∙◌, ap, subst, arith, inl, inr, true≢false, if◌then◌else◌}
use Rattle.std.specs.Prelude.{Contains, nat_lt, MatchOption, IfSome, IfNone}
use Rattle.std.proofs.lemmas.Bool.{cases_Bool}
use Rattle.std.proofs.lemmas.Bool.Decides.{nat_tests}
use Rattle.warc_order.specs.declared.FoundEntry.{FoundEntry}
use Rattle.warc_order.specs.declared.mark.Mark.{Mark}
use Rattle.warc_order.specs.Entries.{Entry, entry_at, comes_later, IsFrom, IsUpTo, IsAfter, IsBefore, IsFirst, IsLast, IsNone}

-- ---- ways

-- the second is ahead of the first, on the way forward and on the way back
abbrev pub forward : Entry → Entry → Bool
forward e q = comes_later q e

abbrev pub back : Entry → Entry → Bool
back e q = comes_later e q

-- a way along the entries of a text that pass
pub record IsWay (ahead : Entry → Entry → Bool) (text : List ℕ) (Passes : Entry → Type 0) : Type 0 where
  pub onward : (a b c : Entry) → ahead a b ≡ true → ahead b c ≡ true → ahead a c ≡ true
  pub apart : (a : Entry) → ahead a a ≡ false
  pub tie : (a b : Entry) → ahead a b ≡ false → ahead b a ≡ false → (b.mark ≡ a.mark) × (b.position ≡ a.position)
  pub of_text : (a : Entry) → Passes a → a.text ≡ text
  pub stays : (a b : Entry) → Passes a → b.text ≡ text → ahead a b ≡ true → Passes b

numbers_later : (m n p x y z : ℕ) → Bool
numbers_later m n p x y z =
    (nat_lt x m || (x == m && nat_lt y n)) || (not (nat_lt m x || (m == x && nat_lt n y)) && nat_lt z p)

numbers_onward : (m n p x y z u v w : ℕ) → numbers_later m n p x y z ≡ true → numbers_later x y z u v w ≡ true →
    numbers_later m n p u v w ≡ true
unfolding numbers_later
numbers_onward m n p x y z u v w a b = grind (arith, nat_tests)

numbers_apart : (m n p : ℕ) → numbers_later m n p m n p ≡ false
unfolding numbers_later
numbers_apart m n p = grind (arith, nat_tests)

numbers_tie : (m n p x y z : ℕ) → numbers_later m n p x y z ≡ false → numbers_later x y z m n p ≡ false →
    (x ≡ m) × (y ≡ n) × (z ≡ p)
unfolding numbers_later
numbers_tie m n p x y z a b = (grind (arith, nat_tests), grind (arith, nat_tests), grind (arith, nat_tests))

later_numbers : (a b : Entry) → comes_later a b ≡ numbers_later a.mark.major a.mark.minor a.position b.mark.major
    b.mark.minor b.position
unfolding numbers_later
later_numbers a b = refl

later_onward : (a b c : Entry) → comes_later a b ≡ true → comes_later b c ≡ true → comes_later a c ≡ true
later_onward a b c h k = later_numbers a c ∙ numbers_onward _ _ _ b.mark.major b.mark.minor b.position _ _ _ (sym
    (later_numbers a b) ∙ h) (sym (later_numbers b c) ∙ k)

later_apart : (a : Entry) → comes_later a a ≡ false
later_apart a = later_numbers a a ∙ numbers_apart _ _ _

same_mark : (a b : Mark) → a.major ≡ b.major → a.minor ≡ b.minor → a ≡ b
same_mark a b e f = λ i. record { major = e i; minor = f i }

later_tie : (a b : Entry) → comes_later a b ≡ false → comes_later b a ≡ false → (b.mark ≡ a.mark) × (b.position ≡ a.position)
later_tie a b h k =
    let w = numbers_tie a.mark.major a.mark.minor a.position b.mark.major b.mark.minor b.position (sym (later_numbers a
    b) ∙ h) (sym (later_numbers b a) ∙ k) in
    (same_mark b.mark a.mark w.0 w.1, w.2)

-- a later entry isn't below a mark that the first isn't below
numbers_from : (m n p x y z i j : ℕ) → (nat_lt m i || (m == i && nat_lt n j)) ≡ false →
    numbers_later x y z m n p ≡ true → (nat_lt x i || (x == i && nat_lt y j)) ≡ false
unfolding numbers_later
numbers_from m n p x y z i j a b = grind (arith, nat_tests)

numbers_up_to : (m n p x y z i j : ℕ) → (nat_lt i m || (i == m && nat_lt j n)) ≡ false →
    numbers_later m n p x y z ≡ true → (nat_lt i x || (i == x && nat_lt j y)) ≡ false
unfolding numbers_later
numbers_up_to m n p x y z i j a b = grind (arith, nat_tests)

pub forward_way : (text : List ℕ) (mark : Mark) → IsWay forward text (IsFrom text mark)
forward_way text mark = record {
  onward = λ a b c h k. later_onward c b a k h;
  apart = later_apart;
  tie = λ a b h k. later_tie a b k h;
  of_text = λ a is. is.text_is;
  stays = λ a b is t h. record {
    text_is = t;
    from = numbers_from a.mark.major a.mark.minor a.position b.mark.major b.mark.minor b.position mark.major mark.minor
        is.from (sym (later_numbers b a) ∙ h);
  };
}

pub back_way : (text : List ℕ) (mark : Mark) → IsWay back text (IsUpTo text mark)
back_way text mark = record {
  onward = later_onward;
  apart = later_apart;
  tie = later_tie;
  of_text = λ a is. is.text_is;
  stays = λ a b is t h. record {
    text_is = t;
    up_to = numbers_up_to a.mark.major a.mark.minor a.position b.mark.major b.mark.minor b.position mark.major
        mark.minor is.up_to (sym (later_numbers a b) ∙ h);
  };
}

-- ---- what was met

-- a test of an entry by its mark and position
abbrev pub tested : (Mark → ℕ → Bool) → Entry → Bool
tested test e = test e.mark e.position

-- the entry at i passes, and those that pass and were met before it fail the test
pub record IsReached (ahead : Entry → Entry → Bool) (es : List Entry) (Passes : Entry → Type 0)
    (test : Mark → ℕ → Bool) (i : ℕ) : Type 0 where
  pub within : i < length es
  pub passes : Passes (entry_at es i)
  pub before : (q : Entry) → Contains es q → Passes q → ahead q (entry_at es i) ≡ true → tested test q ≡ false

-- all that pass fail the test
abbrev pub IsMissed : List Entry → (Entry → Type 0) → (Mark → ℕ → Bool) → Type 0
IsMissed es Passes test = (q : Entry) → Contains es q → Passes q → tested test q ≡ false

abbrev pub IsOnWay : (Entry → Entry → Bool) → List Entry → (Entry → Type 0) → (Mark → ℕ → Bool) → Option FoundEntry → Type 0
IsOnWay ahead es Passes test next =
    MatchOption next (IsMissed es Passes test) (λ found. IsReached ahead es Passes test found.index)

-- the first on the way, and the next one
pub record IsStart (ahead : Entry → Entry → Bool) (es : List Entry) (Passes : Entry → Type 0) (e : Entry) : Type 0 where
  pub passes : Passes e
  pub first : (q : Entry) → Contains es q → Passes q → ahead q e ≡ false

pub record IsStep (ahead : Entry → Entry → Bool) (es : List Entry) (e f : Entry) : Type 0 where
  pub is_present : Contains es f
  pub text : f.text ≡ e.text
  pub further : ahead e f ≡ true
  pub first : (q : Entry) → Contains es q → q.text ≡ e.text → ahead e q ≡ true → ahead q f ≡ false

abbrev pub IsEnd : (Entry → Entry → Bool) → List Entry → Entry → Type 0
IsEnd ahead es e = (q : Entry) → Contains es q → q.text ≡ e.text → ahead e q ≡ true → ⊥

pub starts : (ahead : Entry → Entry → Bool) (es : List Entry) (Passes : Entry → Type 0) (test : Mark → ℕ → Bool)
    (i : ℕ) → i < length es → IsStart ahead es Passes (entry_at es i) → IsReached ahead es Passes test i
starts ahead es Passes test i lt start = record {
  within = lt;
  passes = start.passes;
  before = λ q at is h. absurd (true≢false (sym h ∙ start.first q at is));
}

-- one that was met up to e fails the test, where e does
met : (ahead : Entry → Entry → Bool) (text : List ℕ) (Passes : Entry → Type 0) → IsWay ahead text Passes →
    (es : List Entry) (test : Mark → ℕ → Bool) (i : ℕ) → IsReached ahead es Passes test i →
    tested test (entry_at es i) ≡ false → (q : Entry) → Contains es q → Passes q → ahead (entry_at es i) q ≡ false →
    tested test q ≡ false
met ahead text Passes way es test i reached miss q at is h = elim (cases_Bool (ahead q (entry_at es i))) [
  | inl earlier ↦ reached.before q at is earlier
  | inr level ↦
      let same = way.tie (entry_at es i) q h level in
      ap (λ (m : Mark). test m q.position) same.0 ∙ (ap (test (entry_at es i).mark) same.1 ∙ miss)
]

pub steps : (ahead : Entry → Entry → Bool) (text : List ℕ) (Passes : Entry → Type 0) → IsWay ahead text Passes →
    (es : List Entry) (test : Mark → ℕ → Bool) (i j : ℕ) → IsReached ahead es Passes test i →
    tested test (entry_at es i) ≡ false → j < length es → IsStep ahead es (entry_at es i) (entry_at es j) →
    IsReached ahead es Passes test j
steps ahead text Passes way es test i j reached miss lt step =
    let e : Entry = entry_at es i in
    let t : e.text ≡ text = way.of_text e reached.passes in
    record {
      within = lt;
      passes = way.stays e (entry_at es j) reached.passes (step.text ∙ t) step.further;
      before = λ q at is h. elim (cases_Bool (ahead e q)) [
        | inl on ↦ absurd (true≢false (sym h ∙ step.first q at (way.of_text q is ∙ sym t) on))
        | inr off ↦ met ahead text Passes way es test i reached miss q at is off
      ];
    }

pub ends : (ahead : Entry → Entry → Bool) (text : List ℕ) (Passes : Entry → Type 0) → IsWay ahead text Passes →
    (es : List Entry) (test : Mark → ℕ → Bool) (i : ℕ) → IsReached ahead es Passes test i →
    tested test (entry_at es i) ≡ false → IsEnd ahead es (entry_at es i) → IsMissed es Passes test
ends ahead text Passes way es test i reached miss end q at is = elim (cases_Bool (ahead (entry_at es i) q)) [
  | inl on ↦ absurd (end q at (way.of_text q is ∙ sym (way.of_text (entry_at es i) reached.passes)) on)
  | inr off ↦ met ahead text Passes way es test i reached miss q at is off
]

-- ---- it comes to an end

-- how many are ahead of an entry
unfoldable pub ahead_of : (Entry → Entry → Bool) → Entry → List Entry → ℕ
ahead_of ahead e [] = 0
ahead_of ahead e (q ∷ es) = if ahead e q then suc (ahead_of ahead e es) else ahead_of ahead e es

ahead_hit : (ahead : Entry → Entry → Bool) (e q : Entry) (es : List Entry) → ahead e q ≡ true →
    ahead_of ahead e (q ∷ es) ≡ suc (ahead_of ahead e es)
unfolding ahead_of
ahead_hit ahead e q es h = ap (λ b. if b then suc (ahead_of ahead e es) else ahead_of ahead e es) h

ahead_miss : (ahead : Entry → Entry → Bool) (e q : Entry) (es : List Entry) → ahead e q ≡ false →
    ahead_of ahead e (q ∷ es) ≡ ahead_of ahead e es
unfolding ahead_of
ahead_miss ahead e q es h = ap (λ b. if b then suc (ahead_of ahead e es) else ahead_of ahead e es) h

none_ahead : (ahead : Entry → Entry → Bool) (e : Entry) → ahead_of ahead e [] ≡ 0
unfolding ahead_of
none_ahead ahead e = refl

fewer : (ahead : Entry → Entry → Bool) (e f : Entry) (es : List Entry) → ((q : Entry) → ahead f q ≡ true →
    ahead e q ≡ true) → ahead_of ahead f es ≤ ahead_of ahead e es
fewer ahead e f [] on = omega (arith, none_ahead ahead e, none_ahead ahead f)
fewer ahead e f (q ∷ es) on =
    let rest : ahead_of ahead f es ≤ ahead_of ahead e es = fewer ahead e f es on in
    elim (cases_Bool (ahead f q)) [
      | inl yes1 ↦ omega (arith, ahead_hit ahead f q es yes1, ahead_hit ahead e q es (on q yes1))
      | inr no1 ↦ elim (cases_Bool (ahead e q)) [
        | inl hit ↦ omega (arith, ahead_miss ahead f q es no1, ahead_hit ahead e q es hit)
        | inr miss ↦ omega (arith, ahead_miss ahead f q es no1, ahead_miss ahead e q es miss)
      ]
    ]

pub falls : (ahead : Entry → Entry → Bool) (text : List ℕ) (Passes : Entry → Type 0) → IsWay ahead text Passes →
    (e f : Entry) (es : List Entry) → Contains es f → ahead e f ≡ true → ahead_of ahead f es < ahead_of ahead e es
falls ahead text Passes way e f [] at h = absurd (let lt : at.0 < 0 = at.1 in omega arith)
falls ahead text Passes way e f (q ∷ es) (zero, lt, is) h =
    let z : q ≡ f = is in
    let hit : ahead e q ≡ true = ap (ahead e) z ∙ h in
    let miss : ahead f q ≡ false = ap (ahead f) z ∙ way.apart f in
    let rest : ahead_of ahead f es ≤ ahead_of ahead e es = fewer ahead e f es (λ x k. way.onward e f x h k) in
    omega (arith, ahead_hit ahead e q es hit, ahead_miss ahead f q es miss)
falls ahead text Passes way e f (q ∷ es) (suc k, lt, is) h =
    let l : k < length es = omega arith in
    let rest : ahead_of ahead f es < ahead_of ahead e es = falls ahead text Passes way e f es (k, l, is) h in
    elim (cases_Bool (ahead f q)) [
      | inl yes1 ↦ omega (arith, ahead_hit ahead f q es yes1, ahead_hit ahead e q es (way.onward e f q h yes1))
      | inr no1 ↦ elim (cases_Bool (ahead e q)) [
        | inl hit ↦ omega (arith, ahead_miss ahead f q es no1, ahead_hit ahead e q es hit)
        | inr miss ↦ omega (arith, ahead_miss ahead f q es no1, ahead_miss ahead e q es miss)
      ]
    ]

-- what is left of the way
abbrev pub left : (Entry → Entry → Bool) → List Entry → Option FoundEntry → ℕ
left ahead es None = 0
left ahead es (Some found) = suc (ahead_of ahead (entry_at es found.index) es)

-- ---- as the code steps

pub reached_some : (ahead : Entry → Entry → Bool) (es : List Entry) (Passes : Entry → Type 0) (test : Mark → ℕ → Bool)
    (o : Option FoundEntry) (found : FoundEntry) → o ≡ Some found → IsOnWay ahead es Passes test o →
    IsReached ahead es Passes test found.index
reached_some ahead es Passes test o found is on = subst (IsOnWay ahead es Passes test) is on

pub missed_none : (ahead : Entry → Entry → Bool) (es : List Entry) (Passes : Entry → Type 0) (test : Mark → ℕ → Bool)
    (o : Option FoundEntry) → o ≡ None → IsOnWay ahead es Passes test o → IsMissed es Passes test
missed_none ahead es Passes test o is on = subst (IsOnWay ahead es Passes test) is on

pub forward_starts : (es : List Entry) (text : List ℕ) (mark : Mark) (test : Mark → ℕ → Bool) (o : Option FoundEntry) →
    IfSome o (λ found. found.index < length es) →
    IfSome o (λ found. IsFirst es (IsFrom text mark) (entry_at es found.index)) → IfNone o (IsNone es (IsFrom text
    mark)) → IsOnWay forward es (IsFrom text mark) test o
forward_starts es text mark test None within first none = λ q at is. absurd (none q at is)
forward_starts es text mark test (Some found) within first none =
    starts forward es (IsFrom text mark) test found.index within (record {
      passes = first.passes;
      first = first.first;
    })

pub back_starts : (es : List Entry) (text : List ℕ) (mark : Mark) (test : Mark → ℕ → Bool) (o : Option FoundEntry) →
    IfSome o (λ found. found.index < length es) →
    IfSome o (λ found. IsLast es (IsUpTo text mark) (entry_at es found.index)) → IfNone o (IsNone es (IsUpTo text
    mark)) → IsOnWay back es (IsUpTo text mark) test o
back_starts es text mark test None within last none = λ q at is. absurd (none q at is)
back_starts es text mark test (Some found) within last none =
    starts back es (IsUpTo text mark) test found.index within (record { passes = last.passes; first = last.last })

forward_step : (es : List Entry) (e f : Entry) → IsFirst es (IsAfter e) f → IsStep forward es e f
forward_step es e f first = record {
  is_present = first.is_present;
  text = first.passes.text_is;
  further = first.passes.later;
  first = λ q at t h. first.first q at (record { text_is = t; later = h });
}

back_step : (es : List Entry) (e f : Entry) → IsLast es (IsBefore e) f → IsStep back es e f
back_step es e f last = record {
  is_present = last.is_present;
  text = last.passes.text_is;
  further = last.passes.later;
  first = λ q at t h. last.last q at (record { text_is = t; later = h });
}

pub forward_steps : (es : List Entry) (text : List ℕ) (mark : Mark) (test : Mark → ℕ → Bool) (i : ℕ)
    (o : Option FoundEntry) → IsReached forward es (IsFrom text mark) test i → tested test (entry_at es i) ≡ false →
    IfSome o (λ found. found.index < length es) →
    IfSome o (λ found. IsFirst es (IsAfter (entry_at es i)) (entry_at es found.index)) →
    IfNone o (IsNone es (IsAfter (entry_at es i))) → IsOnWay forward es (IsFrom text mark) test o
forward_steps es text mark test i None reached miss within first none =
    ends forward text (IsFrom text mark) (forward_way text mark) es test i reached miss
    (λ q at t h. none q at (record { text_is = t; later = h }))
forward_steps es text mark test i (Some found) reached miss within first none =
    steps forward text (IsFrom text mark) (forward_way text mark) es test i found.index reached miss within
    (forward_step es (entry_at es i) (entry_at es found.index) first)

pub back_steps : (es : List Entry) (text : List ℕ) (mark : Mark) (test : Mark → ℕ → Bool) (i : ℕ)
    (o : Option FoundEntry) → IsReached back es (IsUpTo text mark) test i → tested test (entry_at es i) ≡ false →
    IfSome o (λ found. found.index < length es) →
    IfSome o (λ found. IsLast es (IsBefore (entry_at es i)) (entry_at es found.index)) →
    IfNone o (IsNone es (IsBefore (entry_at es i))) → IsOnWay back es (IsUpTo text mark) test o
back_steps es text mark test i None reached miss within last none =
    ends back text (IsUpTo text mark) (back_way text mark) es test i reached miss
    (λ q at t h. none q at (record { text_is = t; later = h }))
back_steps es text mark test i (Some found) reached miss within last none =
    steps back text (IsUpTo text mark) (back_way text mark) es test i found.index reached miss within
    (back_step es (entry_at es i) (entry_at es found.index) last)

pub forward_left : (es : List Entry) (i : ℕ) (o : Option FoundEntry) →
    IfSome o (λ found. IsFirst es (IsAfter (entry_at es i)) (entry_at es found.index)) →
    left forward es o < suc (ahead_of forward (entry_at es i) es)
forward_left es i None first = omega arith
forward_left es i (Some found) first =
    let e : Entry = entry_at es i in
    let less : ahead_of forward (entry_at es found.index) es < ahead_of forward e es = falls forward e.text (IsFrom
    e.text e.mark) (forward_way e.text e.mark) e (entry_at es found.index) es first.is_present first.passes.later in
    omega arith

pub back_left : (es : List Entry) (i : ℕ) (o : Option FoundEntry) →
    IfSome o (λ found. IsLast es (IsBefore (entry_at es i)) (entry_at es found.index)) →
    left back es o < suc (ahead_of back (entry_at es i) es)
back_left es i None last = omega arith
back_left es i (Some found) last =
    let e : Entry = entry_at es i in
    let less : ahead_of back (entry_at es found.index) es < ahead_of back e es = falls back e.text (IsUpTo e.text
    e.mark) (back_way e.text e.mark) e (entry_at es found.index) es last.is_present last.passes.later in
    omega arith

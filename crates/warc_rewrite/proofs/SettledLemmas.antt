-- The ways of records, and what is settled of them.
use Rattle.std.proofs.Common.{◌≡◌, ◌⊎◌, inl, inr, ℕ, zero, suc, ◌+◌, ◌-◌, ◌<◌, ◌≤◌, Bool, true, false, cond, List, length, get_or, Option, Some, None, refl, sym, ◌∙◌, ap, subst, arith, true≢false}
use Rattle.std.specs.Prelude.{count_by, option_and_then, slice_set}
use Rattle.std.proofs.lemmas.Bool.{cases_lt}
use Rattle.std.proofs.lemmas.List.{get_or_past, length-set}
use Rattle.std.proofs.lemmas.List.Sums.{sum_by-set}
use Rattle.warc_index.specs.Walks.{walk}
use Rattle.warc_rewrite.specs.declared.remainder.Status.{Status}
use Rattle.warc_rewrite.specs.declared.remainder.Status.TheVariants.{Open, Named, Left, Kept, Touched, Untouched}
use Rattle.warc_rewrite.specs.Statuses.{AreSettled, IsKeptAt, IsLeftAt, IsOnWay, IsOpen, LeadsToLeft, LeavesWay, Settles, WalksOn, needs_none, is_left, is_open, status_at}
use Rattle.warc_rewrite.proofs.StatusLemmas.{put_cases, put_here}

-- ---- kinds of standings

open_unleft : (s : Status) → is_open s ≡ true → is_left s ≡ true → ⊥
open_unleft Open o l = true≢false (sym l)
open_unleft Named o l = true≢false (sym o)
open_unleft Left o l = true≢false (sym o)
open_unleft Kept o l = true≢false (sym o)
open_unleft Touched o l = true≢false (sym l)
open_unleft Untouched o l = true≢false (sym l)

open_unkept : (s : Status) → is_open s ≡ true → needs_none s ≡ true → ⊥
open_unkept Open o k = true≢false (sym k)
open_unkept Named o k = true≢false (sym o)
open_unkept Left o k = true≢false (sym o)
open_unkept Kept o k = true≢false (sym o)
open_unkept Touched o k = true≢false (sym k)
open_unkept Untouched o k = true≢false (sym k)

kept_unleft : (s : Status) → needs_none s ≡ true → is_left s ≡ true → ⊥
kept_unleft Open k l = true≢false (sym k)
kept_unleft Named k l = true≢false (sym k)
kept_unleft Left k l = true≢false (sym k)
kept_unleft Kept k l = true≢false (sym l)
kept_unleft Touched k l = true≢false (sym k)
kept_unleft Untouched k l = true≢false (sym k)

pub known_kept : (s : Status) → is_open s ≡ false → is_left s ≡ false → needs_none s ≡ true
known_kept Open o l = absurd (true≢false o)
known_kept Named o l = absurd (true≢false l)
known_kept Left o l = absurd (true≢false l)
known_kept Kept o l = refl
known_kept Touched o l = absurd (true≢false o)
known_kept Untouched o l = absurd (true≢false o)

kept_known : (s : Status) → needs_none s ≡ true → is_open s ≡ false
kept_known Open k = absurd (true≢false (sym k))
kept_known Named k = absurd (true≢false (sym k))
kept_known Left k = absurd (true≢false (sym k))
kept_known Kept k = refl
kept_known Touched k = absurd (true≢false (sym k))
kept_known Untouched k = absurd (true≢false (sym k))

left_known : (s : Status) → is_left s ≡ true → is_open s ≡ false
left_known Open k = absurd (true≢false (sym k))
left_known Named k = refl
left_known Left k = refl
left_known Kept k = absurd (true≢false (sym k))
left_known Touched k = absurd (true≢false (sym k))
left_known Untouched k = absurd (true≢false (sym k))

-- ---- ways

walk_on : (next : ℕ → Option ℕ) (p a b : ℕ) (q : ℕ) → walk next p a ≡ Some q → walk next p (a + b) ≡ walk next q b
walk_on next p a zero q at = let z : a + 0 ≡ a = omega arith in ap (walk next p) z ∙ at
walk_on next p a (suc b) q at =
    let z : a + suc b ≡ suc (a + b) = omega arith in
    ap (walk next p) z ∙ ap (option_and_then next) (walk_on next p a b q at)

walk_none : (next : ℕ → Option ℕ) (p a b : ℕ) → walk next p a ≡ None → walk next p (a + b) ≡ None
walk_none next p a zero at = let z : a + 0 ≡ a = omega arith in ap (walk next p) z ∙ at
walk_none next p a (suc b) at =
    let z : a + suc b ≡ suc (a + b) = omega arith in
    ap (walk next p) z ∙ ap (option_and_then next) (walk_none next p a b at)

-- ---- a way that is walked

pub walks_none : (next : ℕ → Option ℕ) (p : ℕ) (ss : List Status) → WalksOn next p 0 ss ss
walks_none next p ss = record { each = λ q. inl refl; way = λ q is. absurd (omega (arith, is.less)) }

on_way_more : (next : ℕ → Option ℕ) (p n m q : ℕ) → n ≤ m → IsOnWay next p n q → IsOnWay next p m q
on_way_more next p n m q le is = record { steps = is.steps; less = omega (arith, is.less); way = is.way }

-- one more place of the way is an earlier one, or the one that it has come to
on_way_cases : (next : ℕ → Option ℕ) (p n at q : ℕ) → walk next p n ≡ Some at → IsOnWay next p (n + 1) q
    → (q ≡ at) ⊎ IsOnWay next p n q
on_way_cases next p n at q here is = elim (cases_lt is.steps n) [
  | inl less ↦ inr (record { steps = is.steps; less = less; way = is.way })
  | inr more ↦
      let same : is.steps ≡ n = omega (arith, is.less) in
      let z : Some q ≡ Some at = sym is.way ∙ (ap (walk next p) same ∙ here) in
      let y : q ≡ at = cc in inl y
]

pub walks_more : (next : ℕ → Option ℕ) (p n at : ℕ) (old ss : List Status) → WalksOn next p n old ss → walk next p n ≡ Some at
    → at < length ss → IsOpen ss at → WalksOn next p (n + 1) old (slice_set ss at Kept)
walks_more next p n at old ss walks here within opened =
    let at_old : IsOpen old at =
    (elim (walks.each at) [
      | inl same ↦ ap is_open (sym same) ∙ opened
      | inr kept ↦ kept.1
    ]) in
    let on_it : IsOnWay next p (n + 1) at = record { steps = n; less = omega arith; way = here } in
    record {
      each = λ q. elim (put_cases ss at q Kept within) [
        | inl set ↦ inr (
          ap needs_none set.1,
          subst (IsOpen old) (sym set.0) at_old,
          subst (IsOnWay next p (n + 1)) (sym set.0) on_it,
        )
        | inr kept ↦ elim (walks.each q) [
          | inl same ↦ inl (kept ∙ same)
          | inr before ↦ inr (ap needs_none kept ∙ before.0, before.1, on_way_more next p n (n + 1) q (omega arith) before.2)
        ]
      ];
      way = λ q is. elim (on_way_cases next p n at q here is) [
        | inl same ↦ (
          ap (λ (k : ℕ). needs_none (status_at (slice_set ss at Kept) k)) same ∙ ap needs_none (put_here ss at Kept within),
          subst (IsOpen old) (sym same) at_old,
        )
        | inr before ↦
            let (kept, was) = walks.way q before in (
              elim (put_cases ss at q Kept within) [
                | inl set ↦ ap needs_none set.1
                | inr same ↦ ap needs_none same ∙ kept
              ],
              was,
            )
      ];
    }

-- the opened positions become fewer
pub fewer_open : (ss : List Status) (at : ℕ) → at < length ss → IsOpen ss at
    → count_by is_open (slice_set ss at Kept) + 1 ≡ count_by is_open ss
fewer_open ss at within opened =
    let one : Status → ℕ = λ s. cond (is_open s) 1 0 in
    let sum : count_by is_open (slice_set ss at Kept) + one (get_or ss at Open) ≡ count_by is_open ss + one Kept =
    sum_by-set one ss at Kept Open within in
    let was : one (get_or ss at Open) ≡ 1 = ap (λ (b : Bool). cond b 1 0) opened in
    omega (arith, sum, was)

-- ---- a way that leads to nothing named

pub kept_way : (next : ℕ → Option ℕ) (p n : ℕ) (base old new : List Status) → AreSettled next base old → WalksOn next p n old new
    → ((q : ℕ) → walk next p n ≡ Some q → IsKeptAt new q) → AreSettled next base new
kept_way next p n base old new settled walks ends = record {
  start = λ q is. elim (walks.each q) [
    | inl same ↦ ap is_left same ∙ settled.start q is
    | inr kept ↦ absurd (open_unleft (status_at old q) kept.1 (settled.start q is))
  ];
  left = λ q is. elim (walks.each q) [
    | inl same ↦ settled.left q (sym (ap is_left same) ∙ is)
    | inr kept ↦ absurd (kept_unleft (status_at new q) kept.0 is)
  ];
  kept = λ q r is to. elim (walks.each q) [
    | inl same ↦
        let before : IsKeptAt old r = settled.kept q r (sym (ap needs_none same) ∙ is) to in
        elim (walks.each r) [
          | inl still ↦ ap needs_none still ∙ before
          | inr kept ↦ kept.0
        ]
    | inr kept ↦
        let on : IsOnWay next p n q = kept.2 in
        let further : walk next p (suc on.steps) ≡ Some r = ap (option_and_then next) on.way ∙ to in
        elim (cases_lt (suc on.steps) n) [
          | inl less ↦ (walks.way r (record { steps = suc on.steps; less = less; way = further })).0
          | inr more ↦
              let same : suc on.steps ≡ n = omega (arith, on.less) in
              ends r (sym (ap (walk next p) same) ∙ further)
        ]
  ];
}

-- ---- a way that leads to something named

leads_from : (next : ℕ → Option ℕ) (base : List Status) (p n at q : ℕ) → walk next p n ≡ Some at → LeadsToLeft next base at
    → IsOnWay next p n q → LeadsToLeft next base q
leads_from next base p n at q here leads on =
    let rest : on.steps + (n - on.steps) ≡ n = omega (arith, on.less) in
    let to : walk next q (n - on.steps) ≡ Some at =
    sym (walk_on next p on.steps (n - on.steps) q on.way) ∙ (ap (walk next p) rest ∙ here) in
    record {
      steps = (n - on.steps) + leads.steps;
      place = leads.place;
      way = walk_on next q (n - on.steps) leads.steps at to ∙ leads.way;
      left = leads.left;
    }

pub left_way : (next : ℕ → Option ℕ) (p n at : ℕ) (base old mid new : List Status) → length mid ≡ length old
    → AreSettled next base old → WalksOn next p n old mid → walk next p n ≡ Some at → IsLeftAt mid at → LeavesWay next p n mid new
    → ((q : ℕ) → IsOnWay next p n q → q < length mid) → AreSettled next base new
left_way next p n at base old mid new len settled walks here is_at leaves inside =
    let at_old : IsLeftAt old at =
    (elim (walks.each at) [
      | inl same ↦ sym (ap is_left same) ∙ is_at
      | inr kept ↦ absurd (kept_unleft (status_at mid at) kept.0 is_at)
    ]) in
    let leads : LeadsToLeft next base at = settled.left at at_old in
    record {
      start = λ q is. elim (leaves.each q) [
        | inl same ↦ elim (walks.each q) [
          | inl before ↦ ap is_left (same ∙ before) ∙ settled.start q is
          | inr kept ↦ absurd (open_unleft (status_at old q) kept.1 (settled.start q is))
        ]
        | inr left ↦ left.0
      ];
      left = λ q is. elim (leaves.each q) [
        | inl same ↦ elim (walks.each q) [
          | inl before ↦ settled.left q (sym (ap is_left (same ∙ before)) ∙ is)
          | inr kept ↦ absurd (kept_unleft (status_at mid q) kept.0 (sym (ap is_left same) ∙ is))
        ]
        | inr left ↦ leads_from next base p n at q here leads left.1
      ];
      kept = λ q r is to. elim (leaves.each q) [
        | inl same ↦ elim (walks.each q) [
          | inl before ↦
              let was : IsKeptAt old r = settled.kept q r (sym (ap needs_none (same ∙ before)) ∙ is) to in
              elim (walks.each r) [
                | inl still ↦ elim (leaves.each r) [
                  | inl stays ↦ ap needs_none (stays ∙ still) ∙ was
                  | inr gone ↦ absurd (open_unkept (status_at old r) (walks.way r gone.1).1 was)
                ]
                | inr kept ↦ absurd (open_unkept (status_at old r) kept.1 was)
              ]
          | inr kept ↦
              absurd (kept_unleft (status_at new q) is (leaves.way q kept.2 (inside q kept.2)))
        ]
        | inr left ↦ absurd (kept_unleft (status_at new q) is left.0)
      ];
    }

-- ---- the places of a way that are left out

pub leaves_none : (next : ℕ → Option ℕ) (p : ℕ) (ss : List Status) → LeavesWay next p 0 ss ss
leaves_none next p ss = record { each = λ q. inl refl; way = λ q is. absurd (omega (arith, is.less)) }

pub leaves_more : (next : ℕ → Option ℕ) (p n at : ℕ) (old ss new : List Status) → LeavesWay next p n old ss
    → length ss ≡ length old → walk next p n ≡ Some at → (at < length ss → new ≡ slice_set ss at Left)
    → (length ss ≤ at → new ≡ ss) → LeavesWay next p (n + 1) old new
leaves_more next p n at old ss new leaves len here inside past =
    let on_it : IsOnWay next p (n + 1) at = record { steps = n; less = omega arith; way = here } in
    elim (cases_lt at (length ss)) [
      | inl within ↦
          let is : new ≡ slice_set ss at Left = inside within in
          subst (LeavesWay next p (n + 1) old) (sym is) (record {
            each = λ q. elim (put_cases ss at q Left within) [
              | inl set ↦ inr (ap is_left set.1, subst (IsOnWay next p (n + 1)) (sym set.0) on_it)
              | inr kept ↦ elim (leaves.each q) [
                | inl same ↦ inl (kept ∙ same)
                | inr left ↦ inr (ap is_left kept ∙ left.0, on_way_more next p n (n + 1) q (omega arith) left.1)
              ]
            ];
            way = λ q on low. elim (put_cases ss at q Left within) [
              | inl set ↦ ap is_left set.1
              | inr kept ↦ elim (on_way_cases next p n at q here on) [
                | inl same ↦
                    ap (λ (k : ℕ). is_left (status_at (slice_set ss at Left) k)) same ∙ ap is_left (put_here ss at Left within)
                | inr before ↦ ap is_left kept ∙ leaves.way q before low
              ]
            ];
          })
      | inr beyond ↦
          subst (LeavesWay next p (n + 1) old) (sym (past beyond)) (record {
            each = λ q. elim (leaves.each q) [
              | inl same ↦ inl same
              | inr left ↦ inr (left.0, on_way_more next p n (n + 1) q (omega arith) left.1)
            ];
            way = λ q on low. elim (on_way_cases next p n at q here on) [
              | inl same ↦ absurd (omega (arith, same, len, beyond, low))
              | inr before ↦ leaves.way q before low
            ];
          })
    ]

-- a way that has ended has no more places
pub leaves_all : (next : ℕ → Option ℕ) (p n m : ℕ) (old new : List Status) → LeavesWay next p n old new → walk next p n ≡ None
    → n ≤ m → LeavesWay next p m old new
leaves_all next p n m old new leaves none le = record {
  each = λ q. elim (leaves.each q) [
    | inl same ↦ inl same
    | inr left ↦ inr (left.0, on_way_more next p n m q le left.1)
  ];
  way = λ q on low. elim (cases_lt on.steps n) [
    | inl less ↦ leaves.way q (record { steps = on.steps; less = less; way = on.way }) low
    | inr more ↦
        let rest : n + (on.steps - n) ≡ on.steps = omega arith in
        let z : None ≡ Some q = sym (walk_none next p n (on.steps - n) none) ∙ (ap (walk next p) rest ∙ on.way) in
        absurd (cc)
  ];
}

-- ---- as the code steps

pub walk_next : (next : ℕ → Option ℕ) (p n at : ℕ) (o : Option ℕ) → walk next p n ≡ Some at → next at ≡ o → walk next p (n + 1) ≡ o
walk_next next p n at o here to =
    let z : n + 1 ≡ suc n = omega arith in
    ap (walk next p) z ∙ (ap (option_and_then next) here ∙ to)

pub same_after_set : (at : ℕ) (ss new : List Status) (s : Status) → (at < length ss → new ≡ slice_set ss at s)
    → (length ss ≤ at → new ≡ ss) → length new ≡ length ss
same_after_set at ss new s inside past = elim (cases_lt at (length ss)) [
  | inl within ↦ ap length (inside within) ∙ length-set ss at s
  | inr beyond ↦ ap length (past beyond)
]

known_same : (a b : Status) → a ≡ b → is_open b ≡ false → is_open a ≡ false
known_same a b same known = ap is_open same ∙ known

-- the record at p is known after a walk, and what was known stays so
pub walk_known : (next : ℕ → Option ℕ) (p n : ℕ) (old new : List Status) → WalksOn next p n old new → (q : ℕ)
    → is_open (status_at old q) ≡ false → is_open (status_at new q) ≡ false
walk_known next p n old new walks q known = elim (walks.each q) [
  | inl same ↦ known_same (status_at new q) (status_at old q) same known
  | inr kept ↦ kept_known (status_at new q) kept.0
]

pub leave_known : (next : ℕ → Option ℕ) (p n : ℕ) (old new : List Status) → LeavesWay next p n old new → (q : ℕ)
    → is_open (status_at old q) ≡ false → is_open (status_at new q) ≡ false
leave_known next p n old new leaves q known = elim (leaves.each q) [
  | inl same ↦ known_same (status_at new q) (status_at old q) same known
  | inr left ↦ left_known (status_at new q) left.0
]

-- after a walk the record at its beginning is known: it is the place that the walk has come to, or an earlier one
pub begin_known : (next : ℕ → Option ℕ) (p n at : ℕ) (old new : List Status) → WalksOn next p n old new → walk next p n ≡ Some at
    → is_open (status_at new at) ≡ false → is_open (status_at new p) ≡ false
begin_known next p zero at old new walks here known =
    let same : p ≡ at = cc in subst (λ (q : ℕ). is_open (status_at new q) ≡ false) (sym same) known
begin_known next p (suc n) at old new walks here known =
    kept_known (status_at new p) (walks.way p (record { steps = 0; less = omega arith; way = refl })).0

pub begun_known : (next : ℕ → Option ℕ) (p n : ℕ) (old new : List Status) → WalksOn next p (n + 1) old new
    → is_open (status_at new p) ≡ false
begun_known next p n old new walks =
    kept_known (status_at new p) (walks.way p (record { steps = 0; less = omega arith; way = refl })).0

-- the way ends
pub settles_end : (next : ℕ → Option ℕ) (p n at : ℕ) (base old ss : List Status) → AreSettled next base old → WalksOn next p n old ss
    → walk next p n ≡ Some at → at < length ss → IsOpen ss at → next at ≡ None → Settles next base p old (slice_set ss at Kept)
settles_end next p n at base old ss settled walks here within opened none =
    let more : WalksOn next p (n + 1) old (slice_set ss at Kept) = walks_more next p n at old ss walks here within opened in
    record {
      settled = kept_way next p (n + 1) base old (slice_set ss at Kept) settled more
          (λ q to. let z : None ≡ Some q = sym (walk_next next p n at None here none) ∙ to in absurd (cc));
      known = begun_known next p n old (slice_set ss at Kept) more;
      before = walk_known next p (n + 1) old (slice_set ss at Kept) more;
    }

-- the way comes to a place of which it is known
pub settles_kept : (next : ℕ → Option ℕ) (p n at : ℕ) (base old ss : List Status) → AreSettled next base old → WalksOn next p n old ss
    → walk next p n ≡ Some at → is_open (status_at ss at) ≡ false → is_left (status_at ss at) ≡ false → Settles next base p old ss
settles_kept next p n at base old ss settled walks here known kept = record {
  settled = kept_way next p n base old ss settled walks
      (λ q to.
      let z : Some at ≡ Some q = sym here ∙ to in
      let y : at ≡ q = cc in
      subst (IsKeptAt ss) y (known_kept (status_at ss at) known kept));
  known = begin_known next p n at old ss walks here known;
  before = walk_known next p n old ss walks;
}

kept_inside : (ss : List Status) (q : ℕ) → IsKeptAt ss q → q < length ss
kept_inside ss q is = elim (cases_lt q (length ss)) [
  | inl less ↦ less
  | inr past ↦ absurd (true≢false (sym is ∙ ap needs_none (get_or_past ss q Open past)))
]

pub settles_left : (next : ℕ → Option ℕ) (p n at : ℕ) (base old mid new : List Status) → length mid ≡ length old
    → AreSettled next base old → WalksOn next p n old mid → walk next p n ≡ Some at → is_open (status_at mid at) ≡ false
    → is_left (status_at mid at) ≡ true → LeavesWay next p n mid new → Settles next base p old new
settles_left next p n at base old mid new len settled walks here known left leaves = record {
  settled = left_way next p n at base old mid new len settled walks here left leaves
      (λ q on. kept_inside mid q (walks.way q on).0);
  known = leave_known next p n mid new leaves p (begin_known next p n at old mid walks here known);
  before = λ q was. leave_known next p n mid new leaves q (walk_known next p n old mid walks q was);
}

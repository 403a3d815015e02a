-- The marks of a way from referent to referent.
use Rattle.std.proofs.Common.{◌≡◌, ◌⊎◌, inl, inr, ℕ, suc, ◌+◌, ◌<◌, true, cond, List, [], ◌∷◌, ◌++◌, length, get_or, Option, Some, None, refl, sym, ◌∙◌, ap, subst, arith}
use Rattle.std.specs.Prelude.{count_by, slice_set, option_and_then}
use Rattle.std.proofs.lemmas.List.{get_or-set_same, get_or-set_other, length-set}
use Rattle.std.proofs.lemmas.List.Elements.{Contains-append_left, Contains-push, Contains-push_cases}
use Rattle.std.proofs.lemmas.List.Sums.{sum_by-set}
use Rattle.std.proofs.lemmas.Bool.{cases_eq}
use Rattle.warc_rewrite.specs.declared.needs.Mark.{Mark}
use Rattle.warc_rewrite.specs.declared.needs.Mark.TheVariants.{Free, Needed, Segment}
use Rattle.warc_rewrite.specs.Marks.{mark_in, marks_needed, is_free, IsMarked, IsReached, AreMarked, AreMarkedBut, HasNoSegment}

-- ---- one mark more

pub set_here : (marks : List Mark) (at : ℕ) (m : Mark) → at < length marks → mark_in (slice_set marks at m) at ≡ m
set_here marks at m within = get_or-set_same marks at m Free within

pub set_there : (marks : List Mark) (at q : ℕ) (m : Mark) → (q ≡ at → ⊥) → mark_in (slice_set marks at m) q ≡ mark_in marks q
set_there marks at q m other = get_or-set_other marks at q m Free other

pub marked_still : (marks : List Mark) (at q : ℕ) (m : Mark) → at < length marks → marks_needed m ≡ true → IsMarked marks q
    → IsMarked (slice_set marks at m) q
marked_still marks at q m within kind is = elim (cases_eq q at) [
  | inl same ↦ ap (λ (k : ℕ). marks_needed (mark_in (slice_set marks at m) k)) same ∙ (ap marks_needed (set_here marks at m within) ∙ kind)
  | inr other ↦ ap marks_needed (set_there marks at q m other) ∙ is
]

pub marked_here : (marks : List Mark) (at : ℕ) (m : Mark) → at < length marks → marks_needed m ≡ true → IsMarked (slice_set marks at m) at
marked_here marks at m within kind = ap marks_needed (set_here marks at m within) ∙ kind

pub marked_before : (marks : List Mark) (at q : ℕ) (m : Mark) → IsMarked (slice_set marks at m) q → (q ≡ at) ⊎ IsMarked marks q
marked_before marks at q m is = elim (cases_eq q at) [
  | inl same ↦ inl same
  | inr other ↦ inr (sym (ap marks_needed (set_there marks at q m other)) ∙ is)
]

-- ---- a way

reached_more : (next : ℕ → Option ℕ) (ps : List ℕ) (p q : ℕ) → IsReached next ps q → IsReached next (ps ++ p ∷ []) q
reached_more next ps p q is = record {
  by = is.by;
  named = Contains-append_left ps (p ∷ []) is.by is.named;
  steps = is.steps;
  way = is.way;
}

pub way_begins : (next : ℕ → Option ℕ) (ps : List ℕ) (p : ℕ) (marks : List Mark) → p < length marks → AreMarked next ps marks
    → AreMarkedBut next (ps ++ p ∷ []) p marks
way_begins next ps p marks within are = record {
  named = λ q is. elim (Contains-push_cases ps p q is) [
    | inl before ↦ inl (are.named q before)
    | inr same ↦ inr (sym same)
  ];
  reached = λ q is. reached_more next ps p q (are.reached q is);
  closed = λ q r is to. inl (are.closed q r is to);
  here = record { by = p; named = Contains-push ps p; steps = 0; way = refl };
  inside = within;
}

-- at a place that is marked the way ends
pub way_ends : (next : ℕ → Option ℕ) (ps : List ℕ) (at : ℕ) (marks : List Mark) → AreMarkedBut next ps at marks → IsMarked marks at
    → AreMarked next ps marks
way_ends next ps at marks are here = record {
  named = λ p is. elim (are.named p is) [
    | inl before ↦ before
    | inr same ↦ subst (IsMarked marks) (sym same) here
  ];
  reached = are.reached;
  closed = λ q r is to. elim (are.closed q r is to) [
    | inl before ↦ before
    | inr same ↦ subst (IsMarked marks) (sym same) here
  ];
}

step_way : (next : ℕ → Option ℕ) (ps : List ℕ) (at n : ℕ) → IsReached next ps at → next at ≡ Some n → IsReached next ps n
step_way next ps at n is to = record {
  by = is.by;
  named = is.named;
  steps = suc is.steps;
  way = ap (option_and_then next) is.way ∙ to;
}

reached_after : (next : ℕ → Option ℕ) (ps : List ℕ) (at : ℕ) (marks : List Mark) (m : Mark) → AreMarkedBut next ps at marks → (q : ℕ)
    → IsMarked (slice_set marks at m) q → IsReached next ps q
reached_after next ps at marks m are q is = elim (marked_before marks at q m is) [
  | inl same ↦ subst (IsReached next ps) (sym same) are.here
  | inr before ↦ are.reached q before
]

-- it goes on
pub way_goes : (next : ℕ → Option ℕ) (ps : List ℕ) (at n : ℕ) (marks : List Mark) → AreMarkedBut next ps at marks → next at ≡ Some n
    → n < length marks → AreMarkedBut next ps n (slice_set marks at Needed)
way_goes next ps at n marks are to within =
    let len : length (slice_set marks at Needed) ≡ length marks = length-set marks at Needed in
    record {
      named = λ p is. elim (are.named p is) [
        | inl before ↦ inl (marked_still marks at p Needed are.inside refl before)
        | inr same ↦ inl (subst (IsMarked (slice_set marks at Needed)) (sym same) (marked_here marks at Needed are.inside refl))
      ];
      reached = reached_after next ps at marks Needed are;
      closed = λ q r is goes. elim (marked_before marks at q Needed is) [
        | inl same ↦
            let z : Some n ≡ Some r = sym to ∙ (ap next (sym same) ∙ goes) in
            let y : n ≡ r = cc in
            inr (sym y)
        | inr before ↦ elim (are.closed q r before goes) [
          | inl marked ↦ inl (marked_still marks at r Needed are.inside refl marked)
          | inr here ↦ inl (subst (IsMarked (slice_set marks at Needed)) (sym here) (marked_here marks at Needed are.inside refl))
        ]
      ];
      here = step_way next ps at n are.here to;
      inside = omega (arith, len, within);
    }

-- it leads nowhere
pub way_stops : (next : ℕ → Option ℕ) (ps : List ℕ) (at : ℕ) (marks : List Mark) → AreMarkedBut next ps at marks → next at ≡ None
    → AreMarked next ps (slice_set marks at Needed)
way_stops next ps at marks are none = record {
  named = λ p is. elim (are.named p is) [
    | inl before ↦ marked_still marks at p Needed are.inside refl before
    | inr same ↦ subst (IsMarked (slice_set marks at Needed)) (sym same) (marked_here marks at Needed are.inside refl)
  ];
  reached = reached_after next ps at marks Needed are;
  closed = λ q r is goes. elim (marked_before marks at q Needed is) [
    | inl same ↦ let z : None ≡ Some r = sym none ∙ (ap next (sym same) ∙ goes) in absurd (cc)
    | inr before ↦ elim (are.closed q r before goes) [
      | inl marked ↦ marked_still marks at r Needed are.inside refl marked
      | inr here ↦ subst (IsMarked (slice_set marks at Needed)) (sym here) (marked_here marks at Needed are.inside refl)
    ]
  ];
}

-- ---- the free positions become fewer

pub fewer_free : (marks : List Mark) (at : ℕ) → at < length marks → mark_in marks at ≡ Free
    → count_by is_free (slice_set marks at Needed) < count_by is_free marks
fewer_free marks at within free =
    let one : Mark → ℕ = λ m. cond (is_free m) 1 0 in
    let sum : count_by is_free (slice_set marks at Needed) + one (get_or marks at Free) ≡ count_by is_free marks + one Needed =
    sum_by-set one marks at Needed Free within in
    let was : one (get_or marks at Free) ≡ 1 = ap one free in
    omega (arith, sum, was)

pub plain_more : (marks : List Mark) (at : ℕ) → at < length marks → HasNoSegment marks → HasNoSegment (slice_set marks at Needed)
plain_more marks at within none q is = elim (cases_eq q at) [
  | inl same ↦
      let z : Needed ≡ Segment =
      sym (set_here marks at Needed within) ∙ (ap (λ (k : ℕ). mark_in (slice_set marks at Needed) k) (sym same) ∙ is) in
      absurd (cc)
  | inr other ↦ none q (sym (set_there marks at q Needed other) ∙ is)
]

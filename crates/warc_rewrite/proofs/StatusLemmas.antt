-- The standings of named positions, and of segments.
use Rattle.std.proofs.Common.{◌≡◌, ◌≢◌, ◌⊎◌, inl, inr, ℕ, ◌+◌, ◌<◌, ◌≤◌, Bool, true, false, List, [], ◌∷◌, ◌++◌, length, get_or, take, Option, refl, sym, ◌∙◌, ap, subst, arith, true≢false}
use Rattle.std.specs.Prelude.{Contains, slice_set}
use Rattle.std.proofs.lemmas.Bool.{cases_eq, cases_lt}
use Rattle.std.proofs.lemmas.List.{get_or-set_same, get_or-set_other, length-set}
use Rattle.std.proofs.lemmas.List.Elements.{Contains-append_left, Contains-push, Contains-push_cases, Contains-get_or}
use Rattle.std.proofs.lemmas.Option.{slice_get-get_or}
use Rattle.warc_record.specs.Readings.{Reading}
use Rattle.warc_record.specs.declared.readings.SegmentNumber.TheVariants.{Number}
use Rattle.warc_segment.specs.Series.{AreMembersAt, IsMemberAt, Piece, series_of}
use Rattle.warc_reading.proofs.PlacedLemmas.{take_one}
use Rattle.warc_rewrite.specs.declared.remainder.Status.{Status}
use Rattle.warc_rewrite.specs.declared.remainder.Status.TheVariants.{Open, Named, Touched, Untouched}
use Rattle.warc_rewrite.specs.Marks.{IsSegmentBy}
use Rattle.warc_rewrite.specs.Statuses.{AreMemos, HasNamed, IsNamedAt, JudgesSeries, KeepsMemo, NamesAll, memo_of, status_at}
use Rattle.warc_rewrite.proofs.MarkLemmas.{none_at, same_id}

-- ---- one standing more

pub put_here : (ss : List Status) (at : ℕ) (s : Status) → at < length ss → status_at (slice_set ss at s) at ≡ s
put_here ss at s within = get_or-set_same ss at s Open within

pub put_there : (ss : List Status) (at q : ℕ) (s : Status) → (q ≡ at → ⊥) → status_at (slice_set ss at s) q ≡ status_at ss q
put_there ss at q s other = get_or-set_other ss at q s Open other

-- at each position the standing is the one that was set, or as before
pub put_cases : (ss : List Status) (at q : ℕ) (s : Status) → at < length ss
    → ((q ≡ at) × (status_at (slice_set ss at s) q ≡ s)) ⊎ (status_at (slice_set ss at s) q ≡ status_at ss q)
put_cases ss at q s within = elim (cases_eq q at) [
  | inl same ↦ inl (same, ap (λ (k : ℕ). status_at (slice_set ss at s) k) same ∙ put_here ss at s within)
  | inr other ↦ inr (put_there ss at q s other)
]

-- ---- names

named_more : (ps : List ℕ) (old ss : List Status) (p : ℕ) → NamesAll ps old ss → p < length ss
    → NamesAll (ps ++ p ∷ []) old (slice_set ss p Named)
named_more ps old ss p before within = record {
  same = length-set ss p Named ∙ before.same;
  each = λ q. elim (put_cases ss p q Named within) [
    | inl set ↦ inr (set.1, subst (Contains (ps ++ p ∷ [])) (sym set.0) (Contains-push ps p))
    | inr kept ↦ elim (before.each q) [
      | inl same ↦ inl (kept ∙ same)
      | inr named ↦ inr (kept ∙ named.0, Contains-append_left ps (p ∷ []) q named.1)
    ]
  ];
  all = λ q is inside. elim (put_cases ss p q Named within) [
    | inl set ↦ set.1
    | inr kept ↦ elim (Contains-push_cases ps p q is) [
      | inl earlier ↦ kept ∙ before.all q earlier inside
      | inr same ↦
          subst (λ (k : ℕ). status_at (slice_set ss p Named) k ≡ Named) same (put_here ss p Named within)
    ]
  ];
}

named_past : (ps : List ℕ) (old ss : List Status) (p : ℕ) → NamesAll ps old ss → length ss ≤ p → NamesAll (ps ++ p ∷ []) old ss
named_past ps old ss p before past = record {
  same = before.same;
  each = λ q. elim (before.each q) [
    | inl same ↦ inl same
    | inr named ↦ inr (named.0, Contains-append_left ps (p ∷ []) q named.1)
  ];
  all = λ q is inside. elim (Contains-push_cases ps p q is) [
    | inl earlier ↦ before.all q earlier inside
    | inr same ↦ absurd (omega (arith, same, before.same))
  ];
}

pub named_next : (ps : List ℕ) (i : ℕ) (old ss new : List Status) → i < length ps → NamesAll (take i ps) old ss
    → (get_or ps i 0 < length ss → new ≡ slice_set ss (get_or ps i 0) Named)
    → (length ss ≤ get_or ps i 0 → new ≡ ss) → NamesAll (take (i + 1) ps) old new
named_next ps i old ss new within before inside past =
    let p : ℕ = get_or ps i 0 in
    let more : take (i + 1) ps ≡ take i ps ++ p ∷ [] = take_one ps i p (slice_get-get_or ps i 0 within) in
    subst (λ (l : List ℕ). NamesAll l old new) (sym more) (elim (cases_lt p (length ss)) [
      | inl less ↦ subst (NamesAll (take i ps ++ p ∷ []) old) (sym (inside less)) (named_more (take i ps) old ss p before less)
      | inr beyond ↦ subst (NamesAll (take i ps ++ p ∷ []) old) (sym (past beyond)) (named_past (take i ps) old ss p before beyond)
    ])

pub unnamed_next : (ps : List ℕ) (i : ℕ) (ss : List Status) → i < length ps
    → ((q : ℕ) → Contains (take i ps) q → status_at ss q ≢ Named) → status_at ss (get_or ps i 0) ≢ Named
    → (q : ℕ) → Contains (take (i + 1) ps) q → status_at ss q ≢ Named
unnamed_next ps i ss within before here q is =
    let p : ℕ = get_or ps i 0 in
    let more : take (i + 1) ps ≡ take i ps ++ p ∷ [] = take_one ps i p (slice_get-get_or ps i 0 within) in
    elim (Contains-push_cases (take i ps) p q (subst (λ (l : List ℕ). Contains l q) more is)) [
      | inl earlier ↦ before q earlier
      | inr same ↦ subst (λ (k : ℕ). status_at ss k ≢ Named) same here
    ]

pub named_here : (ps : List ℕ) (i : ℕ) (ss : List Status) → i < length ps → IsNamedAt ss (get_or ps i 0) → HasNamed ss ps
named_here ps i ss within is = (get_or ps i 0, Contains-get_or ps i 0 within, is)

-- ---- a series

judged_same : (pieces : List Piece) (head : Reading) (ss : List Status) (named : Bool) → AreMemos pieces ss
    → (named ≡ true → (q : ℕ) × IsNamedAt ss q × IsSegmentBy pieces head q)
    → (named ≡ false → (q : ℕ) → IsNamedAt ss q → IsSegmentBy pieces head q → ⊥) → JudgesSeries pieces head ss ss named
judged_same pieces head ss named memos has none = record { kept = λ q. inl refl; memos = memos; has = has; none = none }

pub judged_other : (pieces : List Piece) (head : Reading) (ss : List Status) → AreMemos pieces ss
    → (head.segment.number ≡ Number 1 → ⊥) → JudgesSeries pieces head ss ss false
judged_other pieces head ss memos other =
    judged_same pieces head ss false memos (λ is. absurd (true≢false (sym is))) (λ is q named by. other by.0)

pub judged_none : (pieces : List Piece) (head : Reading) (ss : List Status) → AreMemos pieces ss → series_of head.id pieces ≡ []
    → JudgesSeries pieces head ss ss false
judged_none pieces head ss memos none =
    judged_same pieces head ss false memos (λ is. absurd (true≢false (sym is)))
    (λ is q named by. none_at (series_of head.id pieces) q none by.1)

pub judged_by_memo : (pieces : List Piece) (head : Reading) (ss : List Status) (one : ℕ) (named : Bool) → AreMemos pieces ss
    → head.segment.number ≡ Number 1 → IsMemberAt (series_of head.id pieces) one
    → (named ≡ true → IsNamedAt ss one ⊎ (status_at ss one ≡ Touched)) → (named ≡ false → status_at ss one ≡ Untouched)
    → JudgesSeries pieces head ss ss named
judged_by_memo pieces head ss one named memos first member touched untouched =
    judged_same pieces head ss named memos
    (λ is. elim (touched is) [
      | inl here ↦ (one, here, (first, member))
      | inr memo ↦ let (q, at, in_) = memos.touched one head.id memo member in (q, at, (first, in_))
    ])
    (λ is q at by. memos.untouched one q head.id (untouched is) member by.1 at)

memo_unnamed : (named : Bool) → memo_of named ≢ Named
memo_unnamed true = λ e. cc
memo_unnamed false = λ e. cc

memo_either : (named : Bool) → (memo_of named ≡ Touched) ⊎ (memo_of named ≡ Untouched)
memo_either true = inl refl
memo_either false = inr refl

memo_true : (named : Bool) → memo_of named ≡ Touched → named ≡ true
memo_true true e = refl
memo_true false e = cc

memo_false : (named : Bool) → memo_of named ≡ Untouched → named ≡ false
memo_false true e = cc
memo_false false e = refl

-- a memo more names nothing
memo_named : (ss : List Status) (one q : ℕ) (named : Bool) → one < length ss → IsNamedAt (slice_set ss one (memo_of named)) q → IsNamedAt ss q
memo_named ss one q named within is = elim (put_cases ss one q (memo_of named) within) [
  | inl set ↦ absurd (memo_unnamed named (sym set.1 ∙ is))
  | inr kept ↦ sym kept ∙ is
]

named_memo : (ss : List Status) (one q : ℕ) (named : Bool) → one < length ss → status_at ss one ≡ Open → IsNamedAt ss q
    → IsNamedAt (slice_set ss one (memo_of named)) q
named_memo ss one q named within opened is = elim (put_cases ss one q (memo_of named) within) [
  | inl set ↦ let z : Open ≡ Named = sym opened ∙ (ap (status_at ss) (sym set.0) ∙ is) in absurd (cc)
  | inr kept ↦ kept ∙ is
]

set_memos : (pieces : List Piece) (head : Reading) (ss : List Status) (one : ℕ) (named : Bool) → AreMemos pieces ss
    → IsMemberAt (series_of head.id pieces) one → one < length ss → status_at ss one ≡ Open
    → (named ≡ true → (q : ℕ) × IsNamedAt ss q × IsMemberAt (series_of head.id pieces) q)
    → (named ≡ false → (q : ℕ) → IsNamedAt ss q → IsMemberAt (series_of head.id pieces) q → ⊥)
    → AreMemos pieces (slice_set ss one (memo_of named))
set_memos pieces head ss one named memos member within opened has none = record {
  touched = λ s id is in_. elim (put_cases ss one s (memo_of named) within) [
    | inl set ↦
        let (q, at, belongs) = has (memo_true named (sym set.1 ∙ is)) in
        let same : id ≡ head.id =
        same_id pieces id head.id one (subst (IsMemberAt (series_of id pieces)) set.0 in_) member in (
          q,
          named_memo ss one q named within opened at,
          subst (λ (i : Option (List ℕ)). IsMemberAt (series_of i pieces) q) (sym same) belongs,
        )
    | inr kept ↦
        let (q, at, belongs) = memos.touched s id (sym kept ∙ is) in_ in
        (q, named_memo ss one q named within opened at, belongs)
  ];
  untouched = λ s q id is in_ too at. elim (put_cases ss one s (memo_of named) within) [
    | inl set ↦
        let same : id ≡ head.id =
        same_id pieces id head.id one (subst (IsMemberAt (series_of id pieces)) set.0 in_) member in
        none (memo_false named (sym set.1 ∙ is)) q (memo_named ss one q named within at)
        (subst (λ (i : Option (List ℕ)). IsMemberAt (series_of i pieces) q) same too)
    | inr kept ↦ memos.untouched s q id (sym kept ∙ is) in_ too (memo_named ss one q named within at)
  ];
}

pub judged_anew : (pieces : List Piece) (head : Reading) (old new : List Status) (one : ℕ) (segments : List ℕ) (named : Bool)
    → AreMemos pieces old → head.segment.number ≡ Number 1 → IsMemberAt (series_of head.id pieces) one
    → AreMembersAt (series_of head.id pieces) segments → (named ≡ true → HasNamed old segments)
    → (named ≡ false → (q : ℕ) → Contains segments q → status_at old q ≢ Named) → KeepsMemo one named old new
    → JudgesSeries pieces head old new named
judged_anew pieces head old new one segments named memos first member members has none keeps =
    let some : named ≡ true → (q : ℕ) × IsNamedAt old q × IsMemberAt (series_of head.id pieces) q =
    (λ is. let (q, at, here) = has is in (q, here, (members.each q).0 at)) in
    let no_one : named ≡ false → (q : ℕ) → IsNamedAt old q → IsMemberAt (series_of head.id pieces) q → ⊥ =
    (λ is q here belongs. none is q ((members.each q).1 belongs) here) in
    record {
      kept = λ q. elim keeps [
        | inl same ↦ inl (ap (λ (ss : List Status). status_at ss q) same)
        | inr set ↦
            let (opened, within, is) = set in
            elim (put_cases old one q (memo_of named) within) [
              | inl here ↦ inr (
                ap (status_at old) here.0 ∙ opened,
                subst (λ (s : Status). (s ≡ Touched) ⊎ (s ≡ Untouched))
                    (sym (ap (λ (ss : List Status). status_at ss q) is ∙ here.1)) (memo_either named),
              )
              | inr kept ↦ inl (ap (λ (ss : List Status). status_at ss q) is ∙ kept)
            ]
      ];
      memos = elim keeps [
        | inl same ↦ subst (AreMemos pieces) (sym same) memos
        | inr set ↦
            let (opened, within, is) = set in
            subst (AreMemos pieces) (sym is) (set_memos pieces head old one named memos member within opened some no_one)
      ];
      has = λ is. let (q, at, belongs) = some is in (q, at, (first, belongs));
      none = λ is q at by. no_one is q at by.1;
    }

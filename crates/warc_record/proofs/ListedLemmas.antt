-- Which findings are listed, and in which order.
use Rattle.std.proofs.Common.{◌≡◌, inl, inr, ◌↔◌, ℕ, zero, suc, ◌≤◌, Bool, true, false, ◌&&◌, List, [], ◌∷◌, ◌++◌, map, refl, sym, subst, arith, true≢false, cond, append_assoc, append-nil}
use Rattle.std.specs.List.{All, AllPairs, Contains, filter}
use Rattle.std.specs.Str.{is_utf8}
use Rattle.std.proofs.lemmas.List.Elements.{All-nil, All-head, All-tail, All-map, All-push, All-weaker, Contains-append_left, Contains-append_right, Contains-append_cases}
use Rattle.std.proofs.lemmas.List.Quantifiers.{all_pairs_push}
use Rattle.std.proofs.lemmas.Bool.{not-true, not_from_false}
use Rattle.warc_field.specs.Area.{Pair}
use Rattle.warc_record.specs.declared.types.Kind.{Kind}
use Rattle.warc_record.specs.declared.checks.TableCheck.{TableCheck}
use Rattle.warc_record.specs.declared.checks.TableCheck.TheVariants.{Lacks, HasForbidden, Repeats}
use Rattle.warc_record.specs.Kinds.{is_known}
use Rattle.warc_record.specs.Readings.{Reading}
use Rattle.warc_record.specs.Table.{Rule, rules}
use Rattle.warc_record.specs.Findings.{SeenFinding, NotUtf8, Digest, SegmentNumber, IdUsed, NoContentType, Profile, BareId, NoOrigin, finding_number, once, is_broken, broken_rule, by_table, not_utf8, is_not_utf8, has_bad_segment, lacks_content_type, has_unknown_profile, has_bare_id, lacks_origin, findings_by}
use Rattle.warc_record.specs.FindingLaws.{IsByTable, IsOnce, IsNotUtf8, IsFinding, sentences, ListedWhereTheyHold, NumbersNeverFall}

-- ---- which are in the list

single : {X : Type 0} (z f : X) → Contains (z ∷ []) f → z ≡ f
single z f (zero, lt, e) = e
single z f (suc i, lt, e) = absurd (omega (arith, lt))

first : {X : Type 0} (x : X) (xs : List X) → Contains (x ∷ xs) x
first x xs = (0, omega arith, refl)

following : {X : Type 0} (y : X) (xs : List X) (x : X) → Contains xs x → Contains (y ∷ xs) x
following y xs x h = Contains-append_right (y ∷ []) xs x h

-- a list of what a function makes of those that pass
abbrev IsMade : {X Y : Type 0} → (X → Bool) → (X → Y) → List X → Y → Type 0
IsMade {X} p g xs f = (x : X) × Contains xs x × (p x ≡ true) × (f ≡ g x)

later : {X Y : Type 0} (p : X → Bool) (g : X → Y) (y : X) (xs : List X) (f : Y) → IsMade p g xs f → IsMade p g (y ∷ xs) f
later p g y xs f m = (m.0, following y xs m.0 m.1, m.2, m.3)

made_to : {X Y : Type 0} (p : X → Bool) (g : X → Y) (xs : List X) (f : Y) → Contains (map g (filter p xs)) f → IsMade p g xs f
made_to p g [] f h = absurd (let lt = h.1 in omega (arith, lt))
made_to p g (x ∷ xs) f h = by_test (p x) refl h (made_to p g xs f)
  where
    by_test : (b : Bool) → p x ≡ b → Contains (map g (cond b (x ∷ filter p xs) (filter p xs))) f
        → (Contains (map g (filter p xs)) f → IsMade p g xs f) → IsMade p g (x ∷ xs) f
    by_test true e c rest = elim (Contains-append_cases (g x ∷ []) (map g (filter p xs)) f c) [
      | inl one ↦ (x, first x xs, e, sym (single (g x) f one))
      | inr more ↦ later p g x xs f (rest more)
    ]
    by_test false e c rest = later p g x xs f (rest c)

made_from : {X Y : Type 0} (p : X → Bool) (g : X → Y) (xs : List X) (x : X) → Contains xs x → p x ≡ true → Contains (map g (filter p xs)) (g x)
made_from p g [] x h t = absurd (let lt = h.1 in omega (arith, lt))
made_from p g (y ∷ xs) x h t = by_test (p y) refl (λ more. made_from p g xs x more t)
  where
    by_test : (b : Bool) → p y ≡ b → (Contains xs x → Contains (map g (filter p xs)) (g x))
        → Contains (map g (cond b (y ∷ filter p xs) (filter p xs))) (g x)
    by_test true e rest = elim (Contains-append_cases (y ∷ []) xs x h) [
      | inl one ↦ subst (λ z. Contains (g y ∷ map g (filter p xs)) (g z)) (single y x one) (first (g y) (map g (filter p xs)))
      | inr more ↦ following (g y) (map g (filter p xs)) (g x) (rest more)
    ]
    by_test false e rest = elim (Contains-append_cases (y ∷ []) xs x h) [
      | inl one ↦ absurd (let same = single y x one in cc)
      | inr more ↦ rest more
    ]

made : {X Y : Type 0} (p : X → Bool) (g : X → Y) (xs : List X) (f : Y) → Contains (map g (filter p xs)) f ↔ IsMade p g xs f
made {X} {Y} p g xs f = (made_to p g xs f, λ m. subst (λ (z : Y). Contains (map g (filter p xs)) z) (sym m.3) (made_from p g xs m.0 m.1 m.2))

once_to : (n : SeenFinding) (b : Bool) (f : SeenFinding) → Contains (once n b) f → IsOnce (n, b) f
once_to n true f h = (refl, sym (single n f h))
once_to n false f h = absurd (let lt = h.1 in omega (arith, lt))

once_from : (n : SeenFinding) (b : Bool) (f : SeenFinding) → IsOnce (n, b) f → Contains (once n b) f
once_from n true f m = subst (λ z. Contains (once n true) z) (sym m.1) (first n [])
once_from n false f m = absurd (true≢false (sym m.0))

utf8_to : (fields : List Pair) (f : SeenFinding) → Contains (not_utf8 fields) f → IsNotUtf8 fields f
utf8_to fields f h =
    let m = made_to is_not_utf8 (λ (field : Pair). NotUtf8 field.0) fields f h in
    (m.0, m.1, not-true (is_utf8 m.0.1) m.2, m.3)

utf8_from : (fields : List Pair) (f : SeenFinding) → IsNotUtf8 fields f → Contains (not_utf8 fields) f
utf8_from fields f m =
    let made = made_from is_not_utf8 (λ (field : Pair). NotUtf8 field.0) fields m.0 m.1 (not_from_false (is_utf8 m.0.1) m.2) in
    subst (λ z. Contains (not_utf8 fields) z) (sym m.3) made

table_to : (check : TableCheck) (kind : Kind) (fields : List Pair) (f : SeenFinding) → Contains (by_table check kind fields) f → IsByTable check kind fields f
table_to check kind fields f h = made_to (is_broken check kind fields) (broken_rule check) rules f h

table_from : (check : TableCheck) (kind : Kind) (fields : List Pair) (f : SeenFinding) → IsByTable check kind fields f → Contains (by_table check kind fields) f
table_from check kind fields f m =
    let made = made_from (is_broken check kind fields) (broken_rule check) rules m.0 m.1 m.2 in
    subst (λ z. Contains (by_table check kind fields) z) (sym m.3) made

or_else : {X P : Type 0} (xs ys : List X) (x : X) → (Contains xs x → P) → (Contains ys x → P) → Contains (xs ++ ys) x → P
or_else xs ys x one other h = elim (Contains-append_cases xs ys x h) [
  | inl h ↦ one h
  | inr h ↦ other h
]

-- the findings of the first numbers
abbrev to_one : Reading → List Pair → ℕ → Bool → Bool → List SeenFinding
to_one r fs size bad used = by_table Lacks r.kind fs

abbrev to_two : Reading → List Pair → ℕ → Bool → Bool → List SeenFinding
to_two r fs size bad used = to_one r fs size bad used ++ by_table HasForbidden r.kind fs

abbrev to_three : Reading → List Pair → ℕ → Bool → Bool → List SeenFinding
to_three r fs size bad used = to_two r fs size bad used ++ by_table Repeats r.kind fs

abbrev to_four : Reading → List Pair → ℕ → Bool → Bool → List SeenFinding
to_four r fs size bad used = to_three r fs size bad used ++ once Digest (is_known r.kind && bad)

abbrev to_five : Reading → List Pair → ℕ → Bool → Bool → List SeenFinding
to_five r fs size bad used = to_four r fs size bad used ++ once SegmentNumber (has_bad_segment r fs)

abbrev to_six : Reading → List Pair → ℕ → Bool → Bool → List SeenFinding
to_six r fs size bad used = to_five r fs size bad used ++ once IdUsed used

abbrev to_seven : Reading → List Pair → ℕ → Bool → Bool → List SeenFinding
to_seven r fs size bad used = to_six r fs size bad used ++ once NoContentType (lacks_content_type r.kind fs size)

abbrev to_eight : Reading → List Pair → ℕ → Bool → Bool → List SeenFinding
to_eight r fs size bad used = to_seven r fs size bad used ++ once Profile (has_unknown_profile r fs)

abbrev to_nine : Reading → List Pair → ℕ → Bool → Bool → List SeenFinding
to_nine r fs size bad used = to_eight r fs size bad used ++ not_utf8 fs

abbrev to_ten : Reading → List Pair → ℕ → Bool → Bool → List SeenFinding
to_ten r fs size bad used = to_nine r fs size bad used ++ once BareId (has_bare_id r)

abbrev to_eleven : Reading → List Pair → ℕ → Bool → Bool → List SeenFinding
to_eleven r fs size bad used = to_ten r fs size bad used ++ once NoOrigin (lacks_origin r fs)

all_of_them : (r : Reading) (fs : List Pair) (size : ℕ) (bad used : Bool) → to_eleven r fs size bad used ≡ findings_by r fs size bad used
unfolding findings_by
all_of_them r fs size bad used = refl

-- what is among the first is among all
from_ten : (r : Reading) (fs : List Pair) (size : ℕ) (bad used : Bool) (f : SeenFinding) → Contains (to_ten r fs size bad used) f → Contains (to_eleven r fs size bad used) f
from_ten r fs size bad used f h = Contains-append_left (to_ten r fs size bad used) (once NoOrigin (lacks_origin r fs)) f h

from_nine : (r : Reading) (fs : List Pair) (size : ℕ) (bad used : Bool) (f : SeenFinding) → Contains (to_nine r fs size bad used) f → Contains (to_eleven r fs size bad used) f
from_nine r fs size bad used f h = from_ten r fs size bad used f (Contains-append_left (to_nine r fs size bad used) (once BareId (has_bare_id r)) f h)

from_eight : (r : Reading) (fs : List Pair) (size : ℕ) (bad used : Bool) (f : SeenFinding) → Contains (to_eight r fs size bad used) f → Contains (to_eleven r fs size bad used) f
from_eight r fs size bad used f h = from_nine r fs size bad used f (Contains-append_left (to_eight r fs size bad used) (not_utf8 fs) f h)

from_seven : (r : Reading) (fs : List Pair) (size : ℕ) (bad used : Bool) (f : SeenFinding) → Contains (to_seven r fs size bad used) f → Contains (to_eleven r fs size bad used) f
from_seven r fs size bad used f h = from_eight r fs size bad used f (Contains-append_left (to_seven r fs size bad used) (once Profile (has_unknown_profile r fs)) f h)

from_six : (r : Reading) (fs : List Pair) (size : ℕ) (bad used : Bool) (f : SeenFinding) → Contains (to_six r fs size bad used) f → Contains (to_eleven r fs size bad used) f
from_six r fs size bad used f h = from_seven r fs size bad used f (Contains-append_left (to_six r fs size bad used) (once NoContentType (lacks_content_type r.kind fs size)) f h)

from_five : (r : Reading) (fs : List Pair) (size : ℕ) (bad used : Bool) (f : SeenFinding) → Contains (to_five r fs size bad used) f → Contains (to_eleven r fs size bad used) f
from_five r fs size bad used f h = from_six r fs size bad used f (Contains-append_left (to_five r fs size bad used) (once IdUsed used) f h)

from_four : (r : Reading) (fs : List Pair) (size : ℕ) (bad used : Bool) (f : SeenFinding) → Contains (to_four r fs size bad used) f → Contains (to_eleven r fs size bad used) f
from_four r fs size bad used f h = from_five r fs size bad used f (Contains-append_left (to_four r fs size bad used) (once SegmentNumber (has_bad_segment r fs)) f h)

from_three : (r : Reading) (fs : List Pair) (size : ℕ) (bad used : Bool) (f : SeenFinding) → Contains (to_three r fs size bad used) f → Contains (to_eleven r fs size bad used) f
from_three r fs size bad used f h = from_four r fs size bad used f (Contains-append_left (to_three r fs size bad used) (once Digest (is_known r.kind && bad)) f h)

from_two : (r : Reading) (fs : List Pair) (size : ℕ) (bad used : Bool) (f : SeenFinding) → Contains (to_two r fs size bad used) f → Contains (to_eleven r fs size bad used) f
from_two r fs size bad used f h = from_three r fs size bad used f (Contains-append_left (to_two r fs size bad used) (by_table Repeats r.kind fs) f h)

from_one : (r : Reading) (fs : List Pair) (size : ℕ) (bad used : Bool) (f : SeenFinding) → Contains (to_one r fs size bad used) f → Contains (to_eleven r fs size bad used) f
from_one r fs size bad used f h = from_two r fs size bad used f (Contains-append_left (to_one r fs size bad used) (by_table HasForbidden r.kind fs) f h)

-- what a finding of a number means
say : (r : Reading) (fs : List Pair) (size : ℕ) (bad used : Bool) (n : SeenFinding) (b : Bool) (f : SeenFinding)
    → Contains (sentences r fs size bad used) (n, b) → Contains (once n b) f → IsFinding r fs size bad used f
say r fs size bad used n b f there h = inr (inr ((n, b), there, once_to n b f h))

said_to_one : (r : Reading) (fs : List Pair) (size : ℕ) (bad used : Bool) (f : SeenFinding) → Contains (to_one r fs size bad used) f → IsFinding r fs size bad used f
said_to_one r fs size bad used f h = inl (Lacks, table_to Lacks r.kind fs f h)

said_to_two : (r : Reading) (fs : List Pair) (size : ℕ) (bad used : Bool) (f : SeenFinding) → Contains (to_two r fs size bad used) f → IsFinding r fs size bad used f
said_to_two r fs size bad used f =
    or_else (to_one r fs size bad used) (by_table HasForbidden r.kind fs) f (said_to_one r fs size bad used f)
    (λ h. inl (HasForbidden, table_to HasForbidden r.kind fs f h))

said_to_three : (r : Reading) (fs : List Pair) (size : ℕ) (bad used : Bool) (f : SeenFinding) → Contains (to_three r fs size bad used) f → IsFinding r fs size bad used f
said_to_three r fs size bad used f =
    or_else (to_two r fs size bad used) (by_table Repeats r.kind fs) f (said_to_two r fs size bad used f)
    (λ h. inl (Repeats, table_to Repeats r.kind fs f h))

said_to_four : (r : Reading) (fs : List Pair) (size : ℕ) (bad used : Bool) (f : SeenFinding) → Contains (to_four r fs size bad used) f → IsFinding r fs size bad used f
said_to_four r fs size bad used f =
    or_else (to_three r fs size bad used) (once Digest (is_known r.kind && bad)) f (said_to_three r fs size bad used f)
    (say r fs size bad used Digest (is_known r.kind && bad) f (0, omega arith, refl))

said_to_five : (r : Reading) (fs : List Pair) (size : ℕ) (bad used : Bool) (f : SeenFinding) → Contains (to_five r fs size bad used) f → IsFinding r fs size bad used f
said_to_five r fs size bad used f =
    or_else (to_four r fs size bad used) (once SegmentNumber (has_bad_segment r fs)) f (said_to_four r fs size bad used f)
    (say r fs size bad used SegmentNumber (has_bad_segment r fs) f (1, omega arith, refl))

said_to_six : (r : Reading) (fs : List Pair) (size : ℕ) (bad used : Bool) (f : SeenFinding) → Contains (to_six r fs size bad used) f → IsFinding r fs size bad used f
said_to_six r fs size bad used f =
    or_else (to_five r fs size bad used) (once IdUsed used) f (said_to_five r fs size bad used f)
    (say r fs size bad used IdUsed used f (2, omega arith, refl))

said_to_seven : (r : Reading) (fs : List Pair) (size : ℕ) (bad used : Bool) (f : SeenFinding) → Contains (to_seven r fs size bad used) f → IsFinding r fs size bad used f
said_to_seven r fs size bad used f =
    or_else (to_six r fs size bad used) (once NoContentType (lacks_content_type r.kind fs size)) f (said_to_six r fs size bad used f)
    (say r fs size bad used NoContentType (lacks_content_type r.kind fs size) f (3, omega arith, refl))

said_to_eight : (r : Reading) (fs : List Pair) (size : ℕ) (bad used : Bool) (f : SeenFinding) → Contains (to_eight r fs size bad used) f → IsFinding r fs size bad used f
said_to_eight r fs size bad used f =
    or_else (to_seven r fs size bad used) (once Profile (has_unknown_profile r fs)) f (said_to_seven r fs size bad used f)
    (say r fs size bad used Profile (has_unknown_profile r fs) f (4, omega arith, refl))

said_to_nine : (r : Reading) (fs : List Pair) (size : ℕ) (bad used : Bool) (f : SeenFinding) → Contains (to_nine r fs size bad used) f → IsFinding r fs size bad used f
said_to_nine r fs size bad used f =
    or_else (to_eight r fs size bad used) (not_utf8 fs) f (said_to_eight r fs size bad used f)
    (λ h. inr (inl (utf8_to fs f h)))

said_to_ten : (r : Reading) (fs : List Pair) (size : ℕ) (bad used : Bool) (f : SeenFinding) → Contains (to_ten r fs size bad used) f → IsFinding r fs size bad used f
said_to_ten r fs size bad used f =
    or_else (to_nine r fs size bad used) (once BareId (has_bare_id r)) f (said_to_nine r fs size bad used f)
    (say r fs size bad used BareId (has_bare_id r) f (5, omega arith, refl))

said_to_eleven : (r : Reading) (fs : List Pair) (size : ℕ) (bad used : Bool) (f : SeenFinding) → Contains (to_eleven r fs size bad used) f → IsFinding r fs size bad used f
said_to_eleven r fs size bad used f =
    or_else (to_ten r fs size bad used) (once NoOrigin (lacks_origin r fs)) f (said_to_ten r fs size bad used f)
    (say r fs size bad used NoOrigin (lacks_origin r fs) f (6, omega arith, refl))

pick : (s : SeenFinding × Bool) (f : SeenFinding) (n : SeenFinding) (b : Bool) → (n, b) ≡ s → IsOnce s f → Contains (once n b) f
pick s f n b e m = once_from n b f (subst (λ z. IsOnce z f) (sym e) m)

sentence_from : (r : Reading) (fs : List Pair) (size : ℕ) (bad used : Bool) (f : SeenFinding) (s : SeenFinding × Bool)
    → Contains (sentences r fs size bad used) s → IsOnce s f → Contains (to_eleven r fs size bad used) f
sentence_from r fs size bad used f s (zero, lt, e) m =
    from_four r fs size bad used f
    (Contains-append_right (to_three r fs size bad used) (once Digest (is_known r.kind && bad)) f (pick s f Digest (is_known r.kind && bad) e m))
sentence_from r fs size bad used f s (suc zero, lt, e) m =
    from_five r fs size bad used f
    (Contains-append_right (to_four r fs size bad used) (once SegmentNumber (has_bad_segment r fs)) f (pick s f SegmentNumber (has_bad_segment r fs) e m))
sentence_from r fs size bad used f s (suc (suc zero), lt, e) m =
    from_six r fs size bad used f
    (Contains-append_right (to_five r fs size bad used) (once IdUsed used) f (pick s f IdUsed used e m))
sentence_from r fs size bad used f s (suc (suc (suc zero)), lt, e) m =
    from_seven r fs size bad used f
    (Contains-append_right (to_six r fs size bad used) (once NoContentType (lacks_content_type r.kind fs size)) f (pick s f NoContentType (lacks_content_type r.kind fs size) e m))
sentence_from r fs size bad used f s (suc (suc (suc (suc zero))), lt, e) m =
    from_eight r fs size bad used f
    (Contains-append_right (to_seven r fs size bad used) (once Profile (has_unknown_profile r fs)) f (pick s f Profile (has_unknown_profile r fs) e m))
sentence_from r fs size bad used f s (suc (suc (suc (suc (suc zero)))), lt, e) m =
    from_ten r fs size bad used f
    (Contains-append_right (to_nine r fs size bad used) (once BareId (has_bare_id r)) f (pick s f BareId (has_bare_id r) e m))
sentence_from r fs size bad used f s (suc (suc (suc (suc (suc (suc zero))))), lt, e) m =
    Contains-append_right (to_ten r fs size bad used) (once NoOrigin (lacks_origin r fs)) f (pick s f NoOrigin (lacks_origin r fs) e m)
sentence_from r fs size bad used f s (suc (suc (suc (suc (suc (suc (suc k)))))), lt, e) m = absurd (omega (arith, lt))

said_from : (r : Reading) (fs : List Pair) (size : ℕ) (bad used : Bool) (f : SeenFinding) → IsFinding r fs size bad used f → Contains (to_eleven r fs size bad used) f
said_from r fs size bad used f (inl (Lacks, m)) = from_one r fs size bad used f (table_from Lacks r.kind fs f m)
said_from r fs size bad used f (inl (HasForbidden, m)) =
    from_two r fs size bad used f
    (Contains-append_right (to_one r fs size bad used) (by_table HasForbidden r.kind fs) f (table_from HasForbidden r.kind fs f m))
said_from r fs size bad used f (inl (Repeats, m)) =
    from_three r fs size bad used f
    (Contains-append_right (to_two r fs size bad used) (by_table Repeats r.kind fs) f (table_from Repeats r.kind fs f m))
said_from r fs size bad used f (inr (inl m)) =
    from_nine r fs size bad used f
    (Contains-append_right (to_eight r fs size bad used) (not_utf8 fs) f (utf8_from fs f m))
said_from r fs size bad used f (inr (inr m)) = sentence_from r fs size bad used f m.0 m.1 m.2

pub listed_where_they_hold : ListedWhereTheyHold
listed_where_they_hold r fs size bad used f =
    subst (λ (l : List SeenFinding). Contains l f ↔ IsFinding r fs size bad used f) (all_of_them r fs size bad used)
    (said_to_eleven r fs size bad used f, said_from r fs size bad used f)

-- ---- in which order

NotBelow : SeenFinding → SeenFinding → Type 0
NotBelow a b = finding_number a ≤ finding_number b

-- the numbers never fall, and none is above one
record Rises (top : ℕ) (xs : List SeenFinding) : Type 0 where
  pairs : AllPairs NotBelow xs
  tops : All (λ f. finding_number f ≤ top) xs

weaker : (top n : ℕ) (xs : List SeenFinding) → top ≤ n → All (λ f. finding_number f ≤ top) xs → All (λ f. finding_number f ≤ n) xs
weaker top n xs le h = All-weaker (λ f. finding_number f ≤ top) (λ f. finding_number f ≤ n) (λ f below. omega (arith, below, le)) xs h

nothing_rises : (top : ℕ) → Rises top []
nothing_rises top = record { pairs = λ i j d lt below. absurd (omega (arith, below)); tops = All-nil (λ f. finding_number f ≤ top) }

push_rises : (top : ℕ) (xs : List SeenFinding) (y : SeenFinding) → Rises top xs → top ≤ finding_number y → Rises (finding_number y) (xs ++ y ∷ [])
unfolding NotBelow
push_rises top xs y x le = record {
  pairs = all_pairs_push NotBelow xs y x.pairs (λ k d lt. weaker top (finding_number y) xs le x.tops k d lt);
  tops = All-push (λ f. finding_number f ≤ finding_number y) xs y (weaker top (finding_number y) xs le x.tops) (omega arith);
}

more_rises : (top n : ℕ) (xs ys : List SeenFinding) → Rises top xs → top ≤ n → All (λ f. finding_number f ≡ n) ys → Rises n (xs ++ ys)
more_rises top n xs [] x le e =
    subst (λ l. Rises n l) (sym (append-nil xs)) (record { pairs = x.pairs; tops = weaker top n xs le x.tops })
more_rises top n xs (y ∷ ys) x le e =
    let same : finding_number y ≡ n = All-head (λ f. finding_number f ≡ n) y ys e in
    let one : Rises n (xs ++ y ∷ []) = subst (λ m. Rises m (xs ++ y ∷ [])) same (push_rises top xs y x (omega (arith, same, le))) in
    subst (λ l. Rises n l) (append_assoc xs (y ∷ []) ys)
    (more_rises n n (xs ++ y ∷ []) ys one (omega arith) (All-tail (λ f. finding_number f ≡ n) y ys e))

table_numbers : (check : TableCheck) (n : ℕ) (kind : Kind) (fields : List Pair) → ((rule : Rule) → finding_number (broken_rule check rule) ≡ n)
    → All (λ f. finding_number f ≡ n) (by_table check kind fields)
table_numbers check n kind fields is =
    All-map (λ f. finding_number f ≡ n) (broken_rule check) (filter (is_broken check kind fields) rules)
    (λ k d lt. is _)

utf8_numbers : (fields : List Pair) → All (λ f. finding_number f ≡ 9) (not_utf8 fields)
utf8_numbers fields =
    All-map (λ f. finding_number f ≡ 9) (λ (field : Pair). NotUtf8 field.0) (filter is_not_utf8 fields) (λ k d lt. refl)

once_numbers : (found : SeenFinding) (b : Bool) → All (λ f. finding_number f ≡ finding_number found) (once found b)
once_numbers found true = All-push (λ f. finding_number f ≡ finding_number found) [] found (All-nil (λ f. finding_number f ≡ finding_number found)) refl
once_numbers found false = All-nil (λ f. finding_number f ≡ finding_number found)

pub numbers_never_fall : NumbersNeverFall
unfolding NotBelow
numbers_never_fall r fs size bad used =
    let one = more_rises 0 1 [] (by_table Lacks r.kind fs)
    (nothing_rises 0) (omega arith) (table_numbers Lacks 1 r.kind fs (λ rule. refl)) in
    let two = more_rises 1 2 (to_one r fs size bad used) (by_table HasForbidden r.kind fs)
    one (omega arith) (table_numbers HasForbidden 2 r.kind fs (λ rule. refl)) in
    let three = more_rises 2 3 (to_two r fs size bad used) (by_table Repeats r.kind fs)
    two (omega arith) (table_numbers Repeats 3 r.kind fs (λ rule. refl)) in
    let four = more_rises 3 4 (to_three r fs size bad used) (once Digest (is_known r.kind && bad))
    three (omega arith) (once_numbers Digest (is_known r.kind && bad)) in
    let five = more_rises 4 5 (to_four r fs size bad used) (once SegmentNumber (has_bad_segment r fs))
    four (omega arith) (once_numbers SegmentNumber (has_bad_segment r fs)) in
    let six = more_rises 5 6 (to_five r fs size bad used) (once IdUsed used)
    five (omega arith) (once_numbers IdUsed used) in
    let seven = more_rises 6 7 (to_six r fs size bad used) (once NoContentType (lacks_content_type r.kind fs size))
    six (omega arith) (once_numbers NoContentType (lacks_content_type r.kind fs size)) in
    let eight = more_rises 7 8 (to_seven r fs size bad used) (once Profile (has_unknown_profile r fs))
    seven (omega arith) (once_numbers Profile (has_unknown_profile r fs)) in
    let nine = more_rises 8 9 (to_eight r fs size bad used) (not_utf8 fs)
    eight (omega arith) (utf8_numbers fs) in
    let ten = more_rises 9 10 (to_nine r fs size bad used) (once BareId (has_bare_id r))
    nine (omega arith) (once_numbers BareId (has_bare_id r)) in
    let eleven = more_rises 10 11 (to_ten r fs size bad used) (once NoOrigin (lacks_origin r fs))
    ten (omega arith) (once_numbers NoOrigin (lacks_origin r fs)) in
    subst (λ (l : List SeenFinding). AllPairs NotBelow l) (all_of_them r fs size bad used) eleven.pairs

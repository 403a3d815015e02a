-- Parts, lines, and where a CRLF is.
use Rattle.std.proofs.Common.{◌≡◌, ℕ, zero, suc, ◌+◌, ◌-◌, ◌<◌, ◌≤◌, Bool, true, false, not, ◌&&◌, ◌==◌, List, [], ◌∷◌, ◌++◌, length, take, drop, get_or, append_assoc, refl, sym, ap, ◌∙◌, get_or-drop, length-drop, arith, inl, inr, ⊎_elim, ◌⊎◌}
use Rattle.std.proofs.lemmas.List.{get_or_past}
use Rattle.std.proofs.lemmas.Bool.{cases_lt, cases_eq, false≢true, eqb-true}
use Rattle.std.specs.List.{prefix_len, flat_map}
use Rattle.std.proofs.lemmas.Grind.{common_steps}
use Rattle.memchr.specs.Find.{NoneBefore, Nowhere, Passes, is_byte}
use Rattle.warc_field.specs.Text.{is_blank}
use Rattle.warc_field.specs.Lines.{crlf_at, ends_at, parts, lines, is_crlf, in_front, begins_blank, unfolded, joined_parts, continued}

pub parts-nil : parts [] ≡ [] ∷ []
unfolding parts
parts-nil = refl

pub parts-one : (b : ℕ) → parts (b ∷ []) ≡ (b ∷ []) ∷ []
unfolding parts
parts-one b = refl

pub parts-crlf : (b c : ℕ) (bs : List ℕ) → is_crlf b c ≡ true → parts (b ∷ c ∷ bs) ≡ [] ∷ parts bs
unfolding parts
parts-crlf b c bs h = rw (h, parts) refl

pub parts-more : (b c : ℕ) (bs : List ℕ) → is_crlf b c ≡ false → parts (b ∷ c ∷ bs) ≡ in_front b (parts (c ∷ bs))
unfolding parts
parts-more b c bs h = rw (h, parts) refl

and_false : (v : Bool) → (v && false) ≡ true → ⊥
and_false true h = cc
and_false false h = cc

pub and_left : (v w : Bool) → (v && w) ≡ true → v ≡ true
and_left true w h = refl
and_left false w h = h

pub and_right : (v w : Bool) → (v && w) ≡ true → w ≡ true
and_right true w h = h
and_right false w h = cc

pub parts-first : (t : List ℕ) (n : ℕ) → crlf_at t n ≡ true → ((k : ℕ) → k < n → crlf_at t k ≡ false) → parts t ≡ take n t ∷ parts (drop (suc (suc n)) t)
parts-first [] n here before = cc
parts-first (b ∷ []) n here before = absurd (and_false _ here)
parts-first (b ∷ c ∷ bs) zero here before = parts-crlf b c bs here
parts-first (b ∷ c ∷ bs) (suc n) here before =
    parts-more b c bs (before 0 (omega arith)) ∙ ap (in_front b) (parts-first (c ∷ bs) n here (λ k h. before (suc k) (omega arith)))

pub parts-none : (t : List ℕ) → ((k : ℕ) → crlf_at t k ≡ false) → parts t ≡ t ∷ []
parts-none [] h = parts-nil
parts-none (b ∷ []) h = parts-one b
parts-none (b ∷ c ∷ bs) h = parts-more b c bs (h 0) ∙ ap (in_front b) (parts-none (c ∷ bs) (λ k. h (suc k)))

-- the two bytes of a CRLF
pub crlf_bytes : (a b : ℕ) → is_crlf a b ≡ true → (a ≡ 13) × (b ≡ 10)
crlf_bytes a b h = (eqb-true a 13 (and_left _ _ h), eqb-true b 10 (and_right _ _ h))

pub not_true : (b : Bool) → (b ≡ true → ⊥) → b ≡ false
not_true true h = absurd (h refl)
not_true false h = refl

pub true_or_false : (v : Bool) → (v ≡ true) ⊎ (v ≡ false)
true_or_false true = inl refl
true_or_false false = inr refl

pub parts-cons : (t : List ℕ) → (p : List ℕ) × (ps : List (List ℕ)) × (parts t ≡ p ∷ ps)
parts-cons [] = ([], [], parts-nil)
parts-cons (b ∷ []) = (b ∷ [], [], parts-one b)
parts-cons (b ∷ c ∷ bs) =
    ⊎_elim
    (λ is. ([], parts bs, parts-crlf b c bs is))
    (λ no. let rest = parts-cons (c ∷ bs) in (b ∷ rest.0, rest.1, parts-more b c bs no ∙ ap (in_front b) rest.2))
    (true_or_false (is_crlf b c))

-- a line ends with a CRLF that no space or tab follows
abbrev pub ends : ℕ → ℕ → List ℕ → Bool
ends b c bs = is_crlf b c && not (begins_blank bs)

pub lines-nil : lines [] ≡ [] ∷ []
unfolding lines
lines-nil = refl

pub lines-one : (b : ℕ) → lines (b ∷ []) ≡ (b ∷ []) ∷ []
unfolding lines
lines-one b = refl

pub lines-ends : (b c : ℕ) (bs : List ℕ) → ends b c bs ≡ true → lines (b ∷ c ∷ bs) ≡ [] ∷ lines bs
unfolding lines
lines-ends b c bs h = rw (h, lines) refl

pub lines-more : (b c : ℕ) (bs : List ℕ) → ends b c bs ≡ false → lines (b ∷ c ∷ bs) ≡ in_front b (lines (c ∷ bs))
unfolding lines
lines-more b c bs h = rw (h, lines) refl

pub begins_blank-get : (t : List ℕ) → begins_blank t ≡ is_blank (get_or t 0 0)
unfolding is_blank
begins_blank-get [] = refl
begins_blank-get (b ∷ bs) = refl

pub lines-first : (t : List ℕ) (n : ℕ) → ends_at t n ≡ true → ((k : ℕ) → k < n → ends_at t k ≡ false) → lines t ≡ take n t ∷ lines (drop (suc (suc n)) t)
lines-first [] n here before = cc
lines-first (b ∷ []) n here before = absurd (and_false _ (and_left _ _ here))
lines-first (b ∷ c ∷ bs) zero here before = lines-ends b c bs (ap (λ v. is_crlf b c && not v) (begins_blank-get bs) ∙ here)
lines-first (b ∷ c ∷ bs) (suc n) here before =
    lines-more b c bs (ap (λ v. is_crlf b c && not v) (begins_blank-get bs) ∙ before 0 (omega arith)) ∙ ap (in_front b) (lines-first (c ∷ bs) n here (λ k h. before (suc k) (omega arith)))

pub lines-none : (t : List ℕ) → ((k : ℕ) → ends_at t k ≡ false) → lines t ≡ t ∷ []
lines-none [] h = lines-nil
lines-none (b ∷ []) h = lines-one b
lines-none (b ∷ c ∷ bs) h = lines-more b c bs (ap (λ v. is_crlf b c && not v) (begins_blank-get bs) ∙ h 0) ∙ ap (in_front b) (lines-none (c ∷ bs) (λ k. h (suc k)))

pub lines-cons : (t : List ℕ) → (p : List ℕ) × (ps : List (List ℕ)) × (lines t ≡ p ∷ ps)
lines-cons [] = ([], [], lines-nil)
lines-cons (b ∷ []) = (b ∷ [], [], lines-one b)
lines-cons (b ∷ c ∷ bs) =
    ⊎_elim
    (λ is. ([], lines bs, lines-ends b c bs is))
    (λ no. let rest = lines-cons (c ∷ bs) in (b ∷ rest.0, rest.1, lines-more b c bs no ∙ ap (in_front b) rest.2))
    (true_or_false (ends b c bs))

pub and_false_left : (v w : Bool) → v ≡ false → (v && w) ≡ false
and_false_left true w h = cc
and_false_left false w h = refl

-- a CRLF after the first i bytes
pub crlf_at-drop : (t : List ℕ) (i k : ℕ) → crlf_at (drop i t) k ≡ crlf_at t (i + k)
crlf_at-drop t i k =
    let e : i + suc k ≡ suc (i + k) = omega arith in
    rw (get_or-drop i t k 0, get_or-drop i t (suc k) 0, e)

and_with_false : (v : Bool) → (v && false) ≡ false
and_with_false true = refl
and_with_false false = refl

and_false_right : (v w : Bool) → w ≡ false → (v && w) ≡ false
and_false_right v w h = ap (λ x. v && x) h ∙ and_with_false v

-- what a search for CR among the bytes from `at` on says of the CRLFs there
module _ (t : List ℕ) (at : ℕ) where
  no_cr : (k : ℕ) → (Passes (is_byte 13) (drop at t) (k - at) → ⊥) → at ≤ k → crlf_at t k ≡ false
  no_cr k none low =
      let e : at + (k - at) ≡ k = omega arith in
      let there : get_or (drop at t) (k - at) 0 ≡ get_or t k 0 = get_or-drop at t (k - at) 0 ∙ ap (λ n. get_or t n 0) e in
      and_false_left _ _ (not_true _ (λ is. none (ap (λ b. b == 13) there ∙ is)))

  pub crlf-before : (step : ℕ) → NoneBefore (Passes (is_byte 13) (drop at t)) 0 (length (drop at t)) step → (k : ℕ) → at ≤ k → k < at + step → crlf_at t k ≡ false
  crlf-before step first k low high = no_cr k (first.before (k - at) (omega arith) (omega (arith, low, high))) low

  pub crlf-absent : Nowhere (Passes (is_byte 13) (drop at t)) 0 (length (drop at t)) → (k : ℕ) → at ≤ k → crlf_at t k ≡ false
  crlf-absent none k low = ⊎_elim
      (λ inside. no_cr k (none (k - at) (omega arith) inside) low)
      (λ past. and_false_left _ _ (ap (λ b. b == 13) (get_or_past t k 0 (omega (arith, past, low, length-drop at t)))))
      (cases_lt (k - at) (length (drop at t)))

  pub cr_there : (step : ℕ) → Passes (is_byte 13) (drop at t) step → get_or t (at + step) 0 ≡ 13
  cr_there step is = sym (get_or-drop at t step 0) ∙ eqb-true _ 13 is

  -- one turn of a search that found CR with no LF after it
  module _ (from step : ℕ) (before : (k : ℕ) → from ≤ k → k < at → crlf_at t k ≡ false) (first : NoneBefore (Passes (is_byte 13) (drop at t)) 0 (length (drop at t)) step) where
    pub crlf-up_to : (k : ℕ) → from ≤ k → k < at + step → crlf_at t k ≡ false
    crlf-up_to k low high = ⊎_elim (before k low) (λ above. crlf-before step first k above high) (cases_lt k at)

    pub crlf-past : (get_or t (at + step + 1) 0 ≡ 10 → ⊥) → (k : ℕ) → from ≤ k → k < at + step + 1 → crlf_at t k ≡ false
    crlf-past other k low high = ⊎_elim
        (crlf-up_to k low)
        (λ here. let e : suc k ≡ at + step + 1 = omega (arith, here, high) in
        and_false_right (get_or t k 0 == 13) _ (not_true _ (λ is. other (ap (λ n. get_or t n 0) (sym e) ∙ eqb-true _ 10 is))))
        (cases_lt k (at + step))

blank_no_cr : (b c : ℕ) → is_blank b ≡ true → is_crlf b c ≡ false
unfolding is_blank
blank_no_cr b c h = ⊎_elim (λ is. absurd (false≢true (let e : is_blank 13 ≡ true = ap is_blank (sym is) ∙ h in e))) (λ no. and_false_left _ _ (not_true _ (λ is. no (eqb-true b 13 is)))) (cases_eq b 13)

pub append_nil : (xs : List ℕ) → xs ++ [] ≡ xs
append_nil [] = refl
append_nil (x ∷ xs) = ap (λ ys. x ∷ ys) (append_nil xs)

-- the first part without the spaces and tabs that it begins with
trim_first : List (List ℕ) → List (List ℕ)
trim_first [] = []
trim_first (p ∷ ps) = drop (prefix_len is_blank p) p ∷ ps

pub drop-blank : (b : ℕ) (xs : List ℕ) → is_blank b ≡ true → drop (prefix_len is_blank (b ∷ xs)) (b ∷ xs) ≡ drop (prefix_len is_blank xs) xs
drop-blank b xs h = let e : 1 + prefix_len is_blank xs ≡ suc (prefix_len is_blank xs) = omega arith in rw (h, e)

drop-other : (b : ℕ) (xs : List ℕ) → is_blank b ≡ false → drop (prefix_len is_blank (b ∷ xs)) (b ∷ xs) ≡ b ∷ xs
drop-other b xs h = rw h

trim_first-blank : (b : ℕ) (ps : List (List ℕ)) → is_blank b ≡ true → trim_first (in_front b ps) ≡ trim_first ps
unfolding trim_first
trim_first-blank b [] h = refl
trim_first-blank b (p ∷ ps) h = ap (λ q. q ∷ ps) (drop-blank b p h)

trim_first-other : (b : ℕ) (ps : List (List ℕ)) → is_blank b ≡ false → trim_first (in_front b ps) ≡ in_front b ps
unfolding trim_first
trim_first-other b [] h = refl
trim_first-other b (p ∷ ps) h = ap (λ q. q ∷ ps) (drop-other b p h)

parts-trim : (t : List ℕ) → parts (drop (prefix_len is_blank t) t) ≡ trim_first (parts t)
unfolding trim_first
parts-trim [] = rw parts-nil
parts-trim (b ∷ []) = ⊎_elim
    (λ is. ap parts (drop-blank b [] is) ∙ parts-nil ∙ sym (ap trim_first (parts-one b) ∙ ap (λ q. q ∷ []) (drop-blank b [] is)))
    (λ no. ap parts (drop-other b [] no) ∙ sym (ap trim_first (parts-one b) ∙ trim_first-other b ([] ∷ []) no ∙ sym (parts-one b)))
    (true_or_false (is_blank b))
parts-trim (b ∷ c ∷ bs) = ⊎_elim
    (λ is. ap parts (drop-blank b (c ∷ bs) is) ∙ parts-trim (c ∷ bs) ∙ sym (ap trim_first (parts-more b c bs (blank_no_cr b c is)) ∙ trim_first-blank b (parts (c ∷ bs)) is))
    (λ no. ap parts (drop-other b (c ∷ bs) no) ∙ ⊎_elim
    (λ cr. parts-crlf b c bs cr ∙ sym (ap trim_first (parts-crlf b c bs cr)))
    (λ more. parts-more b c bs more ∙ sym (ap trim_first (parts-more b c bs more) ∙ trim_first-other b (parts (c ∷ bs)) no))
    (true_or_false (is_crlf b c)))
    (true_or_false (is_blank b))

-- what comes after a CRLF is the parts after it, each continued
unfolded-part : (t part more : List ℕ) → parts t ≡ part ∷ parts more → unfolded t ≡ part ++ flat_map continued (parts more)
unfolding unfolded
unfolded-part t part more e = ap joined_parts e

unfoldable pub first : List (List ℕ) → List ℕ
first [] = []
first (p ∷ ps) = p

pub begins_blank-first : (t : List ℕ) → begins_blank (first (parts t)) ≡ begins_blank t
unfolding first
begins_blank-first [] = rw parts-nil
begins_blank-first (b ∷ []) = rw (parts-one b)
begins_blank-first (b ∷ c ∷ bs) = ⊎_elim
    (λ cr. ap (λ ps. begins_blank (first ps)) (parts-crlf b c bs cr) ∙ sym (not_true _ (λ blank. false≢true (sym (blank_no_cr b c blank) ∙ cr))))
    (λ more. ap (λ ps. begins_blank (first ps)) (parts-more b c bs more) ∙ (let e = parts-cons (c ∷ bs) in rw e.2))
    (true_or_false (is_crlf b c))

continued-blank : (p : List ℕ) → begins_blank p ≡ true → continued p ≡ 32 ∷ drop (prefix_len is_blank p) p
continued-blank p h = rw h

pub continued-other : (p : List ℕ) → begins_blank p ≡ false → continued p ≡ 13 ∷ 10 ∷ p
continued-other p h = rw h

tail-other : (qs : List (List ℕ)) (p : List ℕ) (ps : List (List ℕ)) → qs ≡ p ∷ ps → begins_blank (first qs) ≡ false → flat_map continued qs ≡ 13 ∷ 10 ∷ joined_parts qs
unfolding first
tail-other [] p ps e h = cc
tail-other (q ∷ qs) p ps e h = ap (λ c. c ++ flat_map continued qs) (continued-other q h)

tail-blank : (qs : List (List ℕ)) (p : List ℕ) (ps : List (List ℕ)) → qs ≡ p ∷ ps → begins_blank (first qs) ≡ true → flat_map continued qs ≡ 32 ∷ joined_parts (trim_first qs)
unfolding first trim_first
tail-blank [] p ps e h = cc
tail-blank (q ∷ qs) p ps e h = ap (λ c. c ++ flat_map continued qs) (continued-blank q h)

-- after a CRLF that no space or tab follows
pub unfolded-other : (t part more : List ℕ) → parts t ≡ part ∷ parts more → begins_blank more ≡ false → unfolded t ≡ part ++ 13 ∷ 10 ∷ unfolded more
unfolding unfolded
unfolded-other t part more e h =
    let cut = parts-cons more in
    ap joined_parts e ∙ ap (λ xs. part ++ xs) (tail-other (parts more) cut.0 cut.1 cut.2 (begins_blank-first more ∙ h))

-- after one that spaces or tabs follow
pub unfolded-blank : (t part more : List ℕ) → parts t ≡ part ∷ parts more → begins_blank more ≡ true → unfolded t ≡ part ++ 32 ∷ unfolded (drop (prefix_len is_blank more) more)
unfolding unfolded
unfolded-blank t part more e h =
    let cut = parts-cons more in
    ap joined_parts e ∙ ap (λ xs. part ++ xs) (tail-blank (parts more) cut.0 cut.1 cut.2 (begins_blank-first more ∙ h) ∙ ap (λ qs. 32 ∷ joined_parts qs) (sym (parts-trim more)))

-- with no CRLF
pub unfolded-none : (t : List ℕ) → parts t ≡ t ∷ [] → unfolded t ≡ t
unfolding unfolded
unfolded-none t e = ap joined_parts e ∙ append_nil t

blank_len-some : (t : List ℕ) → 0 < prefix_len is_blank t → begins_blank t ≡ true
blank_len-some [] h = absurd (omega arith)
blank_len-some (b ∷ bs) h = ⊎_elim (λ is. is) (λ no. absurd (let e : prefix_len is_blank (b ∷ bs) ≡ 0 = rw no in omega (arith, e, h))) (true_or_false (is_blank b))

blank_len-none : (t : List ℕ) → prefix_len is_blank t ≡ 0 → begins_blank t ≡ false
blank_len-none [] h = refl
blank_len-none (b ∷ bs) h = ⊎_elim (λ is. absurd (let e : prefix_len is_blank (b ∷ bs) ≡ 1 + prefix_len is_blank bs = rw is in omega (arith, e, h))) (λ no. no) (true_or_false (is_blank b))

rest_of : (n : ℕ) (t : List ℕ) → take (length t - n) (drop n t) ≡ drop n t
rest_of n t = grind (arith, common_steps)

-- one turn of unfolding: `out` is written, `rest` is left, and n is the length of the run of spaces and tabs
module _ (out rest part more whole : List ℕ) (n : ℕ) (so_far : out ++ unfolded rest ≡ whole) (cut : parts rest ≡ part ∷ parts more) (run : n ≡ prefix_len is_blank more) where
  pub unfold-other : n ≡ 0 → ((out ++ part) ++ 13 ∷ 10 ∷ []) ++ unfolded (take (length more - n) (drop n more)) ≡ whole
  unfold-other none =
      ap (λ xs. ((out ++ part) ++ 13 ∷ 10 ∷ []) ++ unfolded xs) (rest_of n more ∙ ap (λ k. drop k more) none)
      ∙ append_assoc (out ++ part) (13 ∷ 10 ∷ []) (unfolded more) ∙ append_assoc out part (13 ∷ 10 ∷ unfolded more)
      ∙ ap (λ xs. out ++ xs) (sym (unfolded-other rest part more cut (blank_len-none more (sym run ∙ none)))) ∙ so_far

  pub unfold-blank : 0 < n → ((out ++ part) ++ 32 ∷ []) ++ unfolded (take (length more - n) (drop n more)) ≡ whole
  unfold-blank some =
      ap (λ xs. ((out ++ part) ++ 32 ∷ []) ++ unfolded xs) (rest_of n more ∙ ap (λ k. drop k more) run)
      ∙ append_assoc (out ++ part) (32 ∷ []) (unfolded (drop (prefix_len is_blank more) more)) ∙ append_assoc out part (32 ∷ unfolded (drop (prefix_len is_blank more) more))
      ∙ ap (λ xs. out ++ xs) (sym (unfolded-blank rest part more cut (blank_len-some more (omega (arith, run, some))))) ∙ so_far

pub blank-past : (t : List ℕ) (k : ℕ) → length t ≤ k → is_blank (get_or t k 0) ≡ false
unfolding is_blank
blank-past t k h = rw (get_or_past t k 0 h)

-- what a search that begins at `from` says of the first line
module _ (t : List ℕ) (from : ℕ) (before : (k : ℕ) → k < from → ends_at t k ≡ false) where
  pub lines-here : (at : ℕ) → ((k : ℕ) → from ≤ k → k < at → crlf_at t k ≡ false) → crlf_at t at ≡ true → is_blank (get_or t (at + 2) 0) ≡ false → lines t ≡ take at t ∷ lines (drop (at + 2) t)
  lines-here at none here other =
      let e : at + 2 ≡ suc (suc at) = omega arith in
      let ends : ends_at t at ≡ true = rw (here, ← e, other) in
      lines-first t at ends (λ k h. ⊎_elim (before k) (λ above. and_false_left _ _ (none k above h)) (cases_lt k from)) ∙ ap (λ n. take at t ∷ lines (drop n t)) (sym e)

  pub lines-rest : ((k : ℕ) → from ≤ k → crlf_at t k ≡ false) → lines t ≡ t ∷ []
  lines-rest none = lines-none t (λ k. ⊎_elim (before k) (λ above. and_false_left _ _ (none k above)) (cases_lt k from))

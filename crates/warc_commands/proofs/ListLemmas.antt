-- Lists of positions, line by line.
use Rattle.std.proofs.Common.{◌≡◌, ℕ, ◌+◌, ◌<◌, Bool, true, false, List, [], ◌∷◌, ◌++◌, ◌&&◌, ◌==◌, not, length, length-append, append_assoc, append-nil, take, take_all, is_none, Option, Some, None, option_map, cond, refl, sym, ap, subst, ◌∙◌, arith}
use Rattle.std.proofs.lemmas.Bool.{false_from_ne_true}
use Rattle.std.proofs.lemmas.List.Elements.{All-append, All-cons, All-head, All-nil, All-tail, filter_map-append}
use Rattle.std.proofs.lemmas.List.Sums.{position_or_len_is}
use Rattle.std.specs.List.{All, before_first, cons_option, filter_map, position, position_or_len}
use Rattle.std.proofs.lemmas.Grind.{common_steps}
use Rattle.warc_field.specs.Decimal.{decimal_of}
use Rattle.memchr.specs.Find.{IsFirstByte}
use Rattle.warc_commands.specs.Named.{is_bad_line, position_in}

-- the bytes before the first one that a search finds
pub to_gap : (test : ℕ → Bool) (line : List ℕ) (r : Option ℕ) → IsFirstByte test line r → (k : ℕ) → r ≡ Some k → take k line ≡ before_first test line
to_gap test line (Some n) first k same =
    let at : position_or_len test line ≡ n = position_or_len_is test line n 0 (omega (arith, first.0.high)) (λ j lt. false_from_ne_true _ (first.0.before j (omega arith) lt)) (λ lt. first.1) in
    let e : n ≡ k = cc in
    ap (λ m. take m line) (sym e ∙ sym at)
to_gap test line None first k same = absurd (cc same)

pub no_gap : (test : ℕ → Bool) (line : List ℕ) (r : Option ℕ) → IsFirstByte test line r → r ≡ None → line ≡ before_first test line
no_gap test line (Some n) first same = absurd (cc same)
no_gap test line None first same =
    let at : position_or_len test line ≡ length line = position_or_len_is test line (length line) 0 (omega arith) (λ k lt. false_from_ne_true _ (first k (omega arith) lt)) (λ lt. absurd (omega (arith, lt))) in
    sym (take_all (position_or_len test line) line (omega (arith, at)))

-- the first lines were read, and these are left
pub record HasRead (lines : List (List ℕ)) (number : ℕ) (positions : List ℕ) (rest : List (List ℕ)) : Type 0 where
  pub done : List (List ℕ)
  pub whole : lines ≡ done ++ rest
  pub count : number ≡ length done
  pub good : All (λ line. is_bad_line line ≡ false) done
  pub named : positions ≡ filter_map position_in done

pub nothing_read : (lines : List (List ℕ)) → HasRead lines 0 [] lines
nothing_read lines = record { done = []; whole = refl; count = refl; good = All-nil (λ line. is_bad_line line ≡ false); named = refl }

-- the first bad line, which comes after good ones
prefix_good : (done more : List (List ℕ)) → All (λ line. is_bad_line line ≡ false) done → position_or_len is_bad_line (done ++ more) ≡ length done + position_or_len is_bad_line more
prefix_good [] more good = omega arith
prefix_good (line ∷ done) more good =
    let head : is_bad_line line ≡ false = All-head (λ line. is_bad_line line ≡ false) line done good in
    let rest = prefix_good done more (All-tail (λ line. is_bad_line line ≡ false) line done good) in
    ap (λ b. cond (not b) (1 + position_or_len is_bad_line (done ++ more)) 0) head ∙ omega (arith, rest)

at_bad : (line : List ℕ) (rest : List (List ℕ)) → is_bad_line line ≡ true → position_or_len is_bad_line (line ∷ rest) ≡ 0
at_bad line rest bad = ap (λ b. cond (not b) (1 + position_or_len is_bad_line rest) 0) bad

first_bad : (lines done rest : List (List ℕ)) (line : List ℕ) → lines ≡ done ++ (line ∷ rest) → All (λ line. is_bad_line line ≡ false) done → is_bad_line line ≡ true → position is_bad_line lines ≡ Some (length done)
first_bad lines done rest line whole good bad =
    let at : position_or_len is_bad_line lines ≡ length done = ap (position_or_len is_bad_line) whole ∙ prefix_good done (line ∷ rest) good ∙ omega (arith, at_bad line rest bad) in
    let long : length done < length lines = omega (arith, ap length whole, length-append done (line ∷ rest)) in
    grind (arith, common_steps, at, long)

none_bad : (lines : List (List ℕ)) → All (λ line. is_bad_line line ≡ false) lines → position is_bad_line lines ≡ None
none_bad lines good =
    let at : position_or_len is_bad_line lines ≡ length lines = ap (position_or_len is_bad_line) (sym (append-nil lines)) ∙ prefix_good lines [] good ∙ omega arith in
    grind (arith, common_steps, at)

-- what a line is by the position that it has
empty_good : (line : List ℕ) → length line ≡ 0 → is_bad_line line ≡ false
unfolding is_bad_line
empty_good [] none = refl
empty_good (b ∷ bs) none = absurd (omega (arith, none))

empty_none : (line : List ℕ) → length line ≡ 0 → position_in line ≡ None
unfolding position_in decimal_of
empty_none [] none = refl
empty_none (b ∷ bs) none = absurd (omega (arith, none))

and_false : (b c : Bool) → c ≡ false → (b && c) ≡ false
and_false true c same = same
and_false false c same = refl

and_true : (b c : Bool) → b ≡ false → c ≡ true → (not b && c) ≡ true
and_true true c same is = absurd (cc same)
and_true false c same is = is

named_good : (line : List ℕ) (p : ℕ) → position_in line ≡ Some p → is_bad_line line ≡ false
unfolding is_bad_line
named_good line p same = and_false (not (length line == 0)) (is_none (position_in line)) (ap is_none same)

unnamed_bad : (line : List ℕ) → (length line == 0) ≡ false → position_in line ≡ None → is_bad_line line ≡ true
unfolding is_bad_line
unnamed_bad line some none = and_true (length line == 0) (is_none (position_in line)) some (ap is_none none)

-- one more line
more_read : {lines : List (List ℕ)} {number : ℕ} {positions left : List ℕ} {now rest : List (List ℕ)} {line : List ℕ} → HasRead lines number positions now → now ≡ line ∷ rest → is_bad_line line ≡ false
    → left ≡ positions ++ filter_map position_in (line ∷ []) → HasRead lines (number + 1) left rest
more_read {lines} {number} {positions} {left} {now} {rest} {line} read step good named = record {
  done = read.done ++ line ∷ [];
  whole = read.whole ∙ ap (λ l. read.done ++ l) step ∙ sym (append_assoc read.done (line ∷ []) rest);
  count = omega (arith, read.count, length-append read.done (line ∷ []));
  good = All-append (λ line. is_bad_line line ≡ false) read.done (line ∷ []) read.good (All-cons (λ line. is_bad_line line ≡ false) line [] good (All-nil (λ line. is_bad_line line ≡ false)));
  named = named ∙ ap (λ l. l ++ filter_map position_in (line ∷ [])) read.named ∙ sym (filter_map-append position_in read.done (line ∷ []));
}

pub passed_over : {lines : List (List ℕ)} {number : ℕ} {positions : List ℕ} {now rest : List (List ℕ)} {line : List ℕ} → HasRead lines number positions now → now ≡ line ∷ rest → length line ≡ 0
    → HasRead lines (number + 1) positions rest
passed_over {lines} {number} {positions} {now} {rest} {line} read step empty =
    more_read read step (empty_good line empty) (sym (append-nil positions) ∙ ap (λ o. positions ++ (cons_option o [])) (sym (empty_none line empty)))

pub named_next : {lines : List (List ℕ)} {number : ℕ} {positions left : List ℕ} {now rest : List (List ℕ)} {line : List ℕ} (p : ℕ) → HasRead lines number positions now → now ≡ line ∷ rest → position_in line ≡ Some p
    → left ≡ positions ++ p ∷ [] → HasRead lines (number + 1) left rest
named_next {lines} {number} {positions} {left} {now} {rest} {line} p read step is named =
    more_read read step (named_good line p is) (named ∙ ap (λ o. positions ++ (cons_option o [])) (sym is))

pub bad_at : {lines : List (List ℕ)} {number : ℕ} {positions : List ℕ} {now rest : List (List ℕ)} {line : List ℕ} → HasRead lines number positions now → now ≡ line ∷ rest → (length line == 0) ≡ false → position_in line ≡ None
    → option_map (λ i. i + 1) (position is_bad_line lines) ≡ Some (number + 1)
bad_at {lines} {number} {positions} {now} {rest} {line} read step some none =
    ap (option_map (λ i. i + 1)) (first_bad lines read.done rest line (read.whole ∙ ap (λ l. read.done ++ l) step) read.good (unnamed_bad line some none)) ∙ ap (λ n. Some (n + 1)) (sym read.count)

pub all_read : {lines : List (List ℕ)} {number : ℕ} {positions : List ℕ} {now : List (List ℕ)} → HasRead lines number positions now → now ≡ []
    → (option_map (λ i. i + 1) (position is_bad_line lines) ≡ None) × (positions ≡ filter_map position_in lines)
all_read {lines} {number} {positions} {now} read none =
    let whole : lines ≡ read.done = read.whole ∙ ap (λ l. read.done ++ l) none ∙ append-nil read.done in
    let good = let P : List (List ℕ) → Type 0 = λ l. All (λ line. is_bad_line line ≡ false) l in subst P (sym whole) read.good in
    (ap (option_map (λ i. i + 1)) (none_bad lines good), read.named ∙ ap (filter_map position_in) (sym whole))

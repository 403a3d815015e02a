-- What stays when bytes are appended.
use Rattle.std.proofs.Common.{◌≡◌, ℕ, zero, suc, ◌+◌, ◌-◌, ◌≤◌, true, false, not, nat_lt, nat_le, List, [], ◌∷◌, ◌++◌, Option, Some, None, Result, Ok, Err, length, length-append, length-drop, take, drop, append_assoc, refl, sym, ap, ◌∙◌, arith, ⊎_elim}
use Rattle.std.specs.Prelude.{option_map}
use Rattle.std.specs.List.{slice_range}
use Rattle.std.proofs.lemmas.List.{drop_all, take-append-le, drop-append-le}
use Rattle.std.proofs.lemmas.Bool.{cases_lt, false≢true, false_from_ne_true, and_parts, and_from, le-leb, leb-true}
use Rattle.warc_field.specs.Lines.{crlf}
use Rattle.warc_frame.specs.declared.version.Version.{Version}
use Rattle.warc_frame.specs.declared.version.Version.TheVariants.{V1_0, V1_1}
use Rattle.warc_frame.specs.declared.fault.FaultKind.TheVariants.{Version as NoVersion, HeadTooLong, Truncated, End}
use Rattle.warc_frame.specs.declared.fault.Fault.{Fault}
use Rattle.warc_frame.specs.Record.{Record, max_head}
use Rattle.warc_frame.specs.VersionLine.{version_line}
use Rattle.warc_frame.specs.Reading.{◌>>=◌, Judgement, Head, fault, begins, version_of, empty_line, head_front, head_len, head_of, block_at, record_of, refuses}
use Rattle.warc_frame.proofs.EmptyLineLemmas.{true_or_false, empty_line-more}
use Rattle.warc_frame.proofs.CanonicalLemmas.{version_size}
use Rattle.warc_frame.proofs.HeadLemmas.{begins-front, version-begins}
use Rattle.warc_frame.proofs.RowLemmas.{bind_err, err_same, refuses-err, option_cases, not_truth}
use Rattle.warc_frame.proofs.ReadLemmas.{head-looks}
use Rattle.warc_frame.proofs.SpellLemmas.{version-read}

-- what doesn't begin as wanted never will
pub begins-more : (t x wanted : List ℕ) → begins (t ++ x) wanted ≡ true → begins t wanted ≡ true
begins-more t x [] h = refl
begins-more [] x (c ∷ cs) h = refl
begins-more (b ∷ bs) x (c ∷ cs) h = let both = and_parts _ _ h in and_from _ _ both.0 (begins-more bs x cs both.1)

never : (t x wanted : List ℕ) → begins t wanted ≡ false → begins (t ++ x) wanted ≡ false
never t x wanted h = false_from_ne_true _ (λ is. false≢true (sym h ∙ begins-more t x wanted is))

pub take-more : (n : ℕ) (t x : List ℕ) → take n (t ++ x) ≡ take n t ++ take (n - length t) x
take-more zero t x = let e : 0 - length t ≡ 0 = omega arith in ap (λ k. take k x) (sym e)
take-more (suc n) [] x = ap (λ k. take k x) (let e : suc n ≡ suc n - 0 = omega arith in e)
take-more (suc n) (b ∷ bs) x = ap (λ ys. b ∷ ys) (take-more n bs x ∙ ap (λ k. take n bs ++ take k x) (let e : n - length bs ≡ suc n - suc (length bs) = omega arith in e))

version-none : (t x : List ℕ) → version_of t ≡ None → version_of (t ++ x) ≡ None
unfolding version_of
version-none t x h = ⊎_elim
    (λ (one : begins t (version_line V1_1) ≡ true). absurd (let e : ◌≡◌ {A = Option Version} (Some V1_1) None = rw one at h in cc))
    (λ (no : begins t (version_line V1_1) ≡ false). ⊎_elim
    (λ (two : begins t (version_line V1_0) ≡ true). absurd (let e : ◌≡◌ {A = Option Version} (Some V1_0) None = rw (no, two) at h in cc))
    (λ (none : begins t (version_line V1_0) ≡ false). rw (never t x (version_line V1_1) no, never t x (version_line V1_0) none) refl)
    (true_or_false (begins t (version_line V1_0))))
    (true_or_false (begins t (version_line V1_1)))

-- a whole version line stays
version-stays : (t x : List ℕ) (v : Version) → version_of t ≡ Some v → 10 ≤ length t → version_of (t ++ x) ≡ Some v
version-stays t x v h long =
    let line = version_line v in
    let text : t ≡ line ++ drop (length line) t = begins-front t line (version-begins t v h) (omega (arith, version_size v, long)) in
    ap version_of (ap (λ xs. xs ++ x) text ∙ append_assoc line (drop (length line) t) x) ∙ version-read v (drop (length line) t ++ x)

some_place : (o : Option ℕ) (n : ℕ) → option_map (λ place. place + 4) o ≡ Some n → (p : ℕ) × (o ≡ Some p)
some_place None n h = absurd cc
some_place (Some p) n h = (p, refl)

head_len-stays : (t x : List ℕ) (n : ℕ) → head_len t ≡ Some n → head_len (t ++ x) ≡ Some n
unfolding head_len head_front
head_len-stays t x n h =
    let p = some_place (empty_line (take max_head t)) n h in
    let more = empty_line-more (take max_head t) (take (max_head - length t) x) p.0 p.1 in
    ap (λ xs. option_map (λ place. place + 4) (empty_line xs)) (take-more max_head t x) ∙ ap (option_map (λ place. place + 4)) (more ∙ sym p.1) ∙ h

-- from 65,536 bytes on there is no head, or there is
head_len-long : (t x : List ℕ) → max_head ≤ length t → head_len (t ++ x) ≡ head_len t
unfolding head_len head_front
head_len-long t x long = ap (λ xs. option_map (λ place. place + 4) (empty_line xs)) (take-append-le max_head t x long)

slice-stays : (n : ℕ) (t x : List ℕ) → n ≤ length t → take (n - 2 - 10) (drop 10 (t ++ x)) ≡ take (n - 2 - 10) (drop 10 t)
slice-stays n t x l = ⊎_elim
    (λ short. let none : n - 2 - 10 ≡ 0 = omega arith in ap (λ k. take k (drop 10 (t ++ x))) none ∙ sym (ap (λ k. take k (drop 10 t)) none))
    (λ long. ap (take (n - 2 - 10)) (drop-append-le 10 t x long) ∙ take-append-le (n - 2 - 10) (drop 10 t) x (omega (arith, length-drop 10 t)))
    (cases_lt (length t) 10)

-- a head that ends is judged as before
head_of-stays : (judge : Judgement) (t x : List ℕ) (v : Version) (n : ℕ) → version_of t ≡ Some v → head_len t ≡ Some n → head_of judge (t ++ x) ≡ head_of judge t
unfolding head_of
head_of-stays judge t x v n h e =
    let looks = head-looks t v n h e in
    rw (version-stays t x v h (omega (arith, looks.room, looks.within)), head_len-stays t x n e, h, e, slice-stays n t x looks.within) refl

block-stays : (place n : ℕ) (t x : List ℕ) (f : Fault) → block_at place n t ≡ Err f → (f.kind ≡ Truncated → ⊥) → block_at place n (t ++ x) ≡ Err f
unfolding block_at
block-stays place n t x f e other = ⊎_elim
    (λ (bad : refuses (not (begins (drop (place + n) t) (crlf ++ crlf))) (fault End (place + n)) ≡ Err f).
    let is = refuses-err _ _ _ bad in
    let no_end : begins (drop (place + n) t) (crlf ++ crlf) ≡ false = not_truth _ is.0 in
    ⊎_elim
    (λ past. let none : drop (place + n) t ≡ [] = drop_all (place + n) t (omega arith) in absurd (false≢true (sym no_end ∙ ap (λ xs. begins xs (crlf ++ crlf)) none)))
    (λ in_it.
    let left : drop (place + n) (t ++ x) ≡ drop (place + n) t ++ x = drop-append-le (place + n) t x in_it in
    let never_ends : begins (drop (place + n) (t ++ x)) (crlf ++ crlf) ≡ false = ap (λ xs. begins xs (crlf ++ crlf)) left ∙ never (drop (place + n) t) x (crlf ++ crlf) no_end in
    rw never_ends (ap Err is.1))
    (cases_lt (length t) (place + n)))
    (λ (good : (u : Unit {0}) × (refuses (not (begins (drop (place + n) t) (crlf ++ crlf))) (fault End (place + n)) ≡ Ok u) × ((refuses (nat_lt (length t) (place + n + 4)) (fault Truncated (length t)) >>= λ _. Ok (slice_range t place (place + n))) ≡ Err f)). ⊎_elim
    (λ (cut : refuses (nat_lt (length t) (place + n + 4)) (fault Truncated (length t)) ≡ Err f). absurd (other (ap (λ (g : Fault). g.kind) (sym (refuses-err _ _ _ cut).1))))
    (λ (ok : (u : Unit {0}) × (refuses (nat_lt (length t) (place + n + 4)) (fault Truncated (length t)) ≡ Ok u) × (◌≡◌ {A = Result (List ℕ) Fault} (Ok (slice_range t place (place + n))) (Err f))). absurd (let no = ok.2 in cc))
    (bind_err (refuses (nat_lt (length t) (place + n + 4)) (fault Truncated (length t))) _ f good.2))
    (bind_err (refuses (not (begins (drop (place + n) t) (crlf ++ crlf))) (fault End (place + n))) _ f e)

-- what is left to do after the head
unfoldable pub after_head : List ℕ → Head → Result (Record × ℕ) Fault
after_head t head = block_at head.len head.block_len t >>= λ block. Ok (record { version = head.version; fields = head.fields; block = block }, head.len + head.block_len + 4)

pub record_of-is : (judge : Judgement) (t : List ℕ) → record_of judge t ≡ (head_of judge t >>= after_head t)
unfolding record_of after_head
record_of-is judge t = refl

after_head-stays : (t x : List ℕ) (head : Head) (f : Fault) → after_head t head ≡ Err f → (f.kind ≡ Truncated → ⊥) → after_head (t ++ x) head ≡ Err f
unfolding after_head
after_head-stays t x head f e other = ⊎_elim
    (λ (bad : block_at head.len head.block_len t ≡ Err f). rw (block-stays head.len head.block_len t x f bad other) refl)
    (λ (ok : (block : List ℕ) × (block_at head.len head.block_len t ≡ Ok block) × (◌≡◌ {A = Result (Record × ℕ) Fault} (Ok (record { version = head.version; fields = head.fields; block = block }, head.len + head.block_len + 4)) (Err f))). absurd (let no = ok.2 in cc))
    (bind_err (block_at head.len head.block_len t) _ f e)

pub no_version : (judge : Judgement) (t : List ℕ) → version_of t ≡ None → head_of judge t ≡ Err (fault NoVersion 0)
unfolding head_of
no_version judge t h = rw h refl

pub no_end : (judge : Judgement) (t : List ℕ) (v : Version) → version_of t ≡ Some v → head_len t ≡ None → max_head ≤ length t → head_of judge t ≡ Err (fault HeadTooLong 0)
unfolding head_of
no_end judge t v h e long = rw (h, e, le-leb _ _ long) refl

pub unfinished : (judge : Judgement) (t : List ℕ) (v : Version) → version_of t ≡ Some v → head_len t ≡ None → nat_le max_head (length t) ≡ false → head_of judge t ≡ Err (fault Truncated (length t))
unfolding head_of
unfinished judge t v h e short = rw (h, e, short) refl

after : {A B : Type 0} (r s : Result A Fault) (f g : A → Result B Fault) → r ≡ s → ((x : A) → s ≡ Ok x → f x ≡ g x) → (r >>= f) ≡ (s >>= g)
after r (Ok x) f g e same = ap (λ y. y >>= f) e ∙ same x refl
after r (Err z) f g e same = ap (λ y. y >>= f) e

-- a fault of the head, other than truncation, stays
early : (judge : Judgement) (t x : List ℕ) (f g : Fault) → head_of judge t ≡ Err g → head_of judge (t ++ x) ≡ Err g → record_of judge t ≡ Err f → record_of judge (t ++ x) ≡ Err f
early judge t x f g a b e =
    let is : ◌≡◌ {A = Result (Record × ℕ) Fault} (Err g) (Err f) = sym (record_of-is judge t ∙ ap (λ r. r >>= after_head t) a) ∙ e in
    record_of-is judge (t ++ x) ∙ ap (λ r. r >>= after_head (t ++ x)) b ∙ is

late : (judge : Judgement) (t x : List ℕ) (f : Fault) → head_of judge (t ++ x) ≡ head_of judge t → record_of judge t ≡ Err f → (f.kind ≡ Truncated → ⊥) → record_of judge (t ++ x) ≡ Err f
late judge t x f same e other = ⊎_elim
    (λ (bad : head_of judge t ≡ Err f). record_of-is judge (t ++ x) ∙ ap (λ r. r >>= after_head (t ++ x)) (same ∙ bad))
    (λ (good : (head : Head) × (head_of judge t ≡ Ok head) × (after_head t head ≡ Err f)). record_of-is judge (t ++ x) ∙ ap (λ r. r >>= after_head (t ++ x)) (same ∙ good.1) ∙ after_head-stays t x good.0 f good.2 other)
    (bind_err (head_of judge t) (after_head t) f (sym (record_of-is judge t) ∙ e))

-- every fault but truncation stays
pub record-fault-stays : (judge : Judgement) (t x : List ℕ) (f : Fault) → record_of judge t ≡ Err f → (f.kind ≡ Truncated → ⊥) → record_of judge (t ++ x) ≡ Err f
record-fault-stays judge t x f e other = ⊎_elim
    (λ (none : version_of t ≡ None). early judge t x f (fault NoVersion 0) (no_version judge t none) (no_version judge (t ++ x) (version-none t x none)) e)
    (λ (version : (v : Version) × (version_of t ≡ Some v)). ⊎_elim
    (λ (unended : head_len t ≡ None). ⊎_elim
    (λ (long : nat_le max_head (length t) ≡ true).
    let size : max_head ≤ length t = leb-true _ _ long in
    let before = no_end judge t version.0 version.1 unended size in
    let following = no_end judge (t ++ x) version.0 (version-stays t x version.0 version.1 (omega (arith, size))) (head_len-long t x size ∙ unended) (omega (arith, size, length-append t x)) in
    early judge t x f (fault HeadTooLong 0) before following e)
    (λ (short : nat_le max_head (length t) ≡ false).
    let is : ◌≡◌ {A = Result (Record × ℕ) Fault} (Err (fault Truncated (length t))) (Err f) = sym (record_of-is judge t ∙ ap (λ r. r >>= after_head t) (unfinished judge t version.0 version.1 unended short)) ∙ e in
    absurd (other (ap (λ (g : Fault). g.kind) (sym (err_same _ _ is)))))
    (true_or_false (nat_le max_head (length t))))
    (λ (ends : (n : ℕ) × (head_len t ≡ Some n)). late judge t x f (head_of-stays judge t x version.0 ends.0 version.1 ends.1) e other)
    (option_cases (head_len t)))
    (option_cases (version_of t))

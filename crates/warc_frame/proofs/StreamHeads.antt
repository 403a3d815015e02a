-- What the head at the front of a text is, read from parts of the text.
use Rattle.std.proofs.Common.{◌≡◌, ◌≢◌, ℕ, zero, suc, min, ◌+◌, ◌-◌, ◌<◌, ◌≤◌, Bool, true, false, cond, ◌&&◌, nat_le, nat_lt, List, [], ◌∷◌, ◌++◌, Option, Some, None, Result, Ok, Err, length, length-append, length-drop, take, drop, refl, sym, ap, ◌∙◌, arith, ⊎_elim}
use Rattle.std.specs.Prelude.{option_map, is_none, nat_eq}
use Rattle.std.specs.List.{slice_range, starts_with}
use Rattle.std.proofs.Math.Seq.{drop-append_seam, take-append_seam, drop-append-add}
use Rattle.std.proofs.lemmas.List.{take_all, drop_all, take-append-le, drop-append-le}
use Rattle.std.proofs.lemmas.Bool.{cases_lt, and_parts, and_from, le-leb, lt-ltb, leb-true, ltb-true, false≢true, false_from_ne_true}
use Rattle.warc_field.specs.Area.{Pair, area_of}
use Rattle.warc_frame.specs.declared.version.Version.{Version}
use Rattle.warc_frame.specs.declared.version.Version.TheVariants.{V1_0, V1_1}
use Rattle.warc_frame.specs.declared.fault.FaultKind.TheVariants as kinds
use Rattle.warc_frame.specs.declared.fault.Mandatory.TheVariants as mandatory
use Rattle.warc_frame.specs.declared.fault.Fault.{Fault}
use Rattle.warc_frame.specs.Record.{block_len, canonical_len, max_head, or_length}
use Rattle.warc_frame.specs.VersionLine.{version_line}
use Rattle.warc_frame.specs.Decoding.{closing}
use Rattle.warc_frame.specs.Reading.{◌>>=◌, Head, Judgement, any_fields, begins, version_of, empty_line, head_front, head_len, head_of, block_at, record_of, fault, refuses, needs, accepts, at_front, fields_or_line}
use Rattle.warc_frame.proofs.EmptyLineLemmas.{true_or_false, empty_line-more}
use Rattle.warc_frame.proofs.HeadLemmas.{head-place, head_room}

-- what doesn't begin as wanted never will
pub begins-less : (t x wanted : List ℕ) → begins (t ++ x) wanted ≡ true → begins t wanted ≡ true
begins-less t x [] h = refl
begins-less [] x (c ∷ cs) h = refl
begins-less (b ∷ bs) x (c ∷ cs) h = let both = and_parts _ _ h in and_from _ _ both.0 (begins-less bs x cs both.1)

not_yet : (t x wanted : List ℕ) → begins t wanted ≡ false → (b : Bool) → begins (t ++ x) wanted ≡ b → false ≡ b
not_yet t x wanted h true e = absurd (false≢true (sym h ∙ begins-less t x wanted e))
not_yet t x wanted h false e = refl

pub begins-not : (t x wanted : List ℕ) → begins t wanted ≡ false → false ≡ begins (t ++ x) wanted
begins-not t x wanted h = not_yet t x wanted h (begins (t ++ x) wanted) refl

begins-two : (a b w : List ℕ) → begins a w ≡ true → begins (a ++ b) w ≡ begins b (drop (length a) w)
begins-two [] b w h = refl
begins-two (x ∷ xs) b [] h = refl
begins-two (x ∷ xs) b (c ∷ cs) h = let both = and_parts _ _ h in ap (λ v. v && begins (xs ++ b) cs) both.0 ∙ begins-two xs b cs both.1

drop_least : (n : ℕ) (w : List ℕ) → drop (min n (length w)) w ≡ drop n w
drop_least n w = ⊎_elim
    (λ l. ap (λ k. drop k w) (let e : min n (length w) ≡ n = omega arith in e))
    (λ l. ap (λ k. drop k w) (let e : min n (length w) ≡ length w = omega arith in e) ∙ drop_all (length w) w (omega arith) ∙ sym (drop_all n w l))
    (cases_lt n (length w))

pub begins-across : (a b w line : List ℕ) (m : ℕ) → begins a w ≡ true → m ≡ min (length a) (length w) → line ≡ drop m w → begins b line ≡ begins (a ++ b) w
begins-across a b w line m h size l = ap (begins b) (l ∙ ap (λ k. drop k w) size ∙ drop_least (length a) w) ∙ sym (begins-two a b w h)

begins-whole : (t x w : List ℕ) → length w ≤ length t → begins (t ++ x) w ≡ begins t w
begins-whole t x w l = ap (λ s. starts_with nat_eq w s) (take-append-le (length w) t x l)

-- the first ten bytes say the version
pub version-more : (t x : List ℕ) → 10 ≤ length t → version_of (t ++ x) ≡ version_of t
unfolding version_of
version-more t x l = rw (begins-whole t x (version_line V1_1) (omega arith), begins-whole t x (version_line V1_0) (omega arith)) refl

take-more : (n : ℕ) (t x : List ℕ) → take n (t ++ x) ≡ take n t ++ take (n - length t) x
take-more zero t x = let e : 0 - length t ≡ 0 = omega arith in ap (λ k. take k x) (sym e)
take-more (suc n) [] x = ap (λ k. take k x) (let e : suc n ≡ suc n - 0 = omega arith in e)
take-more (suc n) (b ∷ bs) x = ap (λ ys. b ∷ ys) (take-more n bs x ∙ ap (λ k. take n bs ++ take k x) (let e : n - length bs ≡ suc n - suc (length bs) = omega arith in e))

abbrev after_place : Option ℕ → Option ℕ
after_place o = option_map (λ place. place + 4) o

-- a head stays where bytes follow
pub head_len-more : (t x : List ℕ) (n : ℕ) → head_len t ≡ Some n → head_len (t ++ x) ≡ Some n
unfolding head_len head_front
head_len-more t x n h =
    let p = head-place t n h in
    ap (λ s. after_place (empty_line s)) (take-more max_head t x) ∙ ap after_place (empty_line-more (take max_head t) (take (max_head - length t) x) p.0 p.1) ∙ ap Some p.2

pub head_len-none : (t front : List ℕ) → take max_head t ≡ front → empty_line front ≡ None → head_len t ≡ None
unfolding head_len head_front
head_len-none t front e h = ap (λ s. after_place (empty_line s)) e ∙ ap after_place h

pub head_len-whole : (t : List ℕ) (p : ℕ) → empty_line t ≡ Some p → p + 4 ≡ length t → length t ≤ max_head → head_len t ≡ Some (length t)
unfolding head_len head_front
head_len-whole t p h e l = ap (λ s. after_place (empty_line s)) (take_all max_head t l) ∙ ap after_place h ∙ ap Some e

-- the rows of a head, by its parts
pub no_version : (judge : Judgement) (t : List ℕ) → version_of t ≡ None → head_of judge t ≡ Err (fault kinds.Version 0)
unfolding head_of
no_version judge t h = rw h refl

pub long_head : (judge : Judgement) (t : List ℕ) (v : Version) → version_of t ≡ Some v → head_len t ≡ None → max_head ≤ length t → head_of judge t ≡ Err (fault kinds.HeadTooLong 0)
unfolding head_of
long_head judge t v h n l = let long : nat_le max_head (length t) ≡ true = le-leb max_head (length t) l in rw (h, n, long) refl

pub cut_head : (judge : Judgement) (t : List ℕ) (v : Version) → version_of t ≡ Some v → head_len t ≡ None → length t < max_head → head_of judge t ≡ Err (fault kinds.Truncated (length t))
unfolding head_of
cut_head judge t v h n l = let short : nat_le max_head (length t) ≡ false = false_from_ne_true _ (λ is. absurd (omega (arith, l, leb-true max_head (length t) is))) in rw (h, n, short) refl

slice-more : (t x : List ℕ) (a b : ℕ) → a ≤ b → b ≤ length t → slice_range (t ++ x) a b ≡ slice_range t a b
slice-more t x a b h l = ap (take (b - a)) (drop-append-le a t x (omega arith)) ∙ take-append-le (b - a) (drop a t) x (omega (arith, length-drop a t))

-- a whole head reads the same where bytes follow
pub head_more : (judge : Judgement) (t x : List ℕ) (v : Version) (n : ℕ) → version_of t ≡ Some v → head_len t ≡ Some n → head_of judge (t ++ x) ≡ head_of judge t
unfolding head_of
head_more judge t x v n h l =
    let place = head-place t n l in
    let room = head_room t v n h l in
    let version : version_of (t ++ x) ≡ Some v = version-more t x (omega (arith, room, place.3)) ∙ h in
    let len : head_len (t ++ x) ≡ Some n = head_len-more t x n l in
    let same : slice_range (t ++ x) 10 (n - 2) ≡ slice_range t 10 (n - 2) = slice-more t x 10 (n - 2) (omega (arith, room)) (omega (arith, place.3)) in
    rw (version, len, h, l, same) refl

bind_ok : {A B : Type 0} (r : Result A Fault) (f : A → Result B Fault) (y : B) → (r >>= f) ≡ Ok y → (x : A) × (r ≡ Ok x) × (f x ≡ Ok y)
bind_ok (Ok x) f y h = (x, refl, h)
bind_ok (Err e) f y h = absurd cc

needs_ok : {A : Type 0} (o : Option A) (f : Fault) (x : A) → needs o f ≡ Ok x → o ≡ Some x
needs_ok None f x h = absurd cc
needs_ok (Some y) f x h = let e : y ≡ x = cc in ap Some e

ok_same : {A : Type 0} (x y : A) → ◌≡◌ {A = Result A Fault} (Ok x) (Ok y) → x ≡ y
ok_same x y e = cc

-- the version and the length of a head that is read
pub head_parts : (judge : Judgement) (t : List ℕ) (h : Head) → head_of judge t ≡ Ok h → (version_of t ≡ Some h.version) × (head_len t ≡ Some h.len)
unfolding head_of
head_parts judge t h e =
    let a = bind_ok (needs (version_of t) (fault kinds.Version 0)) _ h e in
    let b = bind_ok (refuses (is_none (head_len t) && nat_le max_head (length t)) (fault kinds.HeadTooLong 0)) _ h a.2 in
    let c = bind_ok (needs (head_len t) (fault kinds.Truncated (length t))) _ h b.2 in
    let d = bind_ok (fields_or_line (area_of (slice_range t 10 (c.0 - 2)))) _ h c.2 in
    let f = bind_ok (refuses (nat_lt max_head (canonical_len a.0 d.0)) (fault kinds.HeadTooLong 0)) _ h d.2 in
    let g = bind_ok (at_front (block_len d.0)) _ h f.2 in
    let k = bind_ok (accepts (judge d.0)) _ h g.2 in
    let is = ok_same (record { version = a.0; fields = d.0; len = c.0; block_len = g.0 }) h k.2 in
    (needs_ok (version_of t) _ a.0 a.1 ∙ ap Some (ap (λ (x : Head). x.version) is), needs_ok (head_len t) _ c.0 c.1 ∙ ap Some (ap (λ (x : Head). x.len) is))

-- a fault that isn't the want of bytes
abbrev pub Settled : {A : Type 0} → Result A Fault → Type 0
Settled (Ok x) = Unit {0}
Settled (Err g) = g.kind ≢ kinds.Truncated

settled_bind : {A B : Type 0} (r : Result A Fault) (k : A → Result B Fault) → Settled r → ((x : A) → Settled (k x)) → Settled (r >>= k)
settled_bind (Ok x) k r s = s x
settled_bind (Err g) k r s = r

settled_fields : (r : Result (List Pair) ℕ) → Settled (fields_or_line r)
settled_fields (Ok fields) = tt
settled_fields (Err at) = λ e. cc

settled_long : (b : Bool) → Settled (refuses b (fault kinds.HeadTooLong 0))
settled_long true = λ e. cc
settled_long false = tt

settled_length : (o : Option ℕ) → Settled (at_front (or_length o))
settled_length None = λ e. cc
settled_length (Some n) = tt

settled_number : (a b : Bool) (o : Option ℕ) → Settled (at_front (cond a (Err (kinds.Missing mandatory.ContentLength)) (cond b (Err (kinds.Repeated mandatory.ContentLength)) (or_length o))))
settled_number true b o = λ e. cc
settled_number false true o = λ e. cc
settled_number false false o = settled_length o

settled_block_len : (fields : List Pair) → Settled (at_front (block_len fields))
unfolding block_len
settled_block_len fields = settled_number _ _ _

-- no whole head wants bytes
pub head_settled : (t : List ℕ) (v : Version) (n : ℕ) → version_of t ≡ Some v → head_len t ≡ Some n → Settled (head_of any_fields t)
unfolding head_of
head_settled t v n h l = rw (h, l)
    (settled_bind (fields_or_line (area_of (slice_range t 10 (n - 2)))) _ (settled_fields _)
    (λ fields. settled_bind (refuses (nat_lt max_head (canonical_len v fields)) (fault kinds.HeadTooLong 0)) _ (settled_long _)
    (λ u. settled_bind (at_front (block_len fields)) _ (settled_block_len fields) (λ k. tt))))

-- the rows of a record
pub record_head : (judge : Judgement) (t : List ℕ) (f : Fault) → head_of judge t ≡ Err f → record_of judge t ≡ Err f
unfolding record_of
record_head judge t f h = rw h refl

after_block : (place n : ℕ) (head y : List ℕ) → place ≡ length head → drop (place + n) (head ++ y) ≡ drop n y
after_block place n head y e = ap (λ k. drop (k + n) (head ++ y)) e ∙ drop-append-add head y n

block_cut : (place n : ℕ) (head y : List ℕ) → place ≡ length head → begins (drop n y) closing ≡ true → length y < n + 4 → block_at place n (head ++ y) ≡ Err (fault kinds.Truncated (length (head ++ y)))
unfolding block_at
block_cut place n head y e on short =
    let few : nat_lt (length (head ++ y)) (place + n + 4) ≡ true = lt-ltb _ _ (omega (arith, e, short, length-append head y)) in
    rw (after_block place n head y e, on, few) refl

block_bad : (place n : ℕ) (head y : List ℕ) → place ≡ length head → begins (drop n y) closing ≡ false → block_at place n (head ++ y) ≡ Err (fault kinds.End (place + n))
unfolding block_at
block_bad place n head y e off = rw (after_block place n head y e, off) refl

block_whole : (place n : ℕ) (head block : List ℕ) → place ≡ length head → n ≡ length block → block_at place n (head ++ (block ++ closing)) ≡ Ok block
unfolding block_at
block_whole place n head block e size =
    let y : List ℕ = block ++ closing in
    let following : drop (place + n) (head ++ y) ≡ closing = after_block place n head y e ∙ ap (λ k. drop k y) size ∙ drop-append_seam block closing in
    let all : nat_lt (length (head ++ y)) (place + n + 4) ≡ false = false_from_ne_true _ (λ is. absurd (omega (arith, e, size, ltb-true _ _ is, length-append head y, length-append block closing))) in
    let cut : slice_range (head ++ y) place (place + n) ≡ block =
    ap (λ k. take k (drop place (head ++ y))) (let m : place + n - place ≡ length block = omega (arith, size) in m) ∙ ap (λ k. take (length block) (drop k (head ++ y))) e ∙ ap (take (length block)) (drop-append_seam head y) ∙ take-append_seam block closing in
    rw (following, all, cut) refl

pub record_cut : (judge : Judgement) (h : Head) (head y : List ℕ) → head_of judge (head ++ y) ≡ Ok h → h.len ≡ length head → begins (drop h.block_len y) closing ≡ true → length y < h.block_len + 4 → record_of judge (head ++ y) ≡ Err (fault kinds.Truncated (length (head ++ y)))
unfolding record_of
record_cut judge h head y is e on short = rw (is, block_cut h.len h.block_len head y e on short) refl

pub record_bad : (judge : Judgement) (h : Head) (head y : List ℕ) → head_of judge (head ++ y) ≡ Ok h → h.len ≡ length head → begins (drop h.block_len y) closing ≡ false → record_of judge (head ++ y) ≡ Err (fault kinds.End (h.len + h.block_len))
unfolding record_of
record_bad judge h head y is e off = rw (is, block_bad h.len h.block_len head y e off) refl

pub record_whole : (judge : Judgement) (h : Head) (head block : List ℕ) → head_of judge (head ++ (block ++ closing)) ≡ Ok h → h.len ≡ length head → h.block_len ≡ length block
    → record_of judge (head ++ (block ++ closing)) ≡ Ok (record { version = h.version; fields = h.fields; block = block }, length (head ++ (block ++ closing)))
unfolding record_of
record_whole judge h head block is e n =
    let size : h.len + h.block_len + 4 ≡ length (head ++ (block ++ closing)) = omega (arith, e, n, length-append head (block ++ closing), length-append block closing) in
    rw (is, block_whole h.len h.block_len head block e n, size) refl

-- a text that begins as a version line has a version
pub version_there : (t : List ℕ) (v : Version) → begins t (version_line v) ≡ true → (w : Version) × (version_of t ≡ Some w)
unfolding version_of
version_there t V1_1 h = (V1_1, rw h refl)
version_there t V1_0 h = ⊎_elim (λ (is : begins t (version_line V1_1) ≡ true). (V1_1, rw is refl)) (λ (is : begins t (version_line V1_1) ≡ false). (V1_0, rw (is, h) refl)) (true_or_false (begins t (version_line V1_1)))

-- Joined blocks that are judged, one block more; and how often places are read.
use Rattle.std.proofs.Common.{◌≡◌, ℕ, ◌+◌, ◌-◌, ◌*◌, ◌<◌, ◌≤◌, Bool, true, false, cond, ◌||◌, List, [], ◌∷◌, ◌++◌, length, take, drop, get_or, refl, sym, ap, subst, ◌∙◌, arith}
use Rattle.std.specs.Prelude.{Contains}
use Rattle.std.proofs.Math.Seq.{take-add}
use Rattle.std.proofs.lemmas.List.{drop-drop, take-append-drop}
use Rattle.std.proofs.lemmas.List.Elements.{All-contains, All-contains_itself, All-filter, Contains-append_left, Contains-push, filter-append, filter_more}
use Rattle.std.proofs.lemmas.List.Folds.{list_any_at, list_any_more}
use Rattle.std.proofs.lemmas.List.Sums.{sum_by-append, sum_by-cons}
use Rattle.warc_value.specs.declared.hash.Wanted.{Wanted}
use Rattle.warc_value.specs.declared.hash.Wanted.TheVariants.{Sha1, Unchecked}
use Rattle.warc_frame.specs.Effects.{ReadsOnly, ReadsRange}
use Rattle.warc_frame.specs.Seen.{IsInRange, SeenSource}
use Rattle.warc_frame.proofs.EffectLemmas.{reads_both, reads_within}
use Rattle.warc_digest.specs.Judging.{judged_len}
use Rattle.warc_segment.specs.declared.place.Place.{Place}
use Rattle.warc_answer.specs.Giving.{any_bad_at, is_bad_at}
use Rattle.warc_answer.specs.Origins.{ReadsToJudge, body_reads}
use Rattle.warc_answer.specs.Places.{IsInOne, ReadsPlaces, checked_places, is_checked, len_of}

-- ---- what is judged

-- a block is its front and the rest
pub block_taken : (bytes front : List ℕ) (start len done at : ℕ) → done ≤ len → at ≡ start + done
    → front ≡ take done (drop start bytes) → front ++ take (len - done) (drop at bytes) ≡ take len (drop start bytes)
block_taken bytes front start len done at le at_is front_is =
    let text : List ℕ = drop start bytes in
    let rest : drop at bytes ≡ drop done text = ap (λ k. drop k bytes) at_is ∙ sym (drop-drop done start bytes) in
    let whole : done + (len - done) ≡ len = omega arith in
    ap (λ l. l ++ take (len - done) (drop at bytes)) front_is
    ∙ (ap (λ l. take done text ++ take (len - done) l) rest ∙ (sym (take-add done (len - done) text) ∙ ap (λ n. take n text) whole))

-- no more blocks are bad
pub none_bad : (bytes : List ℕ) (places : List Place) (i : ℕ) (d : Place) → i < length places
    → any_bad_at bytes (take i places) ≡ false → is_bad_at bytes (get_or places i d) ≡ false
    → any_bad_at bytes (take (i + 1) places) ≡ false
none_bad bytes places i d lt before here =
    list_any_more (is_bad_at bytes) places i d lt ∙ (ap (λ b. b || is_bad_at bytes (get_or places i d)) before ∙ here)

-- a block is bad
pub one_bad : (bytes : List ℕ) (places : List Place) (i : ℕ) (d : Place) → i < length places
    → is_bad_at bytes (get_or places i d) ≡ true → any_bad_at bytes places ≡ true
one_bad bytes places i d lt here = list_any_at (is_bad_at bytes) places i d lt here

-- ---- what is read to judge

pub judged_short : (w : Wanted) (n : ℕ) → judged_len w n ≤ n
judged_short (Sha1 digest) n = omega arith
judged_short Unchecked n = omega arith

judged_none : (w : Wanted) (n : ℕ) → is_checked w ≡ false → judged_len w n ≡ 0
judged_none (Sha1 digest) n is = absurd (cc)
judged_none Unchecked n is = refl

-- a block whose digest is checked was read: its front, and the rest
pub reads_rest : (w : Wanted) (start len front done at : ℕ) (old mid new : SeenSource) → front ≤ len → done ≡ front
    → at ≤ start + done → start ≤ at → (w ≡ Unchecked → ⊥) → ReadsRange start front old mid
    → ReadsRange at (len - done) mid new → ReadsRange start (front + judged_len w (len - front)) old new
reads_rest (Sha1 digest) start len front done at old mid new le same before following is first rest =
    let one : ReadsOnly (IsInRange start (front + (len - front))) front old mid =
    reads_within (λ q in_. (in_.0, omega (arith, in_.1))) (omega arith) first in
    let other : ReadsOnly (IsInRange start (front + (len - front))) (len - front) mid new =
    reads_within (λ q in_. (omega (arith, in_.0), omega (arith, in_.1))) (omega arith) rest in
    reads_both one other
reads_rest Unchecked start len front done at old mid new le same before following is first rest = absurd (is refl)

-- a place whose digest is checked is one of those
in_checked : (places : List Place) (i : ℕ) (d : Place) → i < length places → is_checked (get_or places i d).wanted ≡ true
    → Contains (checked_places places) (get_or places i d)
in_checked places i d lt is =
    let p : Place = get_or places i d in
    let Test : Place → Bool = λ q. is_checked q.wanted in
    let P : List Place → Type 0 = λ l. Contains l p in
    let front : checked_places (take (i + 1) places) ≡ checked_places (take i places) ++ p ∷ [] =
    filter_more Test places i d lt ∙ ap (λ b. checked_places (take i places) ++ cond b (p ∷ []) []) is in
    let all : checked_places places ≡ checked_places (take (i + 1) places) ++ checked_places (drop (i + 1) places) =
    ap checked_places (sym (take-append-drop (i + 1) places)) ∙ filter-append Test (take (i + 1) places) (drop (i + 1) places) in
    subst P (sym all) (Contains-append_left (checked_places (take (i + 1) places)) (checked_places (drop (i + 1) places)) p
    (subst P (sym front) (Contains-push (checked_places (take i places)) p)))

len_checked : (p : Place) (w : Wanted) → len_of (cond (is_checked w) (p ∷ []) []) ≡ judged_len w p.len
len_checked p (Sha1 digest) =
    let one : len_of (p ∷ []) ≡ p.len + len_of [] = sum_by-cons (λ (q : Place). q.len) p [] in
    let none : len_of [] ≡ 0 = refl in
    omega arith
len_checked p Unchecked = refl

checked_len_more : (places : List Place) (i : ℕ) (d : Place) → i < length places
    → len_of (checked_places (take (i + 1) places))
    ≡ len_of (checked_places (take i places)) + judged_len (get_or places i d).wanted (get_or places i d).len
checked_len_more places i d lt =
    let p : Place = get_or places i d in
    let Test : Place → Bool = λ q. is_checked q.wanted in
    let last : List Place = cond (is_checked p.wanted) (p ∷ []) [] in
    ap len_of (filter_more Test places i d lt)
    ∙ (sum_by-append (λ (q : Place). q.len) (checked_places (take i places)) last
    ∙ ap (λ n. len_of (checked_places (take i places)) + n) (len_checked p p.wanted))

-- what was judged of the first blocks was judged of all
pub checked_front : (places : List Place) (n : ℕ) → len_of (checked_places (take n places)) ≤ len_of (checked_places places)
checked_front places n =
    let Test : Place → Bool = λ q. is_checked q.wanted in
    let all : checked_places places ≡ checked_places (take n places) ++ checked_places (drop n places) =
    ap checked_places (sym (take-append-drop n places)) ∙ filter-append Test (take n places) (drop n places) in
    let sum : len_of (checked_places places) ≡ len_of (checked_places (take n places)) + len_of (checked_places (drop n places)) =
    ap len_of all ∙ sum_by-append (λ (q : Place). q.len) (checked_places (take n places)) (checked_places (drop n places)) in
    omega arith

-- where no front is read
pub front_none : (w : Wanted) (len k : ℕ) → k ≡ 0 → k + judged_len w (len - k) ≡ judged_len w len
front_none w len k none = let rest : len - k ≡ len = omega arith in omega (arith, ap (judged_len w) rest)

-- one block more was judged, and nothing else was read of it
pub checked_more : (places : List Place) (i n : ℕ) (d : Place) (old mid new : SeenSource) → i < length places
    → n ≡ judged_len (get_or places i d).wanted (get_or places i d).len
    → ReadsPlaces (checked_places places) (len_of (checked_places (take i places))) old mid
    → ReadsRange (get_or places i d).start n mid new
    → ReadsPlaces (checked_places places) (len_of (checked_places (take (i + 1) places))) old new
checked_more places i n d old mid new lt size before has =
    reads_within (λ q in_. in_) (omega (arith, checked_len_more places i d lt))
    (reads_both before (by_test (is_checked (get_or places i d).wanted) refl))
  where
    p : Place
    p = get_or places i d

    by_test : (b : Bool) → is_checked p.wanted ≡ b → ReadsPlaces (checked_places places) n mid new
    by_test true is =
        reads_within (λ q in_. (p, in_checked places i d lt is, in_.0, omega (arith, in_.1, judged_short p.wanted p.len)))
        (omega arith) has
    by_test false is =
        reads_within (λ q in_. absurd (omega (arith, in_.0, in_.1, judged_none p.wanted p.len is))) (omega arith) has

-- ---- how often places are read

checked_in : (places : List Place) (q : ℕ) → IsInOne (checked_places places) q → IsInOne places q
checked_in places q in_ =
    let all = All-filter (λ (p : Place). is_checked p.wanted) (Contains places) places (All-contains_itself places) in
    (in_.0, All-contains (Contains places) (checked_places places) in_.0 all in_.1, in_.2, in_.3)

checked_short : (places : List Place) → len_of (checked_places places) ≤ len_of places
checked_short [] = omega arith
checked_short (p ∷ ps) = by_test (is_checked p.wanted) (checked_short ps)
  where
    by_test : (b : Bool) → len_of (checked_places ps) ≤ len_of ps
        → len_of (cond b (p ∷ checked_places ps) (checked_places ps)) ≤ len_of (p ∷ ps)
    by_test true le =
        omega (arith, sum_by-cons (λ (q : Place). q.len) p ps, sum_by-cons (λ (q : Place). q.len) p (checked_places ps))
    by_test false le = omega (arith, sum_by-cons (λ (q : Place). q.len) p ps)

pub reads_once : (http : Bool) (places : List Place) {old new : SeenSource} → ReadsToJudge http places old new
    → ReadsPlaces places (len_of places) old new
reads_once true places has = has
reads_once false places has = reads_within (checked_in places) (checked_short places) has

pub reads_front : (http : Bool) (places : List Place) {old new : SeenSource} → ReadsToJudge http places old new
    → ReadsPlaces places (body_reads http places) old new
reads_front true places has = reads_within (λ q in_. in_) (omega arith) has
reads_front false places has = reads_within (checked_in places) (omega arith) has

pub reads_body : (http : Bool) (places : List Place) {old mid new : SeenSource} → ReadsToJudge http places old mid
    → ReadsPlaces places (len_of places) mid new → ReadsPlaces places (body_reads http places) old new
reads_body true places has rest = reads_both has rest
reads_body false places has rest = reads_both (reads_within (checked_in places) (omega arith) has) rest

-- to judge and to write, each byte is read at most twice
pub body_within : (http : Bool) (places : List Place) → body_reads http places ≤ 2 * len_of places
body_within true places = omega arith
body_within false places = omega (arith, checked_short places)

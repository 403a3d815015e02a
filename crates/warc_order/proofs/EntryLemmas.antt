-- Entries as columns and one vector of bytes.
use Rattle.std.proofs.Common.{◌≡◌, ℕ, zero, suc, ◌+◌, ◌-◌, ◌<◌, ◌≤◌, List, [], ◌∷◌, ◌++◌, length, take, drop, get_or, map, refl, sym, ap, subst, fold, ◌∙◌, arith, length-append, filter, true, false}
use Rattle.std.specs.Prelude.{nat_lt}
use Rattle.std.proofs.lemmas.Bool.Decides.{nat_tests}
use Rattle.std.proofs.lemmas.List.{take_at, drop_at, append-nil, map-append, length-map, take-map}
use Rattle.std.proofs.lemmas.List.Folds.{concat-append}
use Rattle.std.proofs.Math.Seq.{take-append-add, drop-append-add}
use Rattle.std.specs.List.{concat, slice_range, sum_by}
use Rattle.warc_order.specs.declared.mark.Mark.{Mark}
use Rattle.warc_order.specs.Entries.{Entry, entry_at, entry_of, no_entry}
use Rattle.warc_order.specs.Layout.{texts_of, Parts, ends_of, parts_of, entries_at, entries_of, IsFlat}

-- parts are the same where each of them is
pub same : (p q : Parts) → p.ends ≡ q.ends → p.bytes ≡ q.bytes → p.majors ≡ q.majors → p.minors ≡ q.minors →
    p.positions ≡ q.positions → p ≡ q
same p q a b c d e =
    let it : Parts = record {
      ends = p.ends;
      bytes = p.bytes;
      majors = p.majors;
      minors = p.minors;
      positions = p.positions;
    } in rw (a, b, c, d, e) refl

-- the entries come back
entries_from-parts : (from : ℕ) (es : List Entry) → entries_at from (ends_of from es) (concat (texts_of es)) (map
    (λ e. e.mark.major) es) (map (λ e. e.mark.minor) es) (map (λ e. e.position) es) ≡ es
entries_from-parts from [] = refl
entries_from-parts from (e ∷ es) =
    let n : length e.text ≡ (from + length e.text) - from = omega arith in
    let front : take ((from + length e.text) - from) (e.text ++ concat (texts_of es)) ≡ e.text =
    take_at e.text (concat (texts_of es)) _ n in
    let rest : drop ((from + length e.text) - from) (e.text ++ concat (texts_of es)) ≡ concat (texts_of es) =
    drop_at e.text (concat (texts_of es)) _ n in
    rw (front, rest) (ap (λ us. e ∷ us) (entries_from-parts (from + length e.text) es))

-- the invariant, at what is seen
pub held : (p : Parts) (es : List Entry) → IsFlat p (entries_of p) → entries_of p ≡ es → IsFlat p es
held p es flat e = subst (IsFlat p) e flat

-- from the entries, what is seen
pub seen : (p : Parts) (es : List Entry) → IsFlat p es → entries_of p ≡ es
seen p es flat = ap entries_of flat ∙ entries_from-parts 0 es

-- the invariant, from any entries that are held
pub IsFlat-seen : (p : Parts) (es : List Entry) → IsFlat p es → IsFlat p (entries_of p)
IsFlat-seen p es flat = subst (IsFlat p) (sym (seen p es flat)) flat

ends_of-append : (from : ℕ) (es fs : List Entry) → ends_of from (es ++ fs) ≡ ends_of from es ++ ends_of (from +
    length (concat (texts_of es))) fs
ends_of-append from [] fs = ap (λ n. ends_of n fs) (omega arith)
ends_of-append from (e ∷ es) fs =
    ap (λ us. (from + length e.text) ∷ us)
    (ends_of-append (from + length e.text) es fs
    ∙ ap (λ n. ends_of (from + length e.text) es ++ ends_of n fs) (omega (
      arith,
      length-append e.text (concat
          (texts_of es)),
    )))

-- one more entry
pub IsFlat-push : (p q : Parts) (es : List Entry) (text : List ℕ) (mark : Mark) (position end : ℕ) → IsFlat p es →
    q.ends ≡ p.ends ++ end ∷ [] → q.bytes ≡ p.bytes ++ text → end ≡ length q.bytes →
    q.majors ≡ p.majors ++ mark.major ∷ [] → q.minors ≡ p.minors ++ mark.minor ∷ [] →
    q.positions ≡ p.positions ++ position ∷ [] → IsFlat q (es ++ entry_of text mark position ∷ [])
IsFlat-push p q es text mark position end flat ends bytes n majors minors positions =
    let e : Entry = entry_of text mark position in
    let b : q.bytes ≡ concat (texts_of es) ++ text = bytes ∙ ap (λ (r : Parts). r.bytes ++ text) flat in
    let l : end ≡ length (concat (texts_of es)) + length text = n ∙ (ap length b ∙ length-append (concat (texts_of es))
    text) in
    let z : 0 + length (concat (texts_of es)) ≡ length (concat (texts_of es)) = omega arith in
    let s : ends_of 0 (es ++ e ∷ []) ≡ ends_of 0 es ++ (length (concat (texts_of es)) + length text) ∷ [] =
    ends_of-append 0 es (e ∷ []) ∙ ap (λ m. ends_of 0 es ++ (m + length text) ∷ []) z in
    same q (parts_of (es ++ e ∷ []))
    (ends ∙ (ap (λ (r : Parts). r.ends ++ end ∷ []) flat ∙ (ap (λ m. ends_of 0 es ++ m ∷ []) l ∙ sym s)))
    (b ∙ sym (ap concat (map-append (λ (f : Entry). f.text) es (e ∷ [])) ∙ (concat-append (texts_of es) (text ∷ [])
    ∙ ap (λ us. concat (texts_of es) ++ us) (append-nil text))))
    (majors ∙ (ap (λ (r : Parts). r.majors ++ mark.major ∷ []) flat ∙ sym (map-append (λ (f : Entry). f.mark.major) es
    (e ∷ []))))
    (minors ∙ (ap (λ (r : Parts). r.minors ++ mark.minor ∷ []) flat ∙ sym (map-append (λ (f : Entry). f.mark.minor) es
    (e ∷ []))))
    (positions ∙ (ap (λ (r : Parts). r.positions ++ position ∷ []) flat ∙ sym (map-append (λ (f : Entry). f.position)
    es (e ∷ []))))

pub length-ends_of : (from : ℕ) (es : List Entry) → length (ends_of from es) ≡ length es
length-ends_of from [] = refl
length-ends_of from (e ∷ es) = ap suc (length-ends_of (from + length e.text) es)

-- there are as many ends as positions
pub length_positions : (p : Parts) (es : List Entry) → IsFlat p es → length p.ends ≡ length p.positions
length_positions p es flat =
    ap (λ (q : Parts). length q.ends) flat ∙ (length-ends_of 0 es ∙ sym (ap (λ (q : Parts). length q.positions) flat
    ∙ length-map es (λ (e : Entry). e.position)))

take-ends_of : (from n : ℕ) (es : List Entry) → take n (ends_of from es) ≡ ends_of from (take n es)
take-ends_of from zero es = refl
take-ends_of from (suc n) [] = refl
take-ends_of from (suc n) (e ∷ es) = ap (λ us. (from + length e.text) ∷ us) (take-ends_of (from + length e.text) n es)

-- where the n-th text ends
pub end_at : (from n d : ℕ) (es : List Entry) → n < length es →
    get_or (ends_of from es) n d ≡ from + length (concat (texts_of (take (n + 1) es)))
end_at from n d [] h = absurd (omega arith)
end_at from zero d (e ∷ es) h = simp (append-nil) refl
end_at from (suc n) d (e ∷ es) h =
    let it : get_or (ends_of (from + length e.text) es) n d ≡ (from + length e.text) + length (concat (texts_of (take
    (n + 1) es))) = end_at (from + length e.text) n d es (omega arith) in
    let s : suc n + 1 ≡ suc (n + 1) = omega arith in
    let whole : (from + length e.text) + length (concat (texts_of (take (n + 1) es))) ≡ from + length (concat (texts_of
    (take (suc n + 1) (e ∷ es)))) = rw s (omega (
      arith,
      length-append e.text (concat (texts_of (take (n + 1)
          es))),
    )) in
    it ∙ whole

-- what the bytes before the end of the first n hold
pub take-concat : (n : ℕ) (es : List Entry) → take (length (concat (texts_of (take n es)))) (concat (texts_of es)) ≡
    concat (texts_of (take n es))
take-concat zero es = refl
take-concat (suc n) [] = refl
take-concat (suc n) (e ∷ es) =
    rw (length-append, take-append-add) (ap (λ u. e.text ++ u) (take-concat n es))

-- one text of the bytes
pub part : (i : ℕ) (es : List Entry) → i < length es → slice_range (concat (texts_of es)) (length (concat (texts_of
    (take i es)))) (length (concat (texts_of (take (i + 1) es)))) ≡ (get_or es i no_entry).text
part i [] h = absurd (omega arith)
part zero (e ∷ es) h = rw append-nil (take_at e.text (concat (texts_of es)) _ (omega arith))
part (suc i) (e ∷ es) h =
    let s : suc i + 1 ≡ suc (i + 1) = omega arith in
    let a : ℕ = length (concat (texts_of (take i es))) in
    let b : ℕ = length (concat (texts_of (take (i + 1) es))) in
    let d : (length e.text + b) - (length e.text + a) ≡ b - a = omega arith in
    rw (
      s,
      length-append e.text (concat (texts_of (take i es))),
      length-append e.text (concat (texts_of (take (i + 1)
          es))),
      d,
      drop-append-add e.text (concat (texts_of es)) a,
    ) (part i es (omega arith))

summed : (n : ℕ) (es : List Entry) → fold (λ a (e : Entry). a + length e.text) n es ≡ n + length (concat (texts_of es))
summed n [] = omega arith
summed n (e ∷ es) =
    let more : fold (λ a (e : Entry). a + length e.text) (n + length e.text) es ≡ (n + length e.text) + length (concat
    (texts_of es)) = summed (n + length e.text) es in
    omega (arith, more, length-append e.text (concat (texts_of es)))

-- the sum of the lengths is the length of the bytes
pub length-concat : (es : List Entry) → length (concat (texts_of es)) ≡ sum_by (λ e. length e.text) es
length-concat es =
    let all : fold (λ a (e : Entry). a + length e.text) 0 es ≡ 0 + length (concat (texts_of es)) = summed 0 es in
    omega (arith, all)

-- fewer entries
pub IsFlat-take : (p q : Parts) (es : List Entry) (n end : ℕ) → IsFlat p es →
    end ≡ length (concat (texts_of (take n es))) → q.ends ≡ take n p.ends → q.bytes ≡ take end p.bytes →
    q.majors ≡ take n p.majors → q.minors ≡ take n p.minors → q.positions ≡ take n p.positions → IsFlat q (take n es)
IsFlat-take p q es n end flat at ends bytes majors minors positions =
    same q (parts_of (take n es))
    (ends ∙ (ap (λ (r : Parts). take n r.ends) flat ∙ take-ends_of 0 n es))
    (bytes ∙ (ap (λ (r : Parts). take end r.bytes) flat ∙ (ap (λ m. take m (concat (texts_of es))) at ∙ take-concat n
    es)))
    (majors ∙ (ap (λ (r : Parts). take n r.majors) flat ∙ take-map (λ (e : Entry). e.mark.major) n es))
    (minors ∙ (ap (λ (r : Parts). take n r.minors) flat ∙ take-map (λ (e : Entry). e.mark.minor) n es))
    (positions ∙ (ap (λ (r : Parts). take n r.positions) flat ∙ take-map (λ (e : Entry). e.position) n es))

take_none : (i : ℕ) → take {A = Entry} i [] ≡ []
take_none zero = refl
take_none (suc i) = refl

-- more texts take no fewer bytes
pub starts_rise : (i : ℕ) (es : List Entry) → length (concat (texts_of (take i es))) ≤ length (concat (texts_of (take
    (i + 1) es)))
starts_rise i [] = omega (
  arith,
  ap (λ us. length (concat (texts_of us))) (take_none i),
  ap (λ us. length (concat
      (texts_of us))) (take_none (i + 1)),
)
starts_rise zero (e ∷ es) = omega arith
starts_rise (suc i) (e ∷ es) =
    let s : suc i + 1 ≡ suc (i + 1) = omega arith in
    rw (
      s,
      length-append e.text (concat (texts_of (take i es))),
      length-append e.text (concat (texts_of (take (i + 1)
          es))),
    ) (omega (arith, starts_rise i es))

pub starts_within : (i : ℕ) (es : List Entry) → length (concat (texts_of (take i es))) ≤ length (concat (texts_of es))
starts_within zero es = omega arith
starts_within (suc i) [] = omega arith
starts_within (suc i) (e ∷ es) = rw (
  length-append e.text (concat (texts_of (take i es))),
  length-append e.text (concat
      (texts_of es)),
) (omega (arith, starts_within i es))

pub length_seen : (p : Parts) (es : List Entry) → IsFlat p (entries_of p) → entries_of p ≡ es →
    length p.ends ≡ length es
length_seen p es flat e = ap (λ (q : Parts). length q.ends) (held p es flat e) ∙ length-ends_of 0 es

-- entries at the front, where they and no others have positions below a number
pub front_below : (es : List Entry) (n below : ℕ) → ((k : ℕ) → k < n → k < length es →
    (entry_at es k).position < below) → ((k : ℕ) → n ≤ k → k < length es → below ≤ (entry_at es k).position) →
    take n es ≡ filter (λ e. nat_lt e.position below) es
front_below [] zero below front back = refl
front_below [] (suc n) below front back = refl
front_below (e ∷ es) zero below front back =
    let far : below ≤ e.position = back 0 (omega arith) (omega arith) in
    let miss : nat_lt e.position below ≡ false = grind (arith, nat_tests) in
    let none : take 0 es ≡ filter (λ f. nat_lt f.position below) es =
    front_below es 0 below (λ k h lt. absurd (omega arith)) (λ k h lt. back (suc k) (omega arith) (omega arith)) in
    rw miss none
front_below (e ∷ es) (suc n) below front back =
    let near : e.position < below = front 0 (omega arith) (omega arith) in
    let hit : nat_lt e.position below ≡ true = grind (arith, nat_tests) in
    let rest : take n es ≡ filter (λ f. nat_lt f.position below) es =
    front_below es n below (λ k h lt. front (suc k) (omega arith) (omega arith)) (λ k h lt. back (suc k) (omega
    arith) (omega arith)) in
    rw hit (ap (λ us. e ∷ us) rest)

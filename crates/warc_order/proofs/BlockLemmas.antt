-- Lists one after another.
use Rattle.std.proofs.Common.{◌≡◌, ℕ, zero, suc, ◌+◌, ◌-◌, ◌<◌, ◌≤◌, Bool, true, false, List, [], ◌∷◌, ◌++◌, length, take, drop, get_or, set, map, Some, None, refl, sym, ap, ◌∙◌, inl, inr, arith, append_assoc, length-append, true≢false, All, slice_get, filter, insert}
use Rattle.std.proofs.lemmas.List.{take_all, append-nil, take_more, get_or_append_left, get_or-append-add, get_or_default, take-append-drop, map-set, take-map, drop-map, map-append, get_or-map, length-map, length-set, set-set, get_or-set_same, length-take-le, length-drop, drop_more, get_or_at}
use Rattle.std.proofs.Math.Seq.{take-add}
use Rattle.std.proofs.lemmas.List.Edits.{insert-append_left, insert-append_right, map_over_more}
use Rattle.std.proofs.lemmas.List.Elements.{All-head, All-tail, All-append, All-take, All-drop, All-cons, filter-append}
use Rattle.std.proofs.lemmas.Bool.{cases_lt, cases_Bool}
use Rattle.std.proofs.lemmas.Option.{slice_get_read, slice_get_past}
use Rattle.std.specs.List.Sorted.{IsPartitionedBy, IsPartitionPoint}
use Rattle.warc_order.specs.declared.slot.Slot.{Slot}
use Rattle.warc_order.specs.Ranking.{Held, flattened, blank, lists_of, start_of, HoldsSome, IsBlock, IsNarrow}

-- ---- where a list begins

flattened-append : (ls ms : List (List Slot)) → flattened (ls ++ ms) ≡ flattened ls ++ flattened ms
flattened-append [] ms = refl
flattened-append (l ∷ ls) ms = ap (λ us. l ++ us) (flattened-append ls ms) ∙ sym (append_assoc l (flattened ls) (flattened ms))

pub start_of-more : (ls : List (List Slot)) (b : ℕ) → b < length ls →
    start_of ls (b + 1) ≡ start_of ls b + length (get_or ls b [])
start_of-more ls b h =
    rw (take_more ls b [] h, flattened-append (take b ls) (get_or ls b [] ∷ []), append-nil, length-append) refl

pub start_of-le : (ls : List (List Slot)) (b c : ℕ) → b ≤ c → start_of ls b ≤ start_of ls c
start_of-le ls zero c h = omega arith
start_of-le [] (suc b) c h = omega arith
start_of-le (l ∷ ls) (suc b) zero h = absurd (omega arith)
start_of-le (l ∷ ls) (suc b) (suc c) h =
    rw (length-append l (flattened (take b ls)), length-append l (flattened (take c ls))) (omega (
      arith,
      start_of-le ls b c
          (omega arith),
    ))

pub start_of-all : (ls : List (List Slot)) (b : ℕ) → length ls ≤ b → start_of ls b ≡ length (flattened ls)
start_of-all ls b h = ap (λ us. length (flattened us)) (take_all b ls h)

pub start_of-within : (ls : List (List Slot)) (b : ℕ) → start_of ls b ≤ length (flattened ls)
start_of-within ls zero = omega arith
start_of-within [] (suc b) = omega arith
start_of-within (l ∷ ls) (suc b) =
    rw (length-append l (flattened (take b ls)), length-append l (flattened ls)) (omega (arith, start_of-within ls b))

-- ---- what is at a place

pub at_place : (ls : List (List Slot)) (b o : ℕ) (d : Slot) → b < length ls → o < length (get_or ls b []) →
    get_or (flattened ls) (start_of ls b + o) d ≡ get_or (get_or ls b []) o d
at_place [] b o d h k = absurd (omega arith)
at_place (l ∷ ls) zero o d h k =
    let z : 0 + o ≡ o = omega arith in
    rw z (get_or_append_left l (flattened ls) d o k)
at_place (l ∷ ls) (suc b) o d h k =
    let e : start_of (l ∷ ls) (suc b) + o ≡ length l + (start_of ls b + o) =
    omega (arith, length-append l (flattened (take b ls))) in
    rw (e, get_or-append-add l (flattened ls) (start_of ls b + o) d) (at_place ls b o d (omega arith) k)

-- ---- the place where a test ends

pub order_of_firsts : (t : Slot → Bool) (ls : List (List Slot)) → ((k : ℕ) → k < length ls →
    0 < length (get_or ls k [])) → IsPartitionedBy t (flattened ls) → (i j : ℕ) → i ≤ j → j < length ls →
    t (get_or (get_or ls j []) 0 blank) ≡ true → t (get_or (get_or ls i []) 0 blank) ≡ true
order_of_firsts t ls some order i j le lt hit =
    let il : i < length ls = omega arith in
    let a : get_or (flattened ls) (start_of ls i + 0) blank ≡ get_or (get_or ls i []) 0 blank =
    at_place ls i 0 blank il (some i il) in
    let b : get_or (flattened ls) (start_of ls j + 0) blank ≡ get_or (get_or ls j []) 0 blank =
    at_place ls j 0 blank lt (some j lt) in
    let up : start_of ls i ≤ start_of ls j = start_of-le ls i j le in
    let more : start_of ls (j + 1) ≡ start_of ls j + length (get_or ls j []) = start_of-more ls j lt in
    let within : start_of ls (j + 1) ≤ length (flattened ls) = start_of-within ls (j + 1) in
    let first : 0 < length (get_or ls j []) = some j lt in
    ap t (sym a) ∙ order (start_of ls i + 0) (start_of ls j + 0) blank (omega arith) (omega arith) (ap t b ∙ hit)

pub order_within : (t : Slot → Bool) (ls : List (List Slot)) (b : ℕ) → b < length ls → IsPartitionedBy t (flattened ls) →
    IsPartitionedBy t (get_or ls b [])
order_within t ls b h order i j d le lt hit =
    let a : get_or (flattened ls) (start_of ls b + i) d ≡ get_or (get_or ls b []) i d =
    at_place ls b i d h (omega arith) in
    let e : get_or (flattened ls) (start_of ls b + j) d ≡ get_or (get_or ls b []) j d = at_place ls b j d h lt in
    let more : start_of ls (b + 1) ≡ start_of ls b + length (get_or ls b []) = start_of-more ls b h in
    let within : start_of ls (b + 1) ≤ length (flattened ls) = start_of-within ls (b + 1) in
    ap t (sym a) ∙ order (start_of ls b + i) (start_of ls b + j) d (omega arith) (omega arith) (ap t e ∙ hit)

-- the blocks before b + 1 begin with one that passes, and the later ones do not; o of block b pass
pub record IsPlace (t : Slot → Bool) (ls : List (List Slot)) (k b o : ℕ) : Type 0 where
  pub block : b < length ls
  pub within : o ≤ length (get_or ls b [])
  pub up : k ≤ b + 1
  pub down : 0 < b → k ≡ b + 1
  pub firsts : (j : ℕ) → j < k → t (get_or (get_or ls j []) 0 blank) ≡ true
  pub others : (j : ℕ) → k ≤ j → j < length ls → t (get_or (get_or ls j []) 0 blank) ≡ false
  pub front : (j : ℕ) → j < o → t (get_or (get_or ls b []) j blank) ≡ true
  pub back : (j : ℕ) → o ≤ j → j < length (get_or ls b []) → t (get_or (get_or ls b []) j blank) ≡ false

point_front : (t : Slot → Bool) (ls : List (List Slot)) (k b o : ℕ) → ((k : ℕ) → k < length ls →
    0 < length (get_or ls k [])) → IsPartitionedBy t (flattened ls) → IsPlace t ls k b o → (m : ℕ) (d : Slot) →
    m < start_of ls b + o → t (get_or (flattened ls) m d) ≡ true
point_front t ls k b o some order it m d lt =
    let h : b < length ls = it.block in
    let w : o ≤ length (get_or ls b []) = it.within in
    let more : start_of ls (b + 1) ≡ start_of ls b + length (get_or ls b []) = start_of-more ls b h in
    let within : start_of ls (b + 1) ≤ length (flattened ls) = start_of-within ls (b + 1) in
    elim (cases_lt m (start_of ls b)) [
      | inl low ↦
          let e : k ≡ b + 1 = it.down (elim (cases_lt 0 b) [
            | inl yes1 ↦ yes1
            | inr z ↦ absurd (let s : start_of ls b ≤
                start_of ls 0 = start_of-le ls b 0 z in omega arith)
          ]) in
          let first : 0 < length (get_or ls b []) = some b h in
          let a : get_or (flattened ls) (start_of ls b + 0) d ≡ get_or (get_or ls b []) 0 d = at_place ls b 0 d h first in
          let c : get_or (get_or ls b []) 0 d ≡ get_or (get_or ls b []) 0 blank =
          get_or_default (get_or ls b []) 0 d blank first in
          order m (start_of ls b + 0) d (omega arith) (omega arith) (ap t (a ∙ c) ∙ it.firsts b (omega arith))
      | inr high ↦
          let j : ℕ = m - start_of ls b in
          let e : start_of ls b + j ≡ m = omega arith in
          let jo : j < o = omega arith in
          let jl : j < length (get_or ls b []) = omega arith in
          let a : get_or (flattened ls) (start_of ls b + j) d ≡ get_or (get_or ls b []) j d = at_place ls b j d h jl in
          let c : get_or (get_or ls b []) j d ≡ get_or (get_or ls b []) j blank =
          get_or_default (get_or ls b []) j d blank jl in
          ap (λ n. t (get_or (flattened ls) n d)) (sym e) ∙ (ap t (a ∙ c) ∙ it.front j jo)
    ]

point_back : (t : Slot → Bool) (ls : List (List Slot)) (k b o : ℕ) → ((k : ℕ) → k < length ls →
    0 < length (get_or ls k [])) → IsPartitionedBy t (flattened ls) → IsPlace t ls k b o → (m : ℕ) (d : Slot) →
    start_of ls b + o ≤ m → m < length (flattened ls) → t (get_or (flattened ls) m d) ≡ false
point_back t ls k b o some order it m d ge lt =
    let h : b < length ls = it.block in
    let u : k ≤ b + 1 = it.up in
    let more : start_of ls (b + 1) ≡ start_of ls b + length (get_or ls b []) = start_of-more ls b h in
    elim (cases_lt m (start_of ls (b + 1))) [
      | inl low ↦
          let j : ℕ = m - start_of ls b in
          let e : start_of ls b + j ≡ m = omega arith in
          let jl : j < length (get_or ls b []) = omega arith in
          let a : get_or (flattened ls) (start_of ls b + j) d ≡ get_or (get_or ls b []) j d = at_place ls b j d h jl in
          let c : get_or (get_or ls b []) j d ≡ get_or (get_or ls b []) j blank =
          get_or_default (get_or ls b []) j d blank jl in
          ap (λ n. t (get_or (flattened ls) n d)) (sym e) ∙ (ap t (a ∙ c) ∙ it.back j (omega arith) jl)
      | inr high ↦
          let next : b + 1 < length ls = elim (cases_lt (b + 1) (length ls)) [
            | inl yes1 ↦ yes1
            | inr past ↦ absurd (let
                s : start_of ls (b + 1) ≡ length (flattened ls) = start_of-all ls (b + 1) past in omega arith)
          ] in
          let first : 0 < length (get_or ls (b + 1) []) = some (b + 1) next in
          let a : get_or (flattened ls) (start_of ls (b + 1) + 0) d ≡ get_or (get_or ls (b + 1) []) 0 d =
          at_place ls (b + 1) 0 d next first in
          let c : get_or (get_or ls (b + 1) []) 0 d ≡ get_or (get_or ls (b + 1) []) 0 blank =
          get_or_default (get_or ls (b + 1) []) 0 d blank first in
          let miss : t (get_or (flattened ls) (start_of ls (b + 1) + 0) d) ≡ false = ap t (a ∙ c)
          ∙ it.others (b + 1) u next in
          elim (cases_Bool (t (get_or (flattened ls) m d))) [
            | inl hit ↦ absurd (true≢false (sym (order (start_of ls (b + 1) + 0) m d (omega arith) lt hit) ∙ miss))
            | inr quiet ↦ quiet
          ]
    ]

pub point : (t : Slot → Bool) (ls : List (List Slot)) (k b o : ℕ) → ((k : ℕ) → k < length ls →
    0 < length (get_or ls k [])) → IsPartitionedBy t (flattened ls) → IsPlace t ls k b o →
    IsPartitionPoint (λ p. t p ≡ true) (λ p. t p ≡ false) (flattened ls) (start_of ls b + o)
point t ls k b o some order it = (
  λ m d low lt. point_front t ls k b o some order it m d lt,
  λ m d ge lt. point_back t
      ls k b o some order it m d ge lt,
)

-- ---- an addition

pub flattened-insert : (ls : List (List Slot)) (b o : ℕ) (q : Slot) → b < length ls → o ≤ length (get_or ls b []) →
    flattened (set ls b (insert (get_or ls b []) o q)) ≡ insert (flattened ls) (start_of ls b + o) q
flattened-insert [] b o q h k = absurd (omega arith)
flattened-insert (l ∷ ls) zero o q h k =
    let z : 0 + o ≡ o = omega arith in
    rw z (sym (insert-append_left l (flattened ls) o q k))
flattened-insert (l ∷ ls) (suc b) o q h k =
    let e : start_of (l ∷ ls) (suc b) + o ≡ length l + (start_of ls b + o) =
    omega (arith, length-append l (flattened (take b ls))) in
    let d : (length l + (start_of ls b + o)) - length l ≡ start_of ls b + o = omega arith in
    rw (e, insert-append_right l (flattened ls) (length l) (length l + (start_of ls b + o)) q refl (omega arith), d) (ap
    (λ us. l ++ us) (flattened-insert ls b o q (omega arith) k))

-- a list that is cut in two
pub flattened-halved : (ls : List (List Slot)) (b m : ℕ) → b < length ls →
    flattened (insert (set ls b (take m (get_or ls b []))) (suc b) (drop m (get_or ls b []))) ≡ flattened ls
flattened-halved [] b m h = absurd (omega arith)
flattened-halved (l ∷ ls) zero m h = sym (append_assoc (take m l) (drop m l) (flattened ls))
    ∙ ap (λ us. us ++ flattened ls) (take-append-drop m l)
flattened-halved (l ∷ ls) (suc b) m h = ap (λ us. l ++ us) (flattened-halved ls b m (omega arith))

pub map-insert : {X Y : Type 0} (f : X → Y) (xs : List X) (i : ℕ) (x : X) →
    map f (insert xs i x) ≡ insert (map f xs) i (f x)
map-insert f xs i x = rw (map-append f (take i xs) (x ∷ drop i xs), take-map f i xs, drop-map f i xs) refl

-- ---- the blocks

pub somes : (bs : List Held) → All HoldsSome bs → (k : ℕ) → k < length bs → 0 < length (get_or (lists_of bs) k [])
somes [] all k h = absurd (omega arith)
somes (b ∷ bs) all zero h = All-head HoldsSome b bs all
somes (b ∷ bs) all (suc k) h = somes bs (All-tail HoldsSome b bs all) k (omega arith)

pub items_at : (bs : List (Held)) (b : ℕ) (old : Held) → b < length bs → old ≡ get_or bs b old →
    get_or (lists_of bs) b [] ≡ old.list
items_at bs b old h e = get_or-map (λ (v : Held). v.list) bs b old [] h ∙ ap (λ (v : Held). v.list) (sym e)

lists_of-set : (bs : List (Held)) (b : ℕ) (v : Held) → lists_of (set bs b v) ≡ set (lists_of bs) b v.list
lists_of-set bs b v = map-set (λ (w : Held). w.list) bs b v

lists_of-insert : (bs : List (Held)) (b : ℕ) (v : Held) → lists_of (insert bs b v) ≡ insert (lists_of bs) b v.list
lists_of-insert bs b v = map-insert (λ (w : Held). w.list) bs b v

-- one more in a block
pub put_list : (bs : List (Held)) (b o : ℕ) (q : Slot) (old new : Held) → b < length bs → old ≡ get_or bs b old →
    o ≤ length (get_or (lists_of bs) b []) → new.list ≡ insert old.list o q →
    flattened (lists_of (set bs b new)) ≡ insert (flattened (lists_of bs)) (start_of (lists_of bs) b + o) q
put_list bs b o q old new h e le n =
    let items : get_or (lists_of bs) b [] ≡ old.list = items_at bs b old h e in
    let more : new.list ≡ insert (get_or (lists_of bs) b []) o q = n ∙ ap (λ us. insert us o q) (sym items) in
    let l : b < length (lists_of bs) = rw length-map h in
    ap flattened (lists_of-set bs b new ∙ ap (set (lists_of bs) b) more) ∙ flattened-insert (lists_of bs) b o q l le

-- one more in a block, which is then cut in two
pub put_list-halved : (bs : List (Held)) (b o : ℕ) (q : Slot) (m : ℕ) (old front tail : Held) → b < length bs →
    old ≡ get_or bs b old → o ≤ length (get_or (lists_of bs) b []) → front.list ≡ take m (insert old.list o q) →
    tail.list ≡ drop m (insert old.list o q) → flattened (lists_of (insert (set bs b front) (b + 1) tail)) ≡ insert
    (flattened (lists_of bs)) (start_of (lists_of bs) b + o) q
put_list-halved bs b o q m old front tail h e le f t =
    let items : get_or (lists_of bs) b [] ≡ old.list = items_at bs b old h e in
    let l : b < length (lists_of bs) = rw length-map h in
    let ls : List (List Slot) = lists_of bs in
    let whole : List Slot = insert old.list o q in
    let wider : List (List Slot) = set ls b whole in
    let there : get_or wider b [] ≡ whole = get_or-set_same ls b whole [] l in
    let twice : set wider b (take m whole) ≡ set ls b (take m whole) = set-set ls b whole (take m whole) in
    let lw : b < length wider = rw length-set l in
    let halved : flattened (insert (set wider b (take m (get_or wider b []))) (suc b) (drop m (get_or wider b []))) ≡
    flattened wider = flattened-halved wider b m lw in
    let flat : flattened (insert (set ls b (take m whole)) (suc b) (drop m whole)) ≡ flattened wider =
    ap (λ us. flattened (insert us (suc b) (drop m whole))) (sym twice)
    ∙ (ap (λ us. flattened (insert (set wider b (take m us)) (suc b) (drop m us))) (sym there) ∙ halved) in
    let seen : lists_of (insert (set bs b front) (b + 1) tail) ≡ insert (set ls b (take m whole)) (b + 1) (drop m
    whole) =
    lists_of-insert (set bs b front) (b + 1) tail ∙ (ap (λ us. insert us (b + 1) tail.list) (lists_of-set bs b front
    ∙ ap (set ls b) f) ∙ ap (insert (set ls b (take m whole)) (b + 1)) t) in
    let one : b + 1 ≡ suc b = omega arith in
    ap flattened seen ∙ (ap (λ n. flattened (insert (set ls b (take m whole)) n (drop m whole))) one ∙ (flat
    ∙ (ap (λ us. flattened (set ls b (insert us o q))) (sym items) ∙ flattened-insert ls b o q l le)))

pub All-insert : {X : Type 0} (P : X → Type 0) (xs : List X) (i : ℕ) (x : X) → All P xs → P x → All P (insert xs i x)
All-insert P xs i x all one = All-append P (take i xs) (x ∷ drop i xs) (All-take P i xs all) (All-cons P x (drop i xs)
    one (All-drop P i xs all))

-- what is left of a list of lists in which each is filtered
pub filters_more : (t : Slot → Bool) (ls ms : List (List Slot)) (i : ℕ) → i < length ls →
    ms ≡ map (λ ps. filter t ps) (take i ls) ++ drop i ls → set ms i (filter t (get_or ms i [])) ≡ map (λ ps. filter t
    ps) (take (i + 1) ls) ++ drop (i + 1) ls
filters_more t ls ms i h e =
    let n : length (map (λ ps. filter t ps) (take i ls)) ≡ i = length-map (take i ls) (λ ps. filter t ps)
    ∙ length-take-le i ls (omega arith) in
    let split : drop i ls ≡ get_or ls i [] ∷ drop (i + 1) ls = drop_more ls i [] h in
    let same : get_or ms i [] ≡ get_or ls i [] =
    ap (λ us. get_or us i []) (e ∙ ap (λ us. map (λ ps. filter t ps) (take i ls) ++ us) split)
    ∙ get_or_at (map (λ ps. filter t ps) (take i ls)) (get_or ls i []) (drop (i + 1) ls) [] i n in
    let here : get_or ls i [] ≡ get_or ms i (get_or ls i []) =
    sym (ap (λ us. get_or us i (get_or ls i [])) (e ∙ ap (λ us. map (λ ps. filter t ps) (take i ls) ++ us) split)
    ∙ get_or_at (map (λ ps. filter t ps) (take i ls)) (get_or ls i []) (drop (i + 1) ls) (get_or ls i []) i n) in
    ap (λ us. set ms i (filter t us)) same ∙ map_over_more (λ ps. filter t ps) ls ms i (get_or ls i []) h e here

-- ---- fewer indices

pub flattened-filter : (t : Slot → Bool) (ls : List (List Slot)) →
    flattened (map (λ ps. filter t ps) ls) ≡ filter t (flattened ls)
flattened-filter t [] = refl
flattened-filter t (l ∷ ls) = ap (λ us. filter t l ++ us) (flattened-filter t ls) ∙ sym (filter-append t l (flattened ls))

pub flattened-kept : (bs : List (Held)) (p : Held → Bool) → ((b : Held) → p b ≡ false → b.list ≡ []) →
    flattened (lists_of (filter p bs)) ≡ flattened (lists_of bs)
flattened-kept [] p none = refl
flattened-kept (b ∷ bs) p none = elim (cases_Bool (p b)) [
  | inl kept ↦ rw kept (ap (λ us. b.list ++ us) (flattened-kept bs p none))
  | inr left ↦ rw (left, none b left) (flattened-kept bs p none)
]

pub some_kept : (bs : List Held) (p : Held → Bool) → ((b : Held) → p b ≡ true → 0 < length b.list) →
    All HoldsSome (filter p bs)
some_kept [] p some = λ k d h. absurd (omega arith)
some_kept (b ∷ bs) p some = elim (cases_Bool (p b)) [
  | inl kept ↦ rw kept (All-cons HoldsSome b (filter p bs) (some b kept) (some_kept bs p some))
  | inr left ↦ rw left (some_kept bs p some)
]

pub blocks_kept : (limit : ℕ) (bs : List (Held)) (p : Held → Bool) → ((b : Held) → p b ≡ true → 0 < length b.list) →
    All (IsNarrow limit) bs → All (IsBlock limit) (filter p bs)
blocks_kept limit [] p some all = λ k d h. absurd (omega arith)
blocks_kept limit (b ∷ bs) p some all = elim (cases_Bool (p b)) [
  | inl kept ↦
      let wide : IsNarrow limit b = All-head (IsNarrow limit) b bs all in
      rw kept (All-cons (IsBlock limit) b (filter p bs) record {
        some = some b kept;
        few = wide.few;
        room =
            wide.room;
      } (blocks_kept limit bs p some (All-tail (IsNarrow limit) b bs all)))
  | inr left ↦ rw left (blocks_kept limit bs p some (All-tail (IsNarrow limit) b bs all))
]

pub few_kept : (old new : Held) → IsNarrow 512 old → length new.list ≤ length old.list → new.room ≡ old.room →
    IsNarrow 512 new
few_kept old new wide le same =
    let few : length old.list < 512 = wide.few in
    let room : 512 ≤ old.room = wide.room in
    record { few = omega arith; room = omega arith }

pub halves_are_blocks : (m : ℕ) (new front tail : Held) → 0 < m → m < 512 → length new.list ≡ 512 →
    front.list ≡ take m new.list → tail.list ≡ drop m new.list → 512 ≤ front.room → 512 ≤ tail.room →
    IsBlock 512 front × IsBlock 512 tail
halves_are_blocks m new front tail low high full f t fc tc =
    let a : length front.list ≡ m = ap length f ∙ length-take-le m new.list (omega arith) in
    let b : length tail.list ≡ length new.list - m = ap length t ∙ length-drop m new.list in (
      record { some = omega arith; few = omega arith; room = fc },
      record {
        some = omega arith;
        few =
            omega arith;
        room = tc;
      },
    )

-- what a lookup gives
pub some_at : (ls : List (List Slot)) (b o : ℕ) → b < length ls → o < length (get_or ls b []) →
    slice_get (flattened ls) (start_of ls b + o) ≡ Some (get_or (get_or ls b []) o blank)
some_at ls b o h k =
    let more : start_of ls (b + 1) ≡ start_of ls b + length (get_or ls b []) = start_of-more ls b h in
    let within : start_of ls (b + 1) ≤ length (flattened ls) = start_of-within ls (b + 1) in
    let x : Slot = get_or (get_or ls b []) o blank in
    let e : x ≡ get_or (flattened ls) (start_of ls b + o) x = sym (at_place ls b o x h k
    ∙ get_or_default (get_or ls b []) o x blank k) in
    slice_get_read (flattened ls) (length (flattened ls)) (start_of ls b + o) x refl (omega arith) e

pub place_within : (ls : List (List Slot)) (b o : ℕ) → b < length ls → o ≤ length (get_or ls b []) →
    start_of ls b + o ≤ length (flattened ls)
place_within ls b o h k =
    let more : start_of ls (b + 1) ≡ start_of ls b + length (get_or ls b []) = start_of-more ls b h in
    let within : start_of ls (b + 1) ≤ length (flattened ls) = start_of-within ls (b + 1) in
    omega arith

-- past a block the next one begins
pub next_at : (ls : List (List Slot)) (b o : ℕ) → b < length ls → o ≡ length (get_or ls b []) →
    start_of ls b + o ≡ start_of ls (b + 1) + 0
next_at ls b o h e =
    let more : start_of ls (b + 1) ≡ start_of ls b + length (get_or ls b []) = start_of-more ls b h in
    omega arith

pub none_at : (ls : List (List Slot)) (b o : ℕ) → b < length ls → length ls ≤ b + 1 → o ≡ length (get_or ls b []) →
    slice_get (flattened ls) (start_of ls b + o) ≡ None
none_at ls b o h past e =
    let more : start_of ls (b + 1) ≡ start_of ls b + length (get_or ls b []) = start_of-more ls b h in
    let all : start_of ls (b + 1) ≡ length (flattened ls) = start_of-all ls (b + 1) past in
    slice_get_past (flattened ls) (start_of ls b + o) (omega arith)

-- where the first of the first block fails, nothing passes
pub start_is_first : (t : Slot → Bool) (ls : List (List Slot)) (k b o : ℕ) → ((k : ℕ) → k < length ls →
    0 < length (get_or ls k [])) → IsPlace t ls k b o → o ≡ 0 → b ≡ 0
start_is_first t ls k b o some it e = elim (cases_lt 0 b) [
  | inl up ↦
      let kb : k ≡ b + 1 = it.down up in
      let h : b < length ls = it.block in
      absurd (true≢false (sym (it.firsts b (omega arith)) ∙ it.back 0 (omega arith) (some b h)))
  | inr low ↦ omega arith
]

-- one more block is filtered
pub keep_more : (t : Slot → Bool) (ls : List (List Slot)) (bs : List (Held)) (i : ℕ) (old new : Held) →
    i < length bs → length ls ≡ length bs → old ≡ get_or bs i old → new.list ≡ filter t old.list →
    lists_of bs ≡ map (λ ps. filter t ps) (take i ls) ++ drop i ls →
    lists_of (set bs i new) ≡ map (λ ps. filter t ps) (take (i + 1) ls) ++ drop (i + 1) ls
keep_more t ls bs i old new h n e f inv =
    let items : get_or (lists_of bs) i [] ≡ old.list = items_at bs i old h e in
    lists_of-set bs i new ∙ (ap (set (lists_of bs) i) (f ∙ ap (filter t) (sym items))
    ∙ filters_more t ls (lists_of bs) i (omega arith) inv)

-- ---- wide blocks that are cut

-- one more piece after others
pub pieces_more : (bs : List Held) (b : Held) (old ss : List Slot) (from to : ℕ) → from ≤ to → to ≤ length ss →
    b.list ≡ take (to - from) (drop from ss) → flattened (lists_of bs) ≡ old ++ take from ss →
    flattened (lists_of (bs ++ b ∷ [])) ≡ old ++ take to ss
pieces_more bs b old ss from to le within piece front =
    let apart : to ≡ from + (to - from) = omega arith in
    ap flattened (map-append (λ (v : Held). v.list) bs (b ∷ []))
    ∙ (flattened-append (lists_of bs) (b.list ∷ []) ∙ (ap (λ us. flattened (lists_of bs) ++ us) (append-nil b.list)
    ∙ (ap (λ us. us ++ b.list) front ∙ (append_assoc old (take from ss) b.list
    ∙ ap (λ us. old ++ us) (ap (λ us. take from ss ++ us) piece ∙ (sym (take-add from (to - from) ss)
    ∙ ap (λ m. take m ss) (sym apart)))))))

-- a piece is a block
pub piece_is_block : (b : Held) (ss : List Slot) (from to : ℕ) → from < to → to ≤ length ss → to ≤ from + 384 →
    b.list ≡ take (to - from) (drop from ss) → 512 ≤ b.room → IsBlock 512 b
piece_is_block b ss from to lt within few piece room =
    let rest : length (drop from ss) ≡ length ss - from = length-drop from ss in
    let n : length b.list ≡ to - from = ap length piece ∙ length-take-le (to - from) (drop from ss) (omega arith) in
    record { some = omega arith; few = omega arith; room = room }

-- the lists of one more block
pub flattened-more : (bs : List Held) (i : ℕ) → i < length bs → (d : Held) →
    flattened (take (i + 1) (lists_of bs)) ≡ flattened (take i (lists_of bs)) ++ (get_or bs i d).list
flattened-more bs i h d =
    let l : i < length (lists_of bs) = rw length-map h in
    ap flattened (take_more (lists_of bs) i [] l) ∙ (flattened-append (take i (lists_of bs)) (get_or (lists_of bs) i [] ∷
    []) ∙ ap (λ us. flattened (take i (lists_of bs)) ++ us) (append-nil (get_or (lists_of bs) i [])
    ∙ get_or-map (λ (v : Held). v.list) bs i d [] h))

-- Joined blocks at their places, one block more.
use Rattle.std.proofs.Common.{◌≡◌, inl, inr, ℕ, zero, suc, ◌+◌, ◌-◌, ◌<◌, ◌≤◌, List, [], ◌∷◌, ◌++◌, length, length-append, length-take, length-drop, take, drop, get_or, append_assoc, Option, refl, sym, ap, subst, ◌∙◌, arith}
use Rattle.std.specs.Prelude.{min}
use Rattle.std.proofs.lemmas.Grind.{flat_map-append}
use Rattle.std.proofs.lemmas.List.{drop-drop, drop-take, flat_map_more, take_more, take-append-drop, take-take}
use Rattle.std.proofs.lemmas.List.Elements.{All-contains_itself}
use Rattle.std.proofs.lemmas.List.Sums.{sum_by_more, sum_by-take-le}
use Rattle.std.proofs.lemmas.Bool.{cases_lt}
use Rattle.std.proofs.lemmas.Slice.{take-put_mid}
use borrow.Rule.Slice.PartMut.{put_mid, mid_of}
use Rattle.warc_frame.specs.Device.{Staged}
use Rattle.warc_frame.specs.Effects.{HasRange, ReadsRange}
use Rattle.warc_frame.specs.Seen.{IsInRange, SeenSource}
use Rattle.warc_frame.specs.Send.{IsStaged, WentOut}
use Rattle.warc_frame.proofs.EffectLemmas.{reads_both, reads_within}
use Rattle.warc_frame.proofs.LawLemmas.{went_out_of_longer}
use Rattle.warc_segment.specs.declared.place.Place.{Place}
use Rattle.warc_answer.specs.Places.{IsInOne, LieIn, ReadsPlaces, bytes_at, len_of, text_at}

-- what went out of an output went out of an equal one
pub same_out : {start now : Option (List ℕ)} {a b : List ℕ} {sent : ℕ} → a ≡ b → WentOut start a now sent
    → WentOut start b now sent
same_out {start} {now} {a} {b} {sent} same out =
    let P : List ℕ → Type 0 = λ l. WentOut start l now sent in subst P same out

pub same_staged : {start now : Option (List ℕ)} {a b : List ℕ} {buffer : Staged} → a ≡ b → IsStaged start a now buffer
    → IsStaged start b now buffer
same_staged {start} {now} {a} {b} {buffer} same is =
    let P : List ℕ → Type 0 = λ l. IsStaged start l now buffer in subst P same is

-- ---- lists

drop_past : (n : ℕ) (xs : List ℕ) → length xs ≤ n → drop n xs ≡ []
drop_past zero [] le = refl
drop_past (suc n) [] le = refl
drop_past zero (x ∷ xs) le = absurd (omega arith)
drop_past (suc n) (x ∷ xs) le = drop_past n xs (omega arith)

drop_append : (s : ℕ) (a b : List ℕ) → drop s (a ++ b) ≡ drop s a ++ drop (s - length a) b
drop_append s [] b =
    let z : s ≡ s - length {A = ℕ} [] = omega arith in
    ap (λ k. drop k b) z ∙ ap (λ l. l ++ drop (s - length {A = ℕ} []) b) (sym (drop_past s [] (omega arith)))
drop_append zero (x ∷ a) b =
    let z : 0 ≡ 0 - length (x ∷ a) = omega arith in ap (λ k. (x ∷ a) ++ drop k b) z
drop_append (suc s) (x ∷ a) b =
    let z : s - length a ≡ suc s - length (x ∷ a) = omega arith in
    drop_append s a b ∙ ap (λ k. drop s a ++ drop k b) z

-- no more is dropped than there is
drop_min : (n : ℕ) (xs : List ℕ) → drop n xs ≡ drop (min n (length xs)) xs
drop_min n xs = elim (cases_lt n (length xs)) [
  | inl less ↦ let e : min n (length xs) ≡ n = omega arith in ap (λ k. drop k xs) (sym e)
  | inr more ↦
      let e : min n (length xs) ≡ length xs = omega arith in
      let le : length xs ≤ n = omega arith in
      drop_past n xs le ∙ sym (drop_past (min n (length xs)) xs (omega arith))
]

pub take_past : (n : ℕ) (xs : List ℕ) → length xs ≤ n → take n xs ≡ xs
take_past zero [] le = refl
take_past (suc n) [] le = refl
take_past zero (x ∷ xs) le = absurd (omega arith)
take_past (suc n) (x ∷ xs) le = ap (λ l. x ∷ l) (take_past n xs (omega arith))

take_append : (n : ℕ) (a b : List ℕ) → take n (a ++ b) ≡ take n a ++ take (n - length a) b
take_append n [] b =
    let z : n ≡ n - length {A = ℕ} [] = omega arith in
    ap (λ k. take k b) z ∙ ap (λ l. l ++ take (n - length {A = ℕ} []) b) (sym (take_past n [] (omega arith)))
take_append zero (x ∷ a) b = let z : 0 ≡ 0 - length (x ∷ a) = omega arith in ap (λ k. take k b) z
take_append (suc n) (x ∷ a) b =
    let z : n - length a ≡ suc n - length (x ∷ a) = omega arith in
    ap (λ l. x ∷ l) (take_append n a b) ∙ ap (λ k. x ∷ take n a ++ take k b) z

-- ---- one block more

text_more : (bytes : List ℕ) (places : List Place) (i : ℕ) (d : Place) → i < length places
    → text_at (take (i + 1) places) bytes ≡ text_at (take i places) bytes ++ bytes_at bytes (get_or places i d)
text_more bytes places i d lt =
    ap (λ (ps : List Place). text_at ps bytes) (take_more places i d lt)
    ∙ sym (flat_map_more (bytes_at bytes) [] (take i places) (get_or places i d))

-- a place ends before the bytes do
pub lies : (bytes : List ℕ) (places : List Place) (i : ℕ) (d : Place) → LieIn places bytes → i < length places
    → (get_or places i d).start + (get_or places i d).len ≤ length bytes
lies bytes places i d lie lt = lie.within i d lt

-- so does a front of it
pub range_of : (bytes : List ℕ) (places : List Place) (i : ℕ) (d : Place) (n : ℕ) → LieIn places bytes → i < length places
    → n ≤ (get_or places i d).len → HasRange (get_or places i d).start n bytes
range_of bytes places i d n lie lt le = (omega (arith, lies bytes places i d lie lt), lie.short)

block_len : (bytes : List ℕ) (places : List Place) (i : ℕ) (d : Place) → LieIn places bytes → i < length places
    → length (bytes_at bytes (get_or places i d)) ≡ (get_or places i d).len
block_len bytes places i d lie lt =
    let p : Place = get_or places i d in
    let here : p.start + p.len ≤ length bytes = lies bytes places i d lie lt in
    omega (arith, length-take p.len (drop p.start bytes), length-drop p.start bytes)

pub text_len : (bytes : List ℕ) (places : List Place) (i : ℕ) (d : Place) → LieIn places bytes → i < length places
    → length (text_at (take (i + 1) places) bytes)
    ≡ length (text_at (take i places) bytes) + (get_or places i d).len
text_len bytes places i d lie lt =
    ap length (text_more bytes places i d lt)
    ∙ (length-append (text_at (take i places) bytes) (bytes_at bytes (get_or places i d))
    ∙ ap (λ n. length (text_at (take i places) bytes) + n) (block_len bytes places i d lie lt))

-- a block without its first bytes
part_of_block : (bytes : List ℕ) (p : Place) (gone : ℕ) → gone ≤ p.len
    → drop gone (bytes_at bytes p) ≡ take (p.len - gone) (drop (p.start + gone) bytes)
part_of_block bytes p gone le =
    let z : p.len ≡ gone + (p.len - gone) = omega arith in
    ap (λ n. drop gone (take n (drop p.start bytes))) z
    ∙ (drop-take gone (p.len - gone) (drop p.start bytes) ∙ ap (take (p.len - gone)) (drop-drop gone p.start bytes))

-- the output with one block more, of which the first bytes may be gone
pub block_more : (bytes output : List ℕ) (places : List Place) (s left gone at i : ℕ) (d : Place)
    → LieIn places bytes → i < length places → left ≡ s - length (text_at (take i places) bytes)
    → gone ≡ min left (get_or places i d).len → at ≡ (get_or places i d).start + gone
    → (output ++ drop s (text_at (take i places) bytes)) ++ take ((get_or places i d).len - gone) (drop at bytes)
    ≡ output ++ drop s (text_at (take (i + 1) places) bytes)
block_more bytes output places s left gone at i d lie lt left_is gone_is at_is =
    let p : Place = get_or places i d in
    let text : List ℕ = text_at (take i places) bytes in
    let block : List ℕ = bytes_at bytes p in
    let len : length block ≡ p.len = block_len bytes places i d lie lt in
    let less : min left (length block) ≡ gone = omega arith in
    let part : drop left block ≡ take (p.len - gone) (drop at bytes) =
    drop_min left block ∙ (ap (λ k. drop k block) less
    ∙ (part_of_block bytes p gone (omega arith) ∙ ap (λ k. take (p.len - gone) (drop k bytes)) (sym at_is))) in
    let whole : drop s (text_at (take (i + 1) places) bytes) ≡ drop s text ++ drop (s - length text) block =
    ap (drop s) (text_more bytes places i d lt) ∙ drop_append s text block in
    append_assoc output (drop s text) (take (p.len - gone) (drop at bytes))
    ∙ ap (λ l. output ++ l) (ap (λ l. drop s text ++ l) (sym part ∙ ap (λ k. drop k block) left_is) ∙ sym whole)

-- what went out of the first blocks went out of all
pub blocks_out : {start now : Option (List ℕ)} {sent : ℕ} (bytes output : List ℕ) (places : List Place) (s n : ℕ)
    → WentOut start (output ++ drop s (text_at (take n places) bytes)) now sent
    → WentOut start (output ++ drop s (text_at places bytes)) now sent
blocks_out {start} {now} {sent} bytes output places s n out =
    let text : List ℕ = text_at (take n places) bytes in
    let rest : List ℕ = text_at (drop n places) bytes in
    let all : text_at places bytes ≡ text ++ rest =
    ap (λ (ps : List Place). text_at ps bytes) (sym (take-append-drop n places))
    ∙ flat_map-append (bytes_at bytes) (take n places) (drop n places) in
    let whole : drop s (text_at places bytes) ≡ drop s text ++ drop (s - length text) rest =
    ap (drop s) all ∙ drop_append s text rest in
    same_out (append_assoc output (drop s text) (drop (s - length text) rest) ∙ ap (λ l. output ++ l) (sym whole))
    (went_out_of_longer start now (output ++ drop s text) (drop (s - length text) rest) sent out)

len_more : (places : List Place) (i : ℕ) (d : Place) → i < length places
    → len_of (take (i + 1) places) ≡ len_of (take i places) + (get_or places i d).len
len_more places i d lt = sum_by_more (λ (p : Place). p.len) places i d lt

-- ---- a buffer that is filled with blocks

-- as many bytes of a block as there is room for
front_of_block : (bytes : List ℕ) (p : Place) (room : ℕ)
    → take room (bytes_at bytes p) ≡ take (min p.len room) (drop p.start bytes)
front_of_block bytes p room = elim (cases_lt p.len room) [
  | inl less ↦
      let e : min p.len room ≡ p.len = omega arith in
      let short : length (bytes_at bytes p) ≤ room = omega (arith, length-take p.len (drop p.start bytes)) in
      take_past room (bytes_at bytes p) short ∙ ap (λ n. take n (drop p.start bytes)) (sym e)
  | inr more ↦
      let e : min p.len room ≡ room = omega arith in
      let le : room ≤ p.len = omega arith in
      take-take room p.len (drop p.start bytes) le ∙ ap (λ n. take n (drop p.start bytes)) (sym e)
]

-- one block more
pub front_more : (bytes : List ℕ) (places : List Place) (i n filled : ℕ) (d : Place) (front : List ℕ)
    → i < length places → front ≡ take n (text_at (take i places) bytes)
    → filled ≡ min n (length (text_at (take i places) bytes))
    → front ++ take (min (get_or places i d).len (n - filled)) (drop (get_or places i d).start bytes)
    ≡ take n (text_at (take (i + 1) places) bytes)
front_more bytes places i n filled d front lt is count =
    let p : Place = get_or places i d in
    let text : List ℕ = text_at (take i places) bytes in
    let room : n - filled ≡ n - length text = omega arith in
    ap (λ l. l ++ take (min p.len (n - filled)) (drop p.start bytes)) is
    ∙ (ap (λ k. take n text ++ take (min p.len k) (drop p.start bytes)) room
    ∙ (ap (λ l. take n text ++ l) (sym (front_of_block bytes p (n - length text)))
    ∙ (sym (take_append n text (bytes_at bytes p)) ∙ ap (take n) (sym (text_more bytes places i d lt)))))

-- a part of a buffer has as many elements as asked for
pub mid_length : (buf : List ℕ) (filled k : ℕ) → filled + k ≤ length buf → length (mid_of filled k buf) ≡ k
mid_length buf filled k more = omega (arith, length-take k (drop filled buf), length-drop filled buf)

-- the front of a buffer that got one part more
pub filled_front : (buf part : List ℕ) (filled k : ℕ) → filled ≤ length buf → length part ≡ k
    → take (filled + k) (put_mid filled k buf part) ≡ take filled buf ++ part
filled_front buf part filled k within size =
    let e : filled + k ≡ filled + length part = omega arith in
    take-put_mid filled k buf part (filled + k) e within

-- ---- what is asked of the source

-- a part of the block at i was read
pub read_more : (places : List Place) (i at n : ℕ) (d : Place) (old mid new : SeenSource) → i < length places
    → (get_or places i d).start ≤ at → at + n ≤ (get_or places i d).start + (get_or places i d).len
    → ReadsPlaces places (len_of (take i places)) old mid → ReadsRange at n mid new
    → ReadsPlaces places (len_of (take (i + 1) places)) old new
read_more places i at n d old mid new lt following before has filled =
    let inside : (q : ℕ) → IsInRange at n q → IsInOne places q =
    λ q in_. (get_or places i d, All-contains_itself places i d lt, omega (arith, in_.0), omega (arith, in_.1)) in
    let part : ReadsPlaces places n mid new = reads_within inside (omega arith) filled in
    reads_within (λ q in_. in_) (omega (arith, len_more places i d lt)) (reads_both has part)

pub read_no_more : (places : List Place) (most more : ℕ) (old new : SeenSource) → most ≤ more
    → ReadsPlaces places most old new → ReadsPlaces places more old new
read_no_more places most more old new le has = reads_within (λ q in_. in_) le has

-- what was read of the first blocks was read of all
pub len_front : (places : List Place) (n : ℕ) → len_of (take n places) ≤ len_of places
len_front places n = sum_by-take-le (λ (p : Place). p.len) places n

-- Bits of bytes, and numbers of five bits.
use Rattle.std.proofs.Common.{◌≡◌, ℕ, ◌+◌, ◌*◌, ◌/◌, ◌%◌, ◌<◌, ◌≤◌, true, false, ◌&&◌, get_or, take, drop, length, List, [], ◌∷◌, ◌++◌, Some, None, refl, ap, subst, arith, sym, ◌∙◌}
use Rattle.std.specs.List.{list_all}
use Rattle.std.proofs.lemmas.Slice.Eq.{text_from_reads}
use Rattle.std.proofs.lemmas.Grind.{common_steps}
use Rattle.std.proofs.lemmas.List.{take-append-le, take-append-drop, length-take-le, length-drop, append_assoc, append-nil, take_all, drop_all}
use Rattle.std.proofs.lemmas.List.Folds.{list_all-append}
use Rattle.std.proofs.Math.Seq.{take-add, drop-drop, take-append-add, take-length}
use Rattle.warc_value.specs.Base32.{bits_of, number_of_bits, fives, eights, symbol_of, symbol_value, is_symbol, base32_of, bytes_of, decoded_of, unbase32_of}

first-five : (a : ℕ) → a < 256 → a / 128 % 2 * 16 + (a / 64 % 2 * 8 + (a / 32 % 2 * 4 + (a / 16 % 2 * 2 + (a / 8 % 2 * 1 + 0)))) ≡ a / 8
first-five a h = omega arith

three-two : (a b : ℕ) → b < 256 → a / 4 % 2 * 16 + (a / 2 % 2 * 8 + (a / 1 % 2 * 4 + (b / 128 % 2 * 2 + (b / 64 % 2 * 1 + 0)))) ≡ a % 8 * 4 + b / 64
three-two a b h = omega arith

middle-five : (b : ℕ) → b / 32 % 2 * 16 + (b / 16 % 2 * 8 + (b / 8 % 2 * 4 + (b / 4 % 2 * 2 + (b / 2 % 2 * 1 + 0)))) ≡ b / 2 % 32
middle-five b = omega arith

one-four : (b c : ℕ) → c < 256 → b / 1 % 2 * 16 + (c / 128 % 2 * 8 + (c / 64 % 2 * 4 + (c / 32 % 2 * 2 + (c / 16 % 2 * 1 + 0)))) ≡ b % 2 * 16 + c / 16
one-four b c h = omega arith

four-one : (c d : ℕ) → d < 256 → c / 8 % 2 * 16 + (c / 4 % 2 * 8 + (c / 2 % 2 * 4 + (c / 1 % 2 * 2 + (d / 128 % 2 * 1 + 0)))) ≡ c % 16 * 2 + d / 128
four-one c d h = omega arith

later-five : (d : ℕ) → d / 64 % 2 * 16 + (d / 32 % 2 * 8 + (d / 16 % 2 * 4 + (d / 8 % 2 * 2 + (d / 4 % 2 * 1 + 0)))) ≡ d / 4 % 32
later-five d = omega arith

two-three : (d e : ℕ) → e < 256 → d / 2 % 2 * 16 + (d / 1 % 2 * 8 + (e / 128 % 2 * 4 + (e / 64 % 2 * 2 + (e / 32 % 2 * 1 + 0)))) ≡ d % 4 * 8 + e / 32
two-three d e h = omega arith

last-five : (e : ℕ) → e / 16 % 2 * 16 + (e / 8 % 2 * 8 + (e / 4 % 2 * 4 + (e / 2 % 2 * 2 + (e / 1 % 2 * 1 + 0)))) ≡ e % 32
last-five e = omega arith

pub same-eight : (f : ℕ → ℕ) (rest : List ℕ) {a b c d e g h i a' b' c' d' e' g' h' i' : ℕ} → a ≡ a' → b ≡ b' → c ≡ c' → d ≡ d' → e ≡ e' → g ≡ g' → h ≡ h' → i ≡ i'
    → f a ∷ f b ∷ f c ∷ f d ∷ f e ∷ f g ∷ f h ∷ f i ∷ rest ≡ f a' ∷ f b' ∷ f c' ∷ f d' ∷ f e' ∷ f g' ∷ f h' ∷ f i' ∷ rest
same-eight f rest p q r s t u v w = cc

pub five_items : (xs : List ℕ) → length xs ≡ 5 → xs ≡ get_or xs 0 0 ∷ get_or xs 1 0 ∷ get_or xs 2 0 ∷ get_or xs 3 0 ∷ get_or xs 4 0 ∷ []
five_items xs h = text_from_reads xs _ h (refl, (refl, (refl, (refl, (refl, tt)))))

-- five bytes before others, as eight characters before the others'
pub base32_of-group : (a b c d e : ℕ) (rest : List ℕ) → a < 256 → b < 256 → c < 256 → d < 256 → e < 256
    → base32_of (a ∷ b ∷ c ∷ d ∷ e ∷ rest)
    ≡ symbol_of (a / 8) ∷ symbol_of (a % 8 * 4 + b / 64) ∷ symbol_of (b / 2 % 32) ∷ symbol_of (b % 2 * 16 + c / 16)
    ∷ symbol_of (c % 16 * 2 + d / 128) ∷ symbol_of (d / 4 % 32) ∷ symbol_of (d % 4 * 8 + e / 32) ∷ symbol_of (e % 32) ∷ base32_of rest
unfolding base32_of fives bits_of number_of_bits
base32_of-group a b c d e rest ha hb hc hd he =
    same-eight symbol_of (base32_of rest) (first-five a ha) (three-two a b hb) (middle-five b) (one-four b c hc) (four-one c d hd) (later-five d) (two-three d e he) (last-five e)

-- five bytes as eight characters
pub base32_of-five : (xs : List ℕ) → length xs ≡ 5 → ((k : ℕ) → get_or xs k 0 < 256)
    → symbol_of (get_or xs 0 0 / 8) ∷ symbol_of (get_or xs 0 0 % 8 * 4 + get_or xs 1 0 / 64) ∷ symbol_of (get_or xs 1 0 / 2 % 32) ∷ symbol_of (get_or xs 1 0 % 2 * 16 + get_or xs 2 0 / 16)
    ∷ symbol_of (get_or xs 2 0 % 16 * 2 + get_or xs 3 0 / 128) ∷ symbol_of (get_or xs 3 0 / 4 % 32) ∷ symbol_of (get_or xs 3 0 % 4 * 8 + get_or xs 4 0 / 32) ∷ symbol_of (get_or xs 4 0 % 32) ∷ []
    ≡ base32_of xs
unfolding base32_of fives
base32_of-five xs e h = rw (five_items xs e) (sym (base32_of-group _ _ _ _ _ [] (h 0) (h 1) (h 2) (h 3) (h 4)))

-- a group before others
pub base32_of-append : (xs ys : List ℕ) → length xs ≡ 5 → base32_of (xs ++ ys) ≡ base32_of xs ++ base32_of ys
unfolding base32_of fives bits_of number_of_bits
base32_of-append xs ys e = rw (five_items xs e) refl

-- the front of the text with a group put after its first part
front-put : (a : ℕ) (text group rest : List ℕ) → a ≤ length text → length group ≡ 8 → take (a + 8) (take a text ++ (group ++ rest)) ≡ take a text ++ group
front-put a text group rest within long =
    let e : length (take a text) ≡ a = length-take-le a text within in
    let f : take (length (take a text) + 8) (take a text ++ (group ++ rest)) ≡ take a text ++ take 8 (group ++ rest) = take-append-add (take a text) (group ++ rest) 8 in
    let g : take 8 (group ++ rest) ≡ take 8 group = take-append-le 8 group rest (omega arith) in
    let h : take 8 group ≡ group = rw (← long) (take-length group) in
    grind (arith, common_steps)

-- one more group is encoded
pub encoded-more : (a b k m a' b' : ℕ) (text bytes group whole : List ℕ) → a' ≡ a + 8 → k ≡ 8 → b' ≡ b + 5 → m ≡ 5
    → a + 8 ≤ length text → b + 5 ≤ length bytes → length group ≡ 8 → group ≡ base32_of (take m (drop b bytes))
    → take a text ++ base32_of (drop b bytes) ≡ whole
    → take a' (take a text ++ (group ++ drop k (drop a text))) ++ base32_of (drop b' bytes) ≡ whole
encoded-more a b k m a' b' text bytes group whole ea ek eb em within inside long is before =
    let e1 : take (a + 8) (take a text ++ (group ++ drop k (drop a text))) ≡ take a text ++ group = front-put a text group (drop k (drop a text)) (omega arith) long in
    let five : List ℕ = take 5 (drop b bytes) in
    let e2 : five ++ drop 5 (drop b bytes) ≡ drop b bytes = take-append-drop 5 (drop b bytes) in
    let e3 : drop 5 (drop b bytes) ≡ drop (b + 5) bytes = drop-drop 5 b bytes in
    let short : length five ≡ 5 = length-take-le 5 (drop b bytes) (simp length-drop (omega arith)) in
    let e4 : base32_of (five ++ drop 5 (drop b bytes)) ≡ base32_of five ++ base32_of (drop 5 (drop b bytes)) = base32_of-append five (drop 5 (drop b bytes)) short in
    let e5 : (take a text ++ base32_of five) ++ base32_of (drop (b + 5) bytes) ≡ take a text ++ (base32_of five ++ base32_of (drop (b + 5) bytes)) = append_assoc (take a text) (base32_of five) (base32_of (drop (b + 5) bytes)) in
    cc

-- all of it is encoded
pub encoded-whole : (text bytes : List ℕ) (a b : ℕ) → length text ≤ a → length bytes ≤ b → take a text ++ base32_of (drop b bytes) ≡ base32_of bytes → text ≡ base32_of bytes
unfolding base32_of fives
encoded-whole text bytes a b ha hb e =
    let f : take a text ≡ text = take_all a text ha in
    let g : drop b bytes ≡ [] = drop_all b bytes hb in
    sym f ∙ sym (append-nil (take a text)) ∙ ap (λ (xs : List ℕ). take a text ++ base32_of xs) (sym g) ∙ e

-- Eight numbers of five bits are five bytes.
first-byte : (a b : ℕ) → a < 32 → b < 32 → a / 16 % 2 * 128 + (a / 8 % 2 * 64 + (a / 4 % 2 * 32 + (a / 2 % 2 * 16 + (a / 1 % 2 * 8 + (b / 16 % 2 * 4 + (b / 8 % 2 * 2 + (b / 4 % 2 * 1 + 0))))))) ≡ a * 8 + b / 4
first-byte a b ha hb = omega arith

second-byte : (b c d : ℕ) → c < 32 → d < 32 → b / 2 % 2 * 128 + (b / 1 % 2 * 64 + (c / 16 % 2 * 32 + (c / 8 % 2 * 16 + (c / 4 % 2 * 8 + (c / 2 % 2 * 4 + (c / 1 % 2 * 2 + (d / 16 % 2 * 1 + 0))))))) ≡ b % 4 * 64 + c * 2 + d / 16
second-byte b c d hc hd = omega arith

third-byte : (d e : ℕ) → e < 32 → d / 8 % 2 * 128 + (d / 4 % 2 * 64 + (d / 2 % 2 * 32 + (d / 1 % 2 * 16 + (e / 16 % 2 * 8 + (e / 8 % 2 * 4 + (e / 4 % 2 * 2 + (e / 2 % 2 * 1 + 0))))))) ≡ d % 16 * 16 + e / 2
third-byte d e he = omega arith

fourth-byte : (e f g : ℕ) → f < 32 → g < 32 → e / 1 % 2 * 128 + (f / 16 % 2 * 64 + (f / 8 % 2 * 32 + (f / 4 % 2 * 16 + (f / 2 % 2 * 8 + (f / 1 % 2 * 4 + (g / 16 % 2 * 2 + (g / 8 % 2 * 1 + 0))))))) ≡ e % 2 * 128 + f * 4 + g / 8
fourth-byte e f g hf hg = omega arith

fifth-byte : (g h : ℕ) → h < 32 → g / 4 % 2 * 128 + (g / 2 % 2 * 64 + (g / 1 % 2 * 32 + (h / 16 % 2 * 16 + (h / 8 % 2 * 8 + (h / 4 % 2 * 4 + (h / 2 % 2 * 2 + (h / 1 % 2 * 1 + 0))))))) ≡ g % 8 * 32 + h
fifth-byte g h hh = omega arith

pub same-five : (rest : List ℕ) {a b c d e a' b' c' d' e' : ℕ} → a ≡ a' → b ≡ b' → c ≡ c' → d ≡ d' → e ≡ e' → a ∷ b ∷ c ∷ d ∷ e ∷ rest ≡ a' ∷ b' ∷ c' ∷ d' ∷ e' ∷ rest
same-five rest p q r s t = cc

pub eight_items : (xs : List ℕ) → length xs ≡ 8 → xs ≡ get_or xs 0 0 ∷ get_or xs 1 0 ∷ get_or xs 2 0 ∷ get_or xs 3 0 ∷ get_or xs 4 0 ∷ get_or xs 5 0 ∷ get_or xs 6 0 ∷ get_or xs 7 0 ∷ []
eight_items xs h = text_from_reads xs _ h (refl, (refl, (refl, (refl, (refl, (refl, (refl, (refl, tt))))))))

bytes_of-nil : bytes_of [] ≡ []
unfolding bytes_of eights
bytes_of-nil = refl

-- eight characters with their values before others, as five bytes before the others'
pub bytes_of-group : (p q r s t u v w a b c d e f g h : ℕ) (rest : List ℕ)
    → symbol_value p ≡ Some a → symbol_value q ≡ Some b → symbol_value r ≡ Some c → symbol_value s ≡ Some d
    → symbol_value t ≡ Some e → symbol_value u ≡ Some f → symbol_value v ≡ Some g → symbol_value w ≡ Some h
    → a < 32 → b < 32 → c < 32 → d < 32 → e < 32 → f < 32 → g < 32 → h < 32
    → bytes_of (p ∷ q ∷ r ∷ s ∷ t ∷ u ∷ v ∷ w ∷ rest) ≡ (a * 8 + b / 4) ∷ (b % 4 * 64 + c * 2 + d / 16) ∷ (d % 16 * 16 + e / 2) ∷ (e % 2 * 128 + f * 4 + g / 8) ∷ (g % 8 * 32 + h) ∷ bytes_of rest
unfolding bytes_of eights bits_of number_of_bits
bytes_of-group p q r s t u v w a b c d e f g h rest va vb vc vd ve vf vg vh ha hb hc hd he hf hg hh =
    rw (va, vb, vc, vd, ve, vf, vg, vh)
    (same-five (bytes_of rest) (first-byte a b ha hb) (second-byte b c d hc hd) (third-byte d e he) (fourth-byte e f g hf hg) (fifth-byte g h hh))

decoded-chars : (p q r s t u v w a b c d e f g h : ℕ)
    → symbol_value p ≡ Some a → symbol_value q ≡ Some b → symbol_value r ≡ Some c → symbol_value s ≡ Some d
    → symbol_value t ≡ Some e → symbol_value u ≡ Some f → symbol_value v ≡ Some g → symbol_value w ≡ Some h
    → a < 32 → b < 32 → c < 32 → d < 32 → e < 32 → f < 32 → g < 32 → h < 32
    → decoded_of (p ∷ q ∷ r ∷ s ∷ t ∷ u ∷ v ∷ w ∷ []) ≡ Some ((a * 8 + b / 4) ∷ (b % 4 * 64 + c * 2 + d / 16) ∷ (d % 16 * 16 + e / 2) ∷ (e % 2 * 128 + f * 4 + g / 8) ∷ (g % 8 * 32 + h) ∷ [])
decoded-chars p q r s t u v w a b c d e f g h va vb vc vd ve vf vg vh ha hb hc hd he hf hg hh =
    rw (va, vb, vc, vd, ve, vf, vg, vh, bytes_of-group p q r s t u v w a b c d e f g h [] va vb vc vd ve vf vg vh ha hb hc hd he hf hg hh, bytes_of-nil) refl

-- eight characters with their values, as five bytes
pub decoded_of-eight : (xs : List ℕ) (a b c d e f g h : ℕ) → length xs ≡ 8
    → symbol_value (get_or xs 0 0) ≡ Some a → symbol_value (get_or xs 1 0) ≡ Some b → symbol_value (get_or xs 2 0) ≡ Some c → symbol_value (get_or xs 3 0) ≡ Some d
    → symbol_value (get_or xs 4 0) ≡ Some e → symbol_value (get_or xs 5 0) ≡ Some f → symbol_value (get_or xs 6 0) ≡ Some g → symbol_value (get_or xs 7 0) ≡ Some h
    → a < 32 → b < 32 → c < 32 → d < 32 → e < 32 → f < 32 → g < 32 → h < 32
    → Some ((a * 8 + b / 4) ∷ (b % 4 * 64 + c * 2 + d / 16) ∷ (d % 16 * 16 + e / 2) ∷ (e % 2 * 128 + f * 4 + g / 8) ∷ (g % 8 * 32 + h) ∷ []) ≡ decoded_of xs
decoded_of-eight xs a b c d e f g h long va vb vc vd ve vf vg vh ha hb hc hd he hf hg hh =
    sym (ap (λ (ys : List ℕ). decoded_of ys) (eight_items xs long) ∙ decoded-chars _ _ _ _ _ _ _ _ a b c d e f g h va vb vc vd ve vf vg vh ha hb hc hd he hf hg hh)

-- a group of characters before others
decoded-append : (xs ys : List ℕ) → length xs ≡ 8 → bytes_of (xs ++ ys) ≡ bytes_of xs ++ bytes_of ys
unfolding bytes_of eights bits_of number_of_bits
decoded-append xs ys e = rw (eight_items xs e) refl

-- the front of the bytes with a group put after its first part
front-put-five : (a : ℕ) (bytes group rest : List ℕ) → a ≤ length bytes → length group ≡ 5 → take (a + 5) (take a bytes ++ (group ++ rest)) ≡ take a bytes ++ group
front-put-five a bytes group rest within long =
    let e : length (take a bytes) ≡ a = length-take-le a bytes within in
    let f : take (length (take a bytes) + 5) (take a bytes ++ (group ++ rest)) ≡ take a bytes ++ take 5 (group ++ rest) = take-append-add (take a bytes) (group ++ rest) 5 in
    let g : take 5 (group ++ rest) ≡ take 5 group = take-append-le 5 group rest (omega arith) in
    let h : take 5 group ≡ group = rw (← long) (take-length group) in
    grind (arith, common_steps)

decoded_parts : (xs bytes : List ℕ) → Some bytes ≡ decoded_of xs → (list_all is_symbol xs ≡ true) × (bytes_of xs ≡ bytes)
decoded_parts xs bytes e = grind (arith, common_steps)

-- one more group is decoded
pub decoded-more : (a b k m a' b' : ℕ) (text bytes group whole : List ℕ) → a' ≡ a + 8 → k ≡ 8 → b' ≡ b + 5 → m ≡ 5
    → a + 8 ≤ length text → b + 5 ≤ length bytes → length group ≡ 5 → Some group ≡ decoded_of (take k (drop a text))
    → take b bytes ++ bytes_of (drop a text) ≡ whole
    → take b' (take b bytes ++ (group ++ drop m (drop b bytes))) ++ bytes_of (drop a' text) ≡ whole
decoded-more a b k m a' b' text bytes group whole ea ek eb em within inside long is before =
    let e1 : take (b + 5) (take b bytes ++ (group ++ drop m (drop b bytes))) ≡ take b bytes ++ group = front-put-five b bytes group (drop m (drop b bytes)) (omega arith) long in
    let eight : List ℕ = take 8 (drop a text) in
    let same : take k (drop a text) ≡ eight = ap (λ (n : ℕ). take n (drop a text)) ek in
    let part = decoded_parts (take k (drop a text)) group is in
    let e2 : eight ++ drop 8 (drop a text) ≡ drop a text = take-append-drop 8 (drop a text) in
    let e3 : drop 8 (drop a text) ≡ drop (a + 8) text = drop-drop 8 a text in
    let short : length eight ≡ 8 = length-take-le 8 (drop a text) (simp length-drop (omega arith)) in
    let e4 : bytes_of (eight ++ drop 8 (drop a text)) ≡ bytes_of eight ++ bytes_of (drop 8 (drop a text)) = decoded-append eight (drop 8 (drop a text)) short in
    let e5 : (take b bytes ++ bytes_of eight) ++ bytes_of (drop (a + 8) text) ≡ take b bytes ++ (bytes_of eight ++ bytes_of (drop (a + 8) text)) = append_assoc (take b bytes) (bytes_of eight) (bytes_of (drop (a + 8) text)) in
    let e6 : bytes_of eight ≡ group = subst (λ (n : ℕ). bytes_of (take n (drop a text)) ≡ group) ek part.1 in
    cc

-- the characters of one more group mean something
pub symbols-more : (a k a' : ℕ) (text group : List ℕ) → a' ≡ a + 8 → k ≡ 8 → list_all is_symbol (take a text) ≡ true → Some group ≡ decoded_of (take k (drop a text)) → list_all is_symbol (take a' text) ≡ true
symbols-more a k a' text group ea ek before is =
    let part = decoded_parts (take k (drop a text)) group is in
    let last : list_all is_symbol (take 8 (drop a text)) ≡ true = subst (λ (n : ℕ). list_all is_symbol (take n (drop a text)) ≡ true) ek part.0 in
    let e : take (a + 8) text ≡ take a text ++ take 8 (drop a text) = take-add a 8 text in
    let f : list_all is_symbol (take a text ++ take 8 (drop a text)) ≡ (list_all is_symbol (take a text) && list_all is_symbol (take 8 (drop a text))) = list_all-append is_symbol (take a text) (take 8 (drop a text)) in
    rw (ea, e, f, before, last) refl

-- all of it is decoded
pub decoded-whole : (text bytes : List ℕ) (a b : ℕ) → length text ≡ 32 → 32 ≤ a → length bytes ≤ b → list_all is_symbol (take a text) ≡ true
    → take b bytes ++ bytes_of (drop a text) ≡ bytes_of text → Some bytes ≡ unbase32_of text
decoded-whole text bytes a b long ha hb all e =
    let f : take a text ≡ text = take_all a text (omega arith) in
    let g : drop a text ≡ [] = drop_all a text (omega arith) in
    let h : take b bytes ≡ bytes = take_all b bytes hb in
    let i : list_all is_symbol text ≡ true = subst (λ (xs : List ℕ). list_all is_symbol xs ≡ true) f all in
    let j : bytes ≡ bytes_of text = sym h ∙ sym (append-nil (take b bytes)) ∙ ap (λ (xs : List ℕ). take b bytes ++ xs) (sym bytes_of-nil ∙ ap (λ (xs : List ℕ). bytes_of xs) (sym g)) ∙ e in
    rw (long, i) (ap (λ (xs : List ℕ). Some xs) j)

-- a group that means nothing
pub none-decoded : (text : List ℕ) (a k : ℕ) → None ≡ decoded_of (take k (drop a text)) → None ≡ unbase32_of text
none-decoded text a k is =
    let bad : list_all is_symbol (take k (drop a text)) ≡ false = grind (arith, common_steps) in
    let e : list_all is_symbol (take k (drop a text) ++ drop k (drop a text)) ≡ (list_all is_symbol (take k (drop a text)) && list_all is_symbol (drop k (drop a text))) = list_all-append is_symbol (take k (drop a text)) (drop k (drop a text)) in
    let f : take k (drop a text) ++ drop k (drop a text) ≡ drop a text = take-append-drop k (drop a text) in
    let g : list_all is_symbol (take a text ++ drop a text) ≡ (list_all is_symbol (take a text) && list_all is_symbol (drop a text)) = list_all-append is_symbol (take a text) (drop a text) in
    let h : take a text ++ drop a text ≡ text = take-append-drop a text in
    let i : list_all is_symbol (drop a text) ≡ false = grind (arith, common_steps) in
    let j : list_all is_symbol text ≡ false = grind (arith, common_steps) in
    grind (arith, common_steps)

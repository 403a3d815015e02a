-- What is read is spelled so, and what is spelled so is read.
use Rattle.std.specs.Prelude.{option_map}
use Rattle.std.proofs.Common.{◌≡◌, cond, ℕ, suc, ◌+◌, ◌<◌, Bool, true, false, not, ◌&&◌, List, [], ◌∷◌, ◌++◌, Option, Some, None, Result, Ok, Err, length, length-append, subst, take, drop, get_or, append_assoc, refl, sym, ap, ◌∙◌, arith, ⊎_elim}
use Rattle.std.specs.List.{flat_map, list_all, position, position_or_len}
use Rattle.std.proofs.lemmas.Bool.{false≢true, and_parts, and_from, eqb-true, lt-ltb}
use Rattle.std.proofs.lemmas.Option.{option_and_then_some, cond_some}
use Rattle.std.proofs.lemmas.List.Folds.{list_all-append}
use Rattle.std.proofs.lemmas.List.Quantifiers.{position-Some}
use Rattle.std.proofs.lemmas.Grind.{common_steps}
use Rattle.warc_field.specs.Text.{is_blank, is_name, is_name_byte, is_value_byte}
use Rattle.warc_field.specs.Lines.{parts, lines, is_crlf, in_front, begins_blank, unfolded, joined_parts, continued}
use Rattle.warc_field.specs.Area.{Pair, is_colon, field_of, value_of, fields_of, field_then, with_front, SpellsFields, area_of}
use Rattle.warc_field.proofs.LineLemmas.{parts-nil, parts-one, parts-crlf, parts-more, parts-cons, lines-nil, lines-one, lines-ends, lines-more, lines-cons, ends, crlf_bytes, true_or_false, not_true, and_false_left, begins_blank-first, first, continued-other}
use Rattle.warc_field.proofs.TextLemmas.{trimmed_hides_none, means_value-value_of, value_of-means_value}
use Rattle.warc_field.proofs.AreaLemmas.{fields_of-line, fields_of-end}

pub and-false : (v : Bool) → (v && false) ≡ false
and-false true = refl
and-false false = refl

ten : (n : ℕ) → n ≡ 10 → n ≡ 13 → ⊥
ten n a b = omega arith

pub colon_no_cr : (n : ℕ) → n ≡ 58 → n ≡ 13 → ⊥
colon_no_cr n a b = omega arith

parts-keep : (b : ℕ) (t : List ℕ) → (b ≡ 13 → ⊥) → parts (b ∷ t) ≡ in_front b (parts t)
parts-keep b [] ne = parts-one b ∙ sym (ap (in_front b) parts-nil)
parts-keep b (c ∷ bs) ne = parts-more b c bs (and_false_left _ _ (not_true _ (λ is. ne (eqb-true b 13 is))))

-- the parts after the first
unfoldable pub later : List (List ℕ) → List (List ℕ)
later [] = []
later (p ∷ ps) = ps

later-in_front : (b : ℕ) (ps : List (List ℕ)) → later (in_front b ps) ≡ later ps
unfolding later
later-in_front b [] = refl
later-in_front b (p ∷ ps) = refl

-- each CRLF in the text has a space or tab after it
abbrev pub AllFold : List ℕ → Type 0
AllFold t = list_all begins_blank (later (parts t)) ≡ true

pub begins_blank-append : (xs ys : List ℕ) → begins_blank xs ≡ true → begins_blank (xs ++ ys) ≡ true
begins_blank-append [] ys h = cc
begins_blank-append (x ∷ xs) ys h = h

all-first : (ps : List (List ℕ)) → list_all begins_blank ps ≡ true → (p : List ℕ) (qs : List (List ℕ)) → ps ≡ p ∷ qs → begins_blank (first ps) ≡ true
unfolding first
all-first [] h p qs e = cc
all-first (p ∷ ps) h q qs e = (and_parts _ _ h).0

all-rest : (ps : List (List ℕ)) → list_all begins_blank ps ≡ true → list_all begins_blank (later ps) ≡ true
unfolding later
all-rest [] h = refl
all-rest (p ∷ ps) h = (and_parts _ _ h).1

-- after a CRLF in it is a space or tab, and what follows it is such a text too
pub fold-here : (b c : ℕ) (bs : List ℕ) → AllFold (b ∷ c ∷ bs) → is_crlf b c ≡ true → begins_blank bs ≡ true
unfolding later
fold-here b c bs f cr =
    let all : list_all begins_blank (parts bs) ≡ true = ap (λ ps. list_all begins_blank (later ps)) (sym (parts-crlf b c bs cr)) ∙ f in
    let cut = parts-cons bs in
    sym (begins_blank-first bs) ∙ all-first (parts bs) all cut.0 cut.1 cut.2

pub fold-rest : (b c : ℕ) (bs : List ℕ) → AllFold (b ∷ c ∷ bs) → AllFold (c ∷ bs)
unfolding later
fold-rest b c bs f = ⊎_elim
    (λ cr.
    let all : list_all begins_blank (parts bs) ≡ true = ap (λ ps. list_all begins_blank (later ps)) (sym (parts-crlf b c bs cr)) ∙ f in
    ap (list_all begins_blank) (ap later (parts-keep c bs (λ e. ten c (crlf_bytes b c cr).1 e)) ∙ later-in_front c (parts bs)) ∙ all-rest (parts bs) all)
    (λ more. sym (ap (list_all begins_blank) (ap later (parts-more b c bs more) ∙ later-in_front b (parts (c ∷ bs)))) ∙ f)
    (true_or_false (is_crlf b c))

-- the first line of a text that begins with a rest and a CRLF
pub lines-cut : (t more : List ℕ) → AllFold t → begins_blank more ≡ false → lines (t ++ 13 ∷ 10 ∷ more) ≡ t ∷ lines more
unfolding later
lines-cut [] more f h = lines-ends 13 10 more (rw h)
lines-cut (b ∷ []) more f h = lines-more b 13 (10 ∷ more) (and_false_left _ _ (and-false _)) ∙ ap (in_front b) (lines-ends 13 10 more (rw h))
lines-cut (b ∷ c ∷ bs) more f h =
    let inside : ends b c (bs ++ 13 ∷ 10 ∷ more) ≡ false = ⊎_elim
    (λ cr. ap (λ v. is_crlf b c && not v) (begins_blank-append bs (13 ∷ 10 ∷ more) (fold-here b c bs f cr)) ∙ and-false _)
    (λ other. and_false_left _ _ other)
    (true_or_false (is_crlf b c)) in
    lines-more b c (bs ++ 13 ∷ 10 ∷ more) inside ∙ ap (in_front b) (lines-cut (c ∷ bs) more (fold-rest b c bs f) h)

-- a byte that is no CR is before the first line
pub lines-keep : (b : ℕ) (t : List ℕ) → (b ≡ 13 → ⊥) → lines (b ∷ t) ≡ in_front b (lines t)
lines-keep b [] ne = lines-one b ∙ sym (ap (in_front b) lines-nil)
lines-keep b (c ∷ bs) ne = lines-more b c bs (and_false_left _ _ (and_false_left _ _ (not_true _ (λ is. ne (eqb-true b 13 is)))))

pub lines-before : (xs t p : List ℕ) (ps : List (List ℕ)) → ((x : ℕ) → is_name_byte x ≡ true → x ≡ 13 → ⊥) → list_all is_name_byte xs ≡ true → lines t ≡ p ∷ ps → lines (xs ++ t) ≡ (xs ++ p) ∷ ps
lines-before [] t p ps ne all e = e
lines-before (x ∷ xs) t p ps ne all e =
    let both = and_parts _ _ all in
    lines-keep x (xs ++ t) (ne x both.0) ∙ ap (in_front x) (lines-before xs t p ps ne both.1 e)

-- a text of two lines or more
pub lines-uncut : (t line next : List ℕ) (rest : List (List ℕ)) → lines t ≡ line ∷ next ∷ rest → (more : List ℕ) × (t ≡ line ++ 13 ∷ 10 ∷ more) × (lines more ≡ next ∷ rest) × (begins_blank more ≡ false)
lines-uncut [] line next rest e = let no : ([] ∷ []) ≡ line ∷ next ∷ rest = sym lines-nil ∙ e in cc
lines-uncut (b ∷ []) line next rest e = let no : ((b ∷ []) ∷ []) ≡ line ∷ next ∷ rest = sym (lines-one b) ∙ e in cc
lines-uncut (b ∷ c ∷ bs) line next rest e = ⊎_elim
    (λ is.
    let cr = crlf_bytes b c (and_parts _ _ is).0 in
    let cut : ([] ∷ lines bs) ≡ line ∷ next ∷ rest = sym (lines-ends b c bs is) ∙ e in
    let none : [] ≡ line = cc in
    let left : lines bs ≡ next ∷ rest = cc in
    (bs, (ap (λ x. x ∷ c ∷ bs) cr.0 ∙ ap (λ x. 13 ∷ x ∷ bs) cr.1 ∙ ap (λ l. l ++ 13 ∷ 10 ∷ bs) none), left, not_true _ (λ blank. false≢true (sym (ap not blank) ∙ (and_parts _ _ is).1))))
    (λ no.
    let cut = lines-cons (c ∷ bs) in
    let e2 : ((b ∷ cut.0) ∷ cut.1) ≡ line ∷ next ∷ rest = sym (lines-more b c bs no ∙ ap (in_front b) cut.2) ∙ e in
    let front : b ∷ cut.0 ≡ line = cc in
    let back : cut.1 ≡ next ∷ rest = cc in
    let deeper = lines-uncut (c ∷ bs) cut.0 next rest (cut.2 ∙ ap (λ ps. cut.0 ∷ ps) back) in
    (deeper.0, (ap (λ xs. b ∷ xs) deeper.1 ∙ ap (λ l. l ++ 13 ∷ 10 ∷ deeper.0) front), deeper.2, deeper.3))
    (true_or_false (ends b c bs))

pub lines-empty : (t : List ℕ) → lines t ≡ [] ∷ [] → t ≡ []
lines-empty [] e = refl
lines-empty (b ∷ []) e = let no : ((b ∷ []) ∷ []) ≡ [] ∷ [] = sym (lines-one b) ∙ e in cc
lines-empty (b ∷ c ∷ bs) e = ⊎_elim
    (λ is. let cut : ([] ∷ lines bs) ≡ [] ∷ [] = sym (lines-ends b c bs is) ∙ e in let none : lines bs ≡ [] = cc in let some = lines-cons bs in let no : (some.0 ∷ some.1) ≡ [] = sym some.2 ∙ none in cc)
    (λ no. let some = lines-cons (c ∷ bs) in let cut : ((b ∷ some.0) ∷ some.1) ≡ [] ∷ [] = sym (lines-more b c bs no ∙ ap (in_front b) some.2) ∙ e in cc)
    (true_or_false (ends b c bs))

name_not : (n : ℕ) → is_name_byte n ≡ false → (b : ℕ) → is_name_byte b ≡ true → b ≡ n → ⊥
name_not n other b h e = false≢true (sym other ∙ ap is_name_byte (sym e) ∙ h)

name_no_colon : (b : ℕ) → is_name_byte b ≡ true → is_colon b ≡ false
unfolding is_name_byte
name_no_colon b h = not_true _ (λ is. name_not 58 refl b h (eqb-true b 58 is))

pub name_no_cr : (b : ℕ) → is_name_byte b ≡ true → b ≡ 13 → ⊥
unfolding is_name_byte
name_no_cr b h e = name_not 13 refl b h e

pub name_no_blank : (b : ℕ) → is_name_byte b ≡ true → is_blank b ≡ false
unfolding is_name_byte is_blank
name_no_blank b h =
    let space = name_not 32 refl b h in
    let tab = name_not 9 refl b h in
    rw (not_true _ (λ is. space (eqb-true b 32 is)), not_true _ (λ is. tab (eqb-true b 9 is)))

value_byte-cr : is_value_byte 13 ≡ false
unfolding is_value_byte
value_byte-cr = refl

all_continued : (qs : List (List ℕ)) → list_all is_value_byte (flat_map continued qs) ≡ true → list_all begins_blank qs ≡ true
all_continued [] h = refl
all_continued (q ∷ qs) h =
    let both = and_parts _ _ (sym (list_all-append is_value_byte (continued q) (flat_map continued qs)) ∙ h) in
    ⊎_elim
    (λ is. and_from _ _ is (all_continued qs both.1))
    (λ no. let bad : list_all is_value_byte (13 ∷ 10 ∷ q) ≡ true = ap (list_all is_value_byte) (sym (continued-other q no)) ∙ both.0 in absurd (false≢true (sym value_byte-cr ∙ (and_parts _ _ bad).0)))
    (true_or_false (begins_blank q))

all_joined : (ps : List (List ℕ)) → list_all is_value_byte (joined_parts ps) ≡ true → list_all begins_blank (later ps) ≡ true
unfolding later
all_joined [] h = refl
all_joined (p ∷ ps) h = all_continued ps (and_parts _ _ (sym (list_all-append is_value_byte p (flat_map continued ps)) ∙ h)).1

pub value_folds : (rest v : List ℕ) → value_of rest ≡ Some v → AllFold rest
unfolding value_of unfolded
value_folds rest v h = all_joined (parts rest) (trimmed_hides_none (joined_parts (parts rest)) (cond_some _ _ _ h).0)

colon_len : (name rest : List ℕ) → list_all is_name_byte name ≡ true → position_or_len is_colon (name ++ 58 ∷ rest) ≡ length name
colon_len [] rest h = refl
colon_len (b ∷ bs) rest h =
    let e : 1 + length bs ≡ suc (length bs) = omega arith in
    let both = and_parts _ _ h in
    rw (name_no_colon b both.0, colon_len bs rest both.1, e)

first_colon-at : (name rest : List ℕ) → list_all is_name_byte name ≡ true → position is_colon (name ++ 58 ∷ rest) ≡ Some (length name)
first_colon-at name rest h =
    let e = colon_len name rest h in
    let l : length name < length (name ++ 58 ∷ rest) = omega (arith, length-append name (58 ∷ rest)) in
    rw (e, lt-ltb _ _ l)

pub name_bytes : (name : List ℕ) → is_name name ≡ true → list_all is_name_byte name ≡ true
unfolding is_name
name_bytes name n = (and_parts _ _ n).1

after_name : (name : List ℕ) (b : ℕ) (rest : List ℕ) → drop (length name + 1) (name ++ b ∷ rest) ≡ rest
after_name [] b rest = refl
after_name (x ∷ xs) b rest = let e : suc (length xs) + 1 ≡ suc (length xs + 1) = omega arith in rw e (after_name xs b rest)

before_colon : (name more : List ℕ) → take (length name) (name ++ more) ≡ name
before_colon [] more = refl
before_colon (x ∷ xs) more = ap (λ ys. x ∷ ys) (before_colon xs more)

pub field-at : (name rest v : List ℕ) → is_name name ≡ true → value_of rest ≡ Some v → field_of (name ++ 58 ∷ rest) ≡ Some (name, v)
unfolding field_of
field-at name rest v n h = rw (first_colon-at name rest (name_bytes name n), after_name name 58 rest, before_colon name (58 ∷ rest), n, h)

split_at : (t : List ℕ) (k : ℕ) → k < length t → t ≡ take k t ++ get_or t k 0 ∷ drop (k + 1) t
split_at t k h = grind (arith, common_steps)

-- the parts of a test that gives something
cond_some_of : {A : Type 0} (b : Bool) (o : Option A) (x : A) → cond b o None ≡ Some x → (b ≡ true) × (o ≡ Some x)
cond_some_of true o x h = (refl, h)
cond_some_of false o x h = absurd cc

option_map_some : {A B : Type 0} (f : A → B) (o : Option A) (y : B) → option_map f o ≡ Some y → (x : A) × (o ≡ Some x) × (f x ≡ y)
option_map_some f None y h = absurd cc
option_map_some f (Some x) y h = (x, refl, cc)

pub field-is : (line : List ℕ) (field : Pair) → field_of line ≡ Some field → (rest : List ℕ) × (is_name field.0 ≡ true) × (value_of rest ≡ Some field.1) × (line ≡ field.0 ++ 58 ∷ rest)
unfolding field_of
field-is line field h =
    option_and_then_some _ _ _ h (λ k at found.
    let named = cond_some_of _ _ _ found in
    let is = option_map_some _ _ _ named.1 in
    let place = position-Some is_colon line k 0 at in (
      drop (k + 1) line,
      ap (λ (f : Pair). is_name f.0) (sym is.2) ∙ named.0,
      is.1 ∙ ap (λ (f : Pair). Some f.1) is.2,
      split_at line k place.0 ∙ ap (λ b. take k line ++ b ∷ drop (k + 1) line) (eqb-true _ 58 place.1) ∙ ap (λ (f : Pair). f.0 ++ 58 ∷ drop (k + 1) line) is.2,
    ))

pub name_some : (name more : List ℕ) → is_name name ≡ true → begins_blank (name ++ more) ≡ false
unfolding is_name
name_some [] more n = absurd (false≢true n)
name_some (b ∷ bs) more n = name_no_blank b (and_parts (is_name_byte b) _ (name_bytes (b ∷ bs) n)).0

-- a field's line and what follows it
pub regroup : (name rest more : List ℕ) → (name ++ 58 ∷ rest ++ 13 ∷ 10 ∷ []) ++ more ≡ name ++ (58 ∷ rest ++ 13 ∷ 10 ∷ more)
regroup name rest more = append_assoc (name ++ 58 ∷ rest) (13 ∷ 10 ∷ []) more ∙ append_assoc name (58 ∷ rest) (13 ∷ 10 ∷ more)

pub spells-begin : (fields : List Pair) (area : List ℕ) → SpellsFields fields area → begins_blank area ≡ false
spells-begin [] area h = ap begins_blank h
spells-begin (f ∷ fs) area (line, more, is, e, spells) =
    ap begins_blank (e ∙ ap (λ l. l ++ more) is.text ∙ regroup f.0 is.rest more) ∙ name_some f.0 (58 ∷ is.rest ++ 13 ∷ 10 ∷ more) is.name

pub spells-reads : (fields : List Pair) (area : List ℕ) (at : ℕ) → SpellsFields fields area → fields_of at (lines area) ≡ Ok fields
spells-reads [] area at h = ap (λ t. fields_of at (lines t)) h ∙ ap (fields_of at) lines-nil ∙ fields_of-end at
spells-reads (f ∷ fs) area at (line, more, is, e, spells) =
    let rest = is.rest in
    let content = f.0 ++ 58 ∷ rest in
    let text : area ≡ f.0 ++ (58 ∷ rest ++ 13 ∷ 10 ∷ more) = e ∙ ap (λ l. l ++ more) is.text ∙ regroup f.0 rest more in
    let cut : lines (rest ++ 13 ∷ 10 ∷ more) ≡ rest ∷ lines more = lines-cut rest more (value_folds rest f.1 (means_value-value_of rest f.1 is.value)) (spells-begin fs more spells) in
    let colon : lines (58 ∷ rest ++ 13 ∷ 10 ∷ more) ≡ (58 ∷ rest) ∷ lines more = lines-keep 58 (rest ++ 13 ∷ 10 ∷ more) (colon_no_cr 58 refl) ∙ ap (in_front 58) cut in
    ap (λ t. fields_of at (lines t)) text
    ∙ ap (fields_of at) (lines-before f.0 (58 ∷ rest ++ 13 ∷ 10 ∷ more) (58 ∷ rest) (lines more) name_no_cr (name_bytes f.0 is.name) colon)
    ∙ fields_of-line at content more
    ∙ ap (λ o. field_then at o (fields_of (at + length content + 2) (lines more))) (field-at f.0 rest f.1 is.name (means_value-value_of rest f.1 is.value))
    ∙ ap (with_front (f ∷ [])) (spells-reads fs more (at + length content + 2) spells)

field_then-ok : (at : ℕ) (o : Option Pair) (r : Result (List Pair) ℕ) (fields : List Pair) → field_then at o r ≡ Ok fields → (f : Pair) × (fs : List Pair) × (o ≡ Some f) × (r ≡ Ok fs) × (f ∷ fs ≡ fields)
field_then-ok at None r fields h = cc
field_then-ok at (Some f) (Ok fs) fields h = (f, fs, refl, refl, cc)
field_then-ok at (Some f) (Err a) fields h = cc

pub reads-spells : (ls : List (List ℕ)) (area : List ℕ) (at : ℕ) (fields : List Pair) → lines area ≡ ls → fields_of at ls ≡ Ok fields → SpellsFields fields area
unfolding fields_of
reads-spells [] area at fields e h = let some = lines-cons area in let no : (some.0 ∷ some.1) ≡ [] = sym some.2 ∙ e in absurd cc
reads-spells ([] ∷ []) area at fields e h = let none : [] ≡ fields = cc in subst (λ fs. SpellsFields fs area) none (lines-empty area e)
reads-spells ((b ∷ bs) ∷ []) area at fields e h = absurd cc
reads-spells (line ∷ next ∷ rest) area at fields e h =
    let is = field_then-ok at (field_of line) _ fields h in
    let cut = lines-uncut area line next rest e in
    let field = field-is line is.0 is.2 in
    let deeper = reads-spells (next ∷ rest) cut.0 (at + length line + 2) is.1 cut.2 is.3 in
    subst (λ fs. SpellsFields fs area) is.4
    (line ++ 13 ∷ 10 ∷ [], cut.0, record { rest = field.0; name = field.1; value = value_of-means_value field.0 is.0.1 field.2; text = ap (λ l. l ++ 13 ∷ 10 ∷ []) field.3 }, cut.1 ∙ sym (append_assoc line (13 ∷ 10 ∷ []) cut.0), deeper)

-- what the definition of reading gives is exactly the list that the area spells
pub area-spells : (area : List ℕ) (fields : List Pair) → area_of area ≡ Ok fields → SpellsFields fields area
area-spells area fields h = reads-spells (lines area) area 0 fields refl h

pub area-reads : (area : List ℕ) (fields : List Pair) → SpellsFields fields area → area_of area ≡ Ok fields
area-reads area fields h = spells-reads fields area 0 h

pub area-one : (area : List ℕ) (a b : List Pair) → SpellsFields a area → SpellsFields b area → a ≡ b
area-one area a b h k = let e : ◌≡◌ {A = Result (List Pair) ℕ} (Ok a) (Ok b) = sym (area-reads area a h) ∙ area-reads area b k in cc

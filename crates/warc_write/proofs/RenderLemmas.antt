-- Texts put together from pieces.
use Rattle.std.proofs.Common.{◌≡◌, ℕ, ◌+◌, ◌<◌, List, [], ◌∷◌, ◌++◌, length, take, drop, get_or, append_assoc}
use Rattle.std.proofs.Common.{refl, sym, ap, subst, ◌∙◌}
use Rattle.std.proofs.lemmas.Grind.{flat_map-append}
use Rattle.std.proofs.lemmas.List.{append-nil, take_more, take-append-drop}
use Rattle.std.specs.List.{flat_map}
use Rattle.warc_field.specs.Area.{Pair, canonical_line, canonical_fields}
use Rattle.warc_field.specs.Lines.{crlf}
use Rattle.warc_frame.specs.VersionLine.{version_line}
use Rattle.warc_frame.specs.Record.{Record, IsFramed, head_text}
use Rattle.warc_frame.specs.declared.version.Version.{Version}
use Rattle.warc_frame.specs.Spelling.{Spells, SpellsAll, canonical}
use Rattle.warc_write.specs.Rendering.{AllGood, RenderedOpensAsSame, canonical_texts}

-- one more text of a list's elements, and the texts after it
pub texts_more : {X : Type 0} (text : X → List ℕ) (output : List ℕ) (xs : List X) (i : ℕ) (x : X) → i < length xs → x ≡ get_or xs i x
    → (output ++ flat_map text (take i xs)) ++ text x ≡ output ++ flat_map text (take (i + 1) xs)
texts_more text output xs i x lt is =
    let last = ap (λ l. flat_map text l) (take_more xs i x lt) ∙ flat_map-append text (take i xs) (get_or xs i x ∷ [])
    ∙ ap (λ l. flat_map text (take i xs) ++ l) (append-nil (text (get_or xs i x)) ∙ ap text (sym is)) in
    append_assoc output (flat_map text (take i xs)) (text x) ∙ ap (λ l. output ++ l) (sym last)

pub texts_rest : {X : Type 0} (text : X → List ℕ) (output : List ℕ) (xs : List X) (i : ℕ)
    → (output ++ flat_map text (take i xs)) ++ flat_map text (drop i xs) ≡ output ++ flat_map text xs
texts_rest text output xs i =
    append_assoc output (flat_map text (take i xs)) (flat_map text (drop i xs))
    ∙ ap (λ l. output ++ l) (sym (flat_map-append text (take i xs) (drop i xs)) ∙ ap (λ l. flat_map text l) (take-append-drop i xs))

pub fields_more : (output : List ℕ) (fields : List Pair) (i : ℕ) (field : Pair) (name value : List ℕ) → i < length fields → field ≡ get_or fields i field
    → name ≡ field.0 → value ≡ field.1
    → (output ++ canonical_fields (take i fields)) ++ canonical_line (name, value) ≡ output ++ canonical_fields (take (i + 1) fields)
fields_more output fields i field name value lt is name_is value_is =
    rw (name_is, value_is) (texts_more canonical_line output fields i field lt is)

three : (output line area crlfs : List ℕ) → ((output ++ line) ++ area) ++ crlfs ≡ output ++ ((line ++ area) ++ crlfs)
three output line area crlfs = simp append_assoc

-- a head is put together from its version line, its lines and the empty line
pub head_from : (version : Version) (fields : List Pair) (line : List ℕ) (given : List Pair) (output : List ℕ) → line ≡ version_line version → given ≡ fields
    → ((output ++ line) ++ canonical_fields given) ++ crlf ≡ output ++ head_text version (canonical_fields fields)
head_from version fields line given output line_is given_is =
    rw (line_is, given_is) (three output (version_line version) (canonical_fields fields) crlf)

pub head_after_line : (version : Version) (fields : List Pair) (line output : List ℕ) → line ≡ version_line version
    → (output ++ line) ++ (canonical_fields fields ++ crlf) ≡ output ++ head_text version (canonical_fields fields)
head_after_line version fields line output line_is =
    sym (append_assoc (output ++ line) (canonical_fields fields) crlf) ∙ head_from version fields line fields output line_is refl

-- what follows the head of a record with this block
abbrev pub after_head : List ℕ → List ℕ
after_head block = block ++ (crlf ++ crlf)

closed : (output head block crlfs : List ℕ) → (output ++ head) ++ (block ++ (crlfs ++ crlfs)) ≡ output ++ (((head ++ block) ++ crlfs) ++ crlfs)
closed output head block crlfs = simp append_assoc

-- the text of a record is put together from its head and what follows it
pub record_from : (r : Record) (version : Version) (fields : List Pair) (block output : List ℕ) → version ≡ r.version → fields ≡ r.fields → block ≡ r.block
    → (output ++ head_text version (canonical_fields fields)) ++ after_head block ≡ output ++ canonical r
unfolding canonical
record_from r version fields block output version_is fields_is block_is =
    rw (version_is, fields_is, block_is) (closed output (head_text r.version (canonical_fields r.fields)) r.block crlf)

-- ---- what is written spells the records

rendered_spells : ((r : Record) → IsFramed r → Spells r (canonical r)) → (records : List Record) → AllGood records → SpellsAll records (canonical_texts records)
rendered_spells spells [] good = refl
rendered_spells spells (r ∷ records) good =
    (canonical r, canonical_texts records, spells r good.0.framed, refl, rendered_spells spells records good.1)

pub rendered_opens_as_same : ((r : Record) → IsFramed r → Spells r (canonical r))
    → ((rs ss : List Record) (text : List ℕ) → SpellsAll rs text → SpellsAll ss text → rs ≡ ss) → RenderedOpensAsSame
rendered_opens_as_same spells one records others good =
    let own = rendered_spells spells records good in (
      λ spelled. one others records _ spelled own,
      λ same. let P : List Record → Type 0 = λ rs. SpellsAll rs (canonical_texts records) in subst P (sym same) own,
    )

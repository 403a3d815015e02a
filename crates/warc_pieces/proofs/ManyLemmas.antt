-- Heads with too many fields: none that has their lines is good.
use Rattle.std.proofs.Common.{◌≡◌, ℕ, ◌+◌, ◌-◌, ◌<◌, ◌≤◌, true, false, ◌==◌, nat_le, List, ◌∷◌, ◌++◌, length, take, drop, append_assoc, length-append, [], Option, Some, Result, Ok, Err, refl, sym, ap, subst, ◌∙◌, arith, ⊎_elim}
use Rattle.std.specs.Prelude.{slice_range}
use Rattle.std.proofs.lemmas.Bool.{cases_lt, eqb-true, false_from_ne_true, le-leb}
use Rattle.std.proofs.lemmas.List.{drop-append-le, drop-drop, length-drop, length-take}
use Rattle.std.proofs.lemmas.Grind.{flat_map-append}
use Rattle.std.proofs.lemmas.List.Folds.{drop_split}
use Rattle.warc_field.specs.Area.{Pair, area_of, canonical_fields, canonical_line, count_of}
use Rattle.warc_field.proofs.SpellLemmas.{area-spells}
use Rattle.warc_frame.specs.FaultText.{name_of}
use Rattle.warc_frame.specs.Names.{content_length}
use Rattle.warc_frame.specs.Reading.{any_fields, head_len, version_of}
use Rattle.warc_frame.specs.Record.{Record, block_len, head_text}
use Rattle.warc_frame.specs.Spelling.{Spells}
use Rattle.warc_frame.specs.VersionLine.{version_line}
use Rattle.warc_frame.specs.declared.fault.FaultKind.{FaultKind}
use Rattle.warc_frame.specs.declared.fault.FaultKind.TheVariants.{HeadTooLong, Repeated}
use Rattle.warc_frame.specs.declared.fault.Mandatory.{Mandatory}
use Rattle.warc_frame.specs.declared.fault.Mandatory.TheVariants.{ContentLength, «Type», RecordId, Date}
use Rattle.warc_frame.specs.declared.version.Version.{Version}
use Rattle.warc_frame.proofs.CanonicalLemmas.{canonical_size, version_size}
use Rattle.warc_frame.proofs.HeadLemmas.{begins-front, head_room, version-begins}
use Rattle.warc_frame.proofs.ReadLemmas.{HasHead}
use Rattle.warc_frame.proofs.SpellLemmas.{head-spelled}
use Rattle.warc_reading.proofs.RowLemmas.{slice_front}
use Rattle.warc_record.specs.Good.{IsGood}
use Rattle.warc_pieces.specs.Skip.{AreTooMany, HasTooMany, NoneFrom}
use Rattle.warc_pieces.proofs.InsideLemmas.{after_line, inside_lines, line_front}
use Rattle.warc_pieces.proofs.SharedLemmas.{count_grows}
use Rattle.warc_pieces.proofs.SkipLemmas.{head_len_more, head_rest, version_found}
use Rattle.warc_pieces.proofs.SuffixLemmas.{last_fields}

-- ---- a good record has each of the four fields once

one_length : (fields : List Pair) (n : ℕ) → block_len fields ≡ Ok n → count_of content_length fields ≤ 1
unfolding block_len
one_length fields n is =
    let count = count_of content_length fields in
    ⊎_elim
    (λ (few : count < 2). omega (arith, few))
    (λ (many : 2 ≤ count).
    let some : (count == 0) ≡ false = false_from_ne_true (count == 0) (λ none. absurd (omega (arith, eqb-true count 0 none, many))) in
    let two : nat_le 2 count ≡ true = le-leb 2 count many in
    let no : ◌≡◌ {A = Result ℕ FaultKind} (Err (Repeated ContentLength)) (Ok n) = rw (some, two) at is in
    absurd cc)
    (cases_lt count 2)

once : (r : Record) → IsGood r → (field : Mandatory) → count_of (name_of field) r.fields ≤ 1
once r good ContentLength = one_length r.fields (length r.block) good.framed.number
once r good «Type» = good.head.type_is.alone
once r good RecordId = good.head.id_is.alone
once r good Date = good.head.date_is.alone

-- ---- the lines of a head within

-- what follows a version line in a head
line_then : (head : List ℕ) (v : Version) → version_of head ≡ Some v → 12 ≤ length head
    → head ≡ version_line v ++ (slice_range head 10 (length head - 2) ++ drop (length head - 2) head)
line_then head v version room =
    begins-front head (version_line v) (version-begins head v version) (omega (arith, version_size v, room))
    ∙ ap (λ n. version_line v ++ drop n head) (version_size v) ∙ ap (λ x. version_line v ++ x) (drop_split head 10 (length head - 2) (omega (arith, room)))

-- the head of a record at the front of a text
own : (u : List ℕ) (r : Record) (text after : List ℕ) → u ≡ text ++ after → (spelled : Spells r text)
    → HasHead any_fields u (record { version = r.version; fields = r.fields; len = length spelled.area + 12; block_len = length r.block })
own u r text after whole spelled =
    let area = spelled.area in
    let rest = r.block ++ 13 ∷ 10 ∷ 13 ∷ 10 ∷ after in
    let path : u ≡ head_text r.version area ++ rest = whole ∙ ap (λ x. x ++ after) spelled.text_is ∙ simp append_assoc in
    let P : List ℕ → Type 0 = λ x. HasHead any_fields x (record { version = r.version; fields = r.fields; len = length area + 12; block_len = length r.block }) in
    subst P (sym path) (head-spelled any_fields r area rest spelled.framed refl spelled.fields spelled.head)

-- the fields of a record that begins before a line of a head, or there, are those of the head's lines from there on and
-- others before them
fields_more : (head more : List ℕ) (line k : ℕ) (r : Record) (text after : List ℕ) (gs : List Pair) (v : Version) → head_len head ≡ Some (length head)
    → line + 4 ≤ length head → version_of (drop line head) ≡ Some v → area_of (slice_range (drop line head) 10 (length (drop line head) - 2)) ≡ Ok gs
    → k ≤ line → drop k (head ++ more) ≡ text ++ after → Spells r text → (front : List Pair) × (r.fields ≡ front ++ gs)
fields_more head more line k r text after gs v ends room version reads low whole spelled =
    let u = drop k (head ++ more) in
    let part = drop line head in
    let h = own u r text after whole spelled in
    let left : u ≡ drop k head ++ more = drop-append-le k head more (omega (arith, low, room)) in
    let mine : head_len u ≡ Some (length (drop k head)) = ap head_len left ∙ head_len_more (drop k head) more (length (drop k head)) (head_rest head k ends (omega (arith, low, room))) in
    let both : ◌≡◌ {A = Option ℕ} (Some (length spelled.area + 12)) (Some (length (drop k head))) = sym h.len ∙ mine in
    let size : length spelled.area + 12 ≡ length (drop k head) = cc both in
    let all : area_of (slice_range u 10 (length (drop k head) - 2)) ≡ Ok r.fields = subst (λ n. area_of (slice_range u 10 (n - 2)) ≡ Ok r.fields) size h.fields in
    let part_ends : head_len part ≡ Some (length part) = head_rest head line ends room in
    let long : 12 ≤ length part = head_room part v (length part) version part_ends in
    let part_size = length-drop line head in
    let whole_size = length-drop k head in
    ⊎_elim
    (λ (before : k < line).
    let j = line - k in
    let area = slice_range part 10 (length part - 2) in
    let tail = drop (length part - 2) part ++ more in
    let area_size : length area ≡ length part - 12 = omega (arith, long, length-take (length part - 2 - 10) (drop 10 part), length-drop 10 part) in
    let inner : drop j u ≡ version_line v ++ (area ++ tail) =
    drop-drop j k (head ++ more) ∙ ap (λ n. drop n (head ++ more)) (let e : k + j ≡ line = omega (arith, before) in e)
    ∙ drop-append-le line head more (omega (arith, room)) ∙ ap (λ x. x ++ more) (line_then part v version long) ∙ simp append_assoc in
    let far : 10 ≤ j = after_line u r.version v j (area ++ tail) h.version (omega (arith, ap length left, length-append (drop k head) more, whole_size, long, part_size, low)) (omega (arith, before)) inner in
    let n = length (drop k head) - 2 - 10 in
    let lines = inside_lines u j n v area tail far (omega (arith, ap length left, length-append (drop k head) more, whole_size, long, part_size, before)) inner
    (omega (arith, whole_size, part_size, area_size, long, before)) in
    last_fields (take (j - 10) (drop 10 u) ++ line_front v) area r.fields gs (area-spells area gs reads) (ap area_of (sym lines) ∙ all))
    (λ (after_it : line ≤ k).
    let here : k ≡ line = omega (arith, after_it, low) in
    let same : slice_range u 10 (length (drop k head) - 2) ≡ slice_range part 10 (length part - 2) =
    ap (λ x. slice_range x 10 (length (drop k head) - 2)) left ∙ slice_front 10 (length (drop k head) - 2) (drop k head) more (omega (arith, whole_size, long, part_size, here)) (omega arith)
    ∙ ap (λ m. slice_range (drop m head) 10 (length (drop m head) - 2)) here in
    let one : ◌≡◌ {A = Result (List Pair) ℕ} (Ok r.fields) (Ok gs) = sym all ∙ ap area_of same ∙ reads in
    ([], cc one))
    (cases_lt k line)

-- ---- none is good

-- fields that are too many still are with others before them
too_many : (kind : FaultKind) (front gs : List Pair) → AreTooMany kind gs → AreTooMany kind (front ++ gs)
too_many (Repeated field) front gs many = omega (arith, many, count_grows (name_of field) front gs)
too_many HeadTooLong front gs many =
    omega (arith, many, ap length (flat_map-append canonical_line front gs), length-append (canonical_fields front) (canonical_fields gs))
too_many kind front gs many = absurd many

-- a good record hasn't too many
few : (kind : FaultKind) (r : Record) → IsGood r → AreTooMany kind r.fields → ⊥
few (Repeated field) r good many = omega (arith, many, once r good field)
few HeadTooLong r good many = omega (arith, many, good.framed.head, canonical_size r.version r.fields)
few kind r good many = many

pub none_too_many : (head more : List ℕ) (line : ℕ) (kind : FaultKind) → head_len head ≡ Some (length head) → line + 4 ≤ length head → HasTooMany kind (drop line head)
    → NoneFrom (head ++ more) 1 (line + 1)
none_too_many head more line kind ends room has k low below = λ r text after whole spelled good.
    let v = version_found (version_of (drop line head)) has.version in
    let fields = fields_more head more line k r text after has.fields v.0 ends room v.1 has.reads (omega (arith, below)) whole spelled in
    few kind r good (subst (AreTooMany kind) (sym fields.1) (too_many kind fields.0 has.fields has.many))

-- A text that spells a record is read as that record, whatever follows.
use Rattle.std.proofs.Common.{◌≡◌, ℕ, ◌+◌, ◌-◌, ◌≤◌, false, nat_lt, List, [], ◌∷◌, ◌++◌, Some, None, Result, Ok, length, length-append, take, drop, append_assoc, refl, sym, ap, ◌∙◌, arith}
use Rattle.std.specs.Prelude.{option_map}
use Rattle.std.proofs.Math.Seq.{drop-append_seam, take-append_seam, take-append-add, drop-append-add}
use Rattle.std.proofs.lemmas.Bool.{false_from_ne_true, ltb-true}
use Rattle.warc_field.specs.Area.{Pair, SpellsFields, area_of, canonical_fields}
use Rattle.warc_field.specs.Lines.{crlf}
use Rattle.warc_field.proofs.LawLemmas.{spelling_is_read, empty_line_ends_area, canonical_text_spells}
use Rattle.warc_frame.specs.declared.version.Version.{Version}
use Rattle.warc_frame.specs.declared.version.Version.TheVariants.{V1_0, V1_1}
use Rattle.warc_frame.specs.declared.fault.Fault.{Fault}
use Rattle.warc_frame.specs.Record.{Record, IsFramed, canonical_len, head_text, max_head}
use Rattle.warc_frame.specs.VersionLine.{version_line}
use Rattle.warc_frame.specs.Spelling.{Spells, canonical}
use Rattle.warc_frame.specs.Reading.{Judgement, version_of, empty_line, head_front, head_len, block_at, record_of}
use Rattle.warc_frame.proofs.EmptyLineLemmas.{empty_line-first, empty_line-following}
use Rattle.warc_frame.proofs.CanonicalLemmas.{version_size, head_size}
use Rattle.warc_frame.proofs.RowLemmas.{ok_same}
use Rattle.warc_frame.proofs.ReadLemmas.{HasHead, head-from}

-- a version's line is read as that version
pub version-read : (v : Version) (more : List ℕ) → version_of (version_line v ++ more) ≡ Some v
unfolding version_of
version-read V1_0 more = refl
version-read V1_1 more = refl

-- the first empty line of a text that begins with a version line and fields
version-following : (v : Version) (t : List ℕ) (n : ℕ) → empty_line (13 ∷ 10 ∷ t) ≡ Some n → empty_line (version_line v ++ t) ≡ Some (8 + n)
version-following V1_0 t n e = empty_line-following (take 8 (version_line V1_0)) (13 ∷ 10 ∷ t) n refl e
version-following V1_1 t n e = empty_line-following (take 8 (version_line V1_1)) (13 ∷ 10 ∷ t) n refl e

head-ends : (v : Version) (fields : List Pair) (area more : List ℕ) → SpellsFields fields area → empty_line (head_text v area ++ more) ≡ Some (8 + length area)
head-ends v fields area more spells =
    let line = version_line v in
    let ends = empty_line_ends_area fields area more spells in
    let there : empty_line (13 ∷ 10 ∷ (area ++ 13 ∷ 10 ∷ more)) ≡ Some (length area) = empty_line-first (13 ∷ 10 ∷ (area ++ 13 ∷ 10 ∷ more)) (length area) ends.0 ends.1 in
    ap empty_line (append_assoc (line ++ area) crlf more ∙ append_assoc line area (crlf ++ more)) ∙ version-following v (area ++ 13 ∷ 10 ∷ more) (length area) there

pub head-read : (v : Version) (fields : List Pair) (area more : List ℕ) → SpellsFields fields area → length (head_text v area) ≤ max_head → head_len (head_text v area ++ more) ≡ Some (length area + 12)
unfolding head_len head_front
head-read v fields area more spells short =
    let text = head_text v area in
    let room : max_head ≡ length text + (max_head - length text) = omega arith in
    let cut = take (max_head - length text) more in
    let kept : take max_head (text ++ more) ≡ text ++ cut = ap (λ k. take k (text ++ more)) room ∙ take-append-add text more (max_head - length text) in
    ap (λ xs. option_map (λ place. place + 4) (empty_line xs)) kept ∙ ap (option_map (λ place. place + 4)) (head-ends v fields area cut spells)
    ∙ ap Some (let size : 8 + length area + 4 ≡ length area + 12 = omega arith in size)

slice-read : (v : Version) (area more : List ℕ) → take (length area + 12 - 2 - 10) (drop 10 (head_text v area ++ more)) ≡ area
slice-read v area more =
    let line = version_line v in
    let size : length area + 12 - 2 - 10 ≡ length area = omega arith in
    let following : drop 10 (head_text v area ++ more) ≡ area ++ (crlf ++ more) =
    ap (drop 10) (append_assoc (line ++ area) crlf more ∙ append_assoc line area (crlf ++ more))
    ∙ ap (λ k. drop k (line ++ (area ++ (crlf ++ more)))) (sym (version_size v)) ∙ drop-append_seam line (area ++ (crlf ++ more)) in
    ap (λ k. take k (drop 10 (head_text v area ++ more))) size ∙ ap (take (length area)) following ∙ take-append_seam area (crlf ++ more)

not_past : (m n : ℕ) → n ≤ m → nat_lt m n ≡ false
not_past m n l = false_from_ne_true _ (λ is. absurd (omega (arith, ltb-true _ _ is, l)))

-- the head of a record that is spelled
pub head-spelled : (judge : Judgement) (r : Record) (area more : List ℕ) → IsFramed r → judge r.fields ≡ None → SpellsFields r.fields area → length (head_text r.version area) ≤ max_head
    → HasHead judge (head_text r.version area ++ more) (record { version = r.version; fields = r.fields; len = length area + 12; block_len = length r.block })
head-spelled judge r area more framed judged spells short = record {
  version = ap version_of (append_assoc (version_line r.version ++ area) crlf more ∙ append_assoc (version_line r.version) area (crlf ++ more)) ∙ version-read r.version (area ++ (crlf ++ more));
  len = head-read r.version r.fields area more spells short;
  fields = ap area_of (slice-read r.version area more) ∙ (spelling_is_read r.fields area).0 spells;
  short = not_past _ _ framed.head;
  number = framed.number;
  accepted = judged;
}

pub block-read : (place n : ℕ) (head block rest : List ℕ) → place ≡ length head → n ≡ length block → block_at place n (head ++ (block ++ 13 ∷ 10 ∷ 13 ∷ 10 ∷ rest)) ≡ Ok block
unfolding block_at
block-read place n head block rest p q =
    let tail = 13 ∷ 10 ∷ 13 ∷ 10 ∷ rest in
    let t = head ++ (block ++ tail) in
    let start : drop place t ≡ block ++ tail = ap (λ k. drop k t) p ∙ drop-append_seam head (block ++ tail) in
    let end : drop (place + n) t ≡ tail = ap (λ k. drop (k + n) t) p ∙ drop-append-add head (block ++ tail) n ∙ ap (λ k. drop k (block ++ tail)) q ∙ drop-append_seam block tail in
    let cut : take (place + n - place) (drop place t) ≡ block = ap (take (place + n - place)) start ∙ ap (λ k. take k (block ++ tail)) (let e : place + n - place ≡ length block = omega arith in e) ∙ take-append_seam block tail in
    let room : place + n + 4 ≤ length t = omega (arith, length-append head (block ++ tail), length-append block tail) in
    rw (end, not_past (length t) (place + n + 4) room, cut) refl

pub record-read : (judge : Judgement) (r : Record) (t rest : List ℕ) → Spells r t → judge r.fields ≡ None → record_of judge (t ++ rest) ≡ Ok (r, length t)
unfolding record_of
record-read judge r t rest s judged =
    let area = s.area in
    let front = head_text r.version area in
    let tail = r.block ++ 13 ∷ 10 ∷ 13 ∷ 10 ∷ rest in
    let n = length r.block in
    let whole : t ++ rest ≡ front ++ tail = ap (λ xs. xs ++ rest) s.text_is ∙ append_assoc (front ++ r.block ++ crlf) crlf rest ∙ append_assoc (front ++ r.block) crlf (crlf ++ rest) ∙ append_assoc front r.block (crlf ++ (crlf ++ rest)) in
    let place : length area + 12 ≡ length front = sym (head_size r.version area) in
    let size : length area + 12 + n + 4 ≡ length t = omega (arith, place, ap length s.text_is, length-append (front ++ r.block ++ crlf) crlf, length-append (front ++ r.block) crlf, length-append front r.block) in
    let head = head-from judge (front ++ tail) (record { version = r.version; fields = r.fields; len = length area + 12; block_len = n }) (head-spelled judge r area tail s.framed judged s.fields s.head) in
    ap (record_of judge) whole
    ∙ rw (head, block-read (length area + 12) n front r.block rest place refl, size) refl

pub ok_parts : (r s : Record) (m n : ℕ) → ◌≡◌ {A = Result (Record × ℕ) Fault} (Ok (r, m)) (Ok (s, n)) → (r ≡ s) × (m ≡ n)
ok_parts r s m n e = let p = ok_same (r, m) (s, n) e in (ap (λ (x : Record × ℕ). x.0) p, ap (λ (x : Record × ℕ). x.1) p)

pub nothing : (xs : List ℕ) → length xs ≡ 0 → xs ≡ []
nothing [] h = refl
nothing (x ∷ xs) h = absurd (omega arith)

pub spells_some : (r : Record) (t rest : List ℕ) → Spells r t → t ++ rest ≡ [] → ⊥
spells_some r t rest s e =
    omega (arith, ap length e, length-append t rest, ap length s.text_is, length-append (head_text r.version s.area ++ r.block ++ crlf) crlf)

-- the canonical text spells its record
pub canonical-spells : (r : Record) → IsFramed r → Spells r (canonical r)
unfolding canonical canonical_len
canonical-spells r framed = record {
  framed = framed;
  area = canonical_fields r.fields;
  fields = canonical_text_spells r.fields framed.fields;
  text_is = refl;
  head = framed.head;
}

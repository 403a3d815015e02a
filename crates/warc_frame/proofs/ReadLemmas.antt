-- What is read is spelled so.
use Rattle.std.proofs.Common.{◌≡◌, ℕ, suc, ◌+◌, ◌-◌, ◌<◌, ◌≤◌, true, false, not, ◌&&◌, nat_lt, nat_le, List, ◌∷◌, ◌++◌, Some, None, Ok, length, length-append, length-take, length-drop, take, drop, get_or, append_assoc, refl, sym, ap, subst, ◌∙◌, arith, ⊎_elim, drop-cons, drop-drop}
use Rattle.std.specs.Prelude.{is_none}
use Rattle.std.specs.List.{slice_range}
use Rattle.std.proofs.Math.Seq.{take-append_seam}
use Rattle.std.proofs.lemmas.List.{take-append-drop, get_or-take}
use Rattle.std.proofs.lemmas.Bool.{lt-ltb, cases_lt}
use Rattle.warc_field.specs.Area.{Pair, area_of}
use Rattle.warc_field.specs.Lines.{crlf}
use Rattle.warc_field.proofs.LawLemmas.{spelling_is_read, spelled_are_fields}
use Rattle.warc_frame.specs.declared.version.Version.{Version}
use Rattle.warc_frame.specs.declared.fault.FaultKind.TheVariants.{Version as NoVersion, HeadTooLong, Truncated, End}
use Rattle.warc_frame.specs.Record.{Record, IsFramed, canonical_len, block_len, head_text, max_head}
use Rattle.warc_frame.specs.VersionLine.{version_line}
use Rattle.warc_frame.specs.Spelling.{Spells}
use Rattle.warc_frame.specs.Reading.{Judgement, Head, fault, begins, version_of, head_front, head_len, head_of, block_at, record_of, refuses, needs, accepts, at_front, fields_or_line}
use Rattle.warc_frame.proofs.EmptyLineLemmas.{empty-bytes}
use Rattle.warc_frame.proofs.CanonicalLemmas.{version_size, head_size}
use Rattle.warc_frame.proofs.HeadLemmas.{begins-front, version-begins, head-place, head_room}
use Rattle.warc_frame.proofs.RowLemmas.{bind_ok, ok_same, needs-ok, refuses-ok, accepts-ok, at_front-ok, fields_or_line-ok, not_false}

-- a head is at the front of a text: each row lets it pass
pub record HasHead (judge : Judgement) (t : List ℕ) (head : Head) : Type 0 where
  pub version : version_of t ≡ Some head.version
  pub len : head_len t ≡ Some head.len
  pub fields : area_of (slice_range t 10 (head.len - 2)) ≡ Ok head.fields
  pub short : nat_lt max_head (canonical_len head.version head.fields) ≡ false
  pub number : block_len head.fields ≡ Ok head.block_len
  pub accepted : judge head.fields ≡ None

pub head-has : (judge : Judgement) (t : List ℕ) (head : Head) → head_of judge t ≡ Ok head → HasHead judge t head
unfolding head_of
head-has judge t head e =
    let version = bind_ok (needs (version_of t) (fault NoVersion 0)) _ head e in
    let long = bind_ok (refuses (is_none (head_len t) && nat_le max_head (length t)) (fault HeadTooLong 0)) _ head version.2 in
    let len = bind_ok (needs (head_len t) (fault Truncated (length t))) _ head long.2 in
    let fields = bind_ok (fields_or_line (area_of (slice_range t 10 (len.0 - 2)))) _ head len.2 in
    let short = bind_ok (refuses (nat_lt max_head (canonical_len version.0 fields.0)) (fault HeadTooLong 0)) _ head fields.2 in
    let number = bind_ok (at_front (block_len fields.0)) _ head short.2 in
    let judged = bind_ok (accepts (judge fields.0)) _ head number.2 in
    let found : HasHead judge t (record { version = version.0; fields = fields.0; len = len.0; block_len = number.0 }) = record {
      version = needs-ok _ _ _ version.1;
      len = needs-ok _ _ _ len.1;
      fields = fields_or_line-ok _ _ fields.1;
      short = refuses-ok _ _ _ short.1;
      number = at_front-ok _ _ number.1;
      accepted = accepts-ok _ _ judged.1;
    } in
    subst (HasHead judge t) (ok_same (record { version = version.0; fields = fields.0; len = len.0; block_len = number.0 }) head judged.2) found

pub head-from : (judge : Judgement) (t : List ℕ) (head : Head) → HasHead judge t head → head_of judge t ≡ Ok head
unfolding head_of
head-from judge t head h = rw (h.version, h.len, h.fields, h.short, h.number, h.accepted) refl

-- a text with a CRLF at a place, from a place before it on
split_crlf : (t : List ℕ) (a p : ℕ) → get_or t (a + p) 0 ≡ 13 → get_or t (suc (a + p)) 0 ≡ 10 → suc (a + p) < length t → drop a t ≡ take p (drop a t) ++ 13 ∷ 10 ∷ drop (suc (suc (a + p))) t
split_crlf t a p cr lf l =
    sym (take-append-drop p (drop a t)) ∙ ap (λ xs. take p (drop a t) ++ xs)
    (drop-drop p a t ∙ drop-cons t (a + p) 0 (omega arith) ∙ ap (λ b. b ∷ drop (suc (a + p)) t) cr ∙ ap (λ xs. 13 ∷ xs) (drop-cons t (suc (a + p)) 0 l) ∙ ap (λ b. 13 ∷ b ∷ drop (suc (suc (a + p))) t) lf)

-- what a text with a head looks like
pub record LooksSo (t : List ℕ) (v : Version) (n : ℕ) : Type 0 where
  pub room : 12 ≤ n
  pub within : n ≤ length t
  pub short : n ≤ max_head
  pub text : t ≡ head_text v (slice_range t 10 (n - 2)) ++ drop n t

pub head-looks : (t : List ℕ) (v : Version) (n : ℕ) → version_of t ≡ Some v → head_len t ≡ Some n → LooksSo t v n
unfolding head_front
head-looks t v n h e =
    let place = head-place t n e in
    let p = place.0 in
    let room : 12 ≤ n = head_room t v n h e in
    let bytes = empty-bytes (take max_head t) p place.1 in
    let k = p - 8 in
    let cr : get_or t (10 + k) 0 ≡ 13 = ap (λ j. get_or t j 0) (let at : 10 + k ≡ p + 2 = omega (arith, room, place.2) in at) ∙ sym (get_or-take max_head t (p + 2) 0 (omega (arith, place.2, place.4))) ∙ bytes.1 in
    let lf : get_or t (suc (10 + k)) 0 ≡ 10 = ap (λ j. get_or t j 0) (let at : suc (10 + k) ≡ p + 3 = omega (arith, room, place.2) in at) ∙ sym (get_or-take max_head t (p + 3) 0 (omega (arith, place.2, place.4))) ∙ bytes.2 in
    let rest = split_crlf t 10 k cr lf (omega (arith, room, place.2, place.3)) in
    let area = slice_range t 10 (n - 2) in
    let cut : take k (drop 10 t) ≡ area = ap (λ j. take j (drop 10 t)) (let size : k ≡ n - 2 - 10 = omega (arith, place.2) in size) in
    let end : suc (suc (10 + k)) ≡ n = omega (arith, room, place.2) in
    let line = version_line v in
    let begun : t ≡ line ++ drop 10 t = begins-front t line (version-begins t v h) (omega (arith, version_size v, room, place.3)) ∙ ap (λ j. line ++ drop j t) (version_size v) in
    record {
      room = room;
      within = place.3;
      short = place.4;
      text = begun ∙ ap (λ xs. line ++ xs) (rest ∙ ap (λ xs. xs ++ 13 ∷ 10 ∷ drop (suc (suc (10 + k))) t) cut ∙ ap (λ j. area ++ 13 ∷ 10 ∷ drop j t) end)
          ∙ sym (append_assoc (line ++ area) crlf (drop n t) ∙ append_assoc line area (crlf ++ drop n t));
    }

pub le_from : (m n : ℕ) → nat_lt m n ≡ false → n ≤ m
le_from m n h = ⊎_elim (λ l. absurd (let no : false ≡ true = sym h ∙ lt-ltb m n l in cc)) (λ l. l) (cases_lt m n)

-- the block at a place, and what comes after it
pub block-is : (place n : ℕ) (t block : List ℕ) → place ≤ length t → block_at place n t ≡ Ok block → (length block ≡ n) × (place + n + 4 ≤ length t) × (drop place t ≡ block ++ crlf ++ crlf ++ drop (place + n + 4) t)
unfolding block_at
block-is place n t block l e =
    let one = bind_ok (refuses (not (begins (drop (place + n) t) (crlf ++ crlf))) (fault End (place + n))) _ block e in
    let two = bind_ok (refuses (nat_lt (length t) (place + n + 4)) (fault Truncated (length t))) _ block one.2 in
    let fits : place + n + 4 ≤ length t = le_from _ _ (refuses-ok _ _ _ two.1) in
    let cut : take (place + n - place) (drop place t) ≡ block = ok_same _ _ two.2 in
    let size : place + n - place ≡ n = omega arith in
    let front : take n (drop place t) ≡ block = ap (λ k. take k (drop place t)) (sym size) ∙ cut in
    let ended : drop (place + n) t ≡ (crlf ++ crlf) ++ drop 4 (drop (place + n) t) = begins-front (drop (place + n) t) (crlf ++ crlf) (not_false _ (refuses-ok _ _ _ one.1)) (omega (arith, fits, length-drop (place + n) t)) in
    let left : drop 4 (drop (place + n) t) ≡ drop (place + n + 4) t = drop-drop 4 (place + n) t in (
      omega (arith, ap length front, length-take n (drop place t), length-drop place t, fits),
      fits,
      sym (take-append-drop n (drop place t)) ∙ ap (λ xs. xs ++ drop n (drop place t)) front
          ∙ ap (λ xs. block ++ xs) (drop-drop n place t ∙ ended ∙ ap (λ xs. crlf ++ crlf ++ xs) left)
          ∙ sym (append_assoc (block ++ crlf) crlf (drop (place + n + 4) t) ∙ append_assoc block crlf (crlf ++ drop (place + n + 4) t)),
    )

-- what is read can be framed
pub head-framed : (judge : Judgement) (t block : List ℕ) (head : Head) → HasHead judge t head → length block ≡ head.block_len → IsFramed (record { version = head.version; fields = head.fields; block = block })
head-framed judge t block head h size = record {
  fields = spelled_are_fields head.fields _ ((spelling_is_read head.fields _).1 h.fields);
  number = h.number ∙ ap Ok (sym size);
  head = le_from _ _ h.short;
}

pub framed_read : (judge : Judgement) (t block : List ℕ) (version : Version) (fields : List Pair) (len n : ℕ) → head_of judge t ≡ Ok (record { version = version; fields = fields; len = len; block_len = n }) → block_at len n t ≡ Ok block
    → IsFramed (record { version = version; fields = fields; block = block })
framed_read judge t block version fields len n read got =
    let h = head-has judge t (record { version = version; fields = fields; len = len; block_len = n }) read in
    head-framed judge t block (record { version = version; fields = fields; len = len; block_len = n }) h (block-is len n t block (head-looks t version len h.version h.len).within got).0

regroup_text : (head block rest : List ℕ) → head ++ (block ++ crlf ++ crlf ++ rest) ≡ (head ++ block ++ crlf ++ crlf) ++ rest
regroup_text head block rest = simp append_assoc

record_size : (head block : List ℕ) → length (head ++ block ++ crlf ++ crlf) ≡ length head + length block + 4
record_size head block = omega (arith, length-append (head ++ block ++ crlf) crlf, length-append (head ++ block) crlf, length-append head block)

-- a record that is read is spelled by the front of the text, and its judgement finds nothing
pub record-spelled : (judge : Judgement) (t : List ℕ) (r : Record) (n : ℕ) → record_of judge t ≡ Ok (r, n) → (n ≤ length t) × Spells r (take n t) × (judge r.fields ≡ None)
unfolding record_of
record-spelled judge t r n e =
    let top = bind_ok (head_of judge t) _ (r, n) e in
    let head = top.0 in
    let end = bind_ok (block_at head.len head.block_len t) _ (r, n) top.2 in
    let block = end.0 in
    let h = head-has judge t head top.1 in
    let looks = head-looks t head.version head.len h.version h.len in
    let body = block-is head.len head.block_len t block looks.within end.1 in
    let area = slice_range t 10 (head.len - 2) in
    let front = head_text head.version area in
    let m = head.len + head.block_len + 4 in
    let size : length front ≡ head.len = omega (arith, head_size head.version area, length-take (head.len - 2 - 10) (drop 10 t), length-drop 10 t, looks.room, looks.within) in
    let text = front ++ block ++ crlf ++ crlf in
    let whole : t ≡ text ++ drop m t = looks.text ∙ ap (λ xs. front ++ xs) body.2 ∙ regroup_text front block (drop m t) in
    let all : m ≡ length text = omega (arith, size, body.0, record_size front block) in
    let taken : take m t ≡ text = ap (take m) whole ∙ ap (λ k. take k (text ++ drop m t)) all ∙ take-append_seam text (drop m t) in
    let spelled : Spells (record { version = head.version; fields = head.fields; block = block }) (take m t) = record {
      framed = head-framed judge t block head h body.0;
      area = area;
      fields = (spelling_is_read head.fields area).1 h.fields;
      text_is = taken;
      head = omega (arith, size, looks.short);
    } in
    let is = ok_same (record { version = head.version; fields = head.fields; block = block }, m) (r, n) end.2 in
    subst (λ (x : Record × ℕ). (x.1 ≤ length t) × Spells x.0 (take x.1 t) × (judge x.0.fields ≡ None)) is (body.1, spelled, h.accepted)

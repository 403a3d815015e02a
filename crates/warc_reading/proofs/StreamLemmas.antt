-- What is kept of a stream means the bytes that were taken.
use Rattle.std.proofs.Common.{◌≡◌, ℕ, ◌+◌, ◌≤◌, List, [], ◌∷◌, ◌++◌, length, map, Option, Some, None, Result, Ok, Err, IsSome, refl, sym, ap, subst, ◌∙◌, arith, length-append}
use Rattle.std.proofs.lemmas.List.{append_assoc, append-nil, append_cancel_left, length-map, map-append}
use Rattle.warc_field.specs.Area.{Pair}
use Rattle.warc_frame.specs.Faults.{AllAccepted}
use Rattle.warc_frame.specs.Reading.{◌>>=◌, Head, any_fields, block_at, head_of, record_of}
use Rattle.warc_frame.specs.Record.{Record, max_archive}
use Rattle.warc_frame.specs.Spelling.{Spells, SpellsAll}
use Rattle.warc_frame.specs.Reported.{AcceptsOpen, AcceptsReported, IsExact, Reported, Unclosed, with_bytes}
use Rattle.warc_frame.specs.declared.fault.Fault.{Fault}
use Rattle.warc_frame.proofs.LawLemmas.{fronts_are_same, heads_are_stable, reading_is_spelling-read}
use Rattle.warc_record.specs.Heads.{head_fault}
use Rattle.warc_reading.specs.Archive.{SpellsFrom, contents}
use Rattle.warc_reading.specs.Judging.{IsNextOf}
use Rattle.warc_reading.specs.Row.{Placed, row_of}
use Rattle.warc_reading.specs.Stream.{HasRead, IsCurrent, IsHead, IsKeptOf, Matches, row_by}
use Rattle.warc_reading.proofs.GoodLemmas.{are_good}
use Rattle.warc_reading.specs.declared.stream.Current.{Current}
use Rattle.warc_reading.specs.declared.stream.StreamState.{StreamState}

-- the records themselves are spelled
pub spells_all : (q : ℕ) (ps : List Placed) (text : List ℕ) → SpellsFrom q ps text → SpellsAll (contents ps) text
spells_all q [] text is = is
spells_all q (p ∷ ps) text (front, rest, one, at, block, text_is, more) = (front, rest, one, text_is, spells_all (q + length front) ps rest more)

-- one more record after them
pub spells_more : (q : ℕ) (ps : List Placed) (p : Placed) (text last : List ℕ) → SpellsFrom q ps text → Spells p.content last → p.offset ≡ q + length text
    → p.block_start + length p.content.block + 4 ≡ (q + length text) + length last → SpellsFrom q (ps ++ p ∷ []) (text ++ last)
spells_more q [] p text last is one at block =
    let size : length text ≡ 0 = ap length is in
    (last, [], one, omega (arith, at, size), omega (arith, block, size), ap (λ t. t ++ last) is ∙ sym (append-nil last), refl)
spells_more q (x ∷ ps) p text last (a, b, spelled, here, start, text_is, more) one at block =
    let size : length text ≡ length a + length b = ap length text_is ∙ length-append a b in (
      a,
      b ++ last,
      spelled,
      here,
      start,
      ap (λ t. t ++ last) text_is ∙ append_assoc a b last,
      spells_more (q + length a) ps p b last more one (omega (arith, at, size)) (omega (arith, block, size)),
    )

-- the last record of a list that is spelled
split_last : (rs : List Record) (r : Record) (t : List ℕ) → SpellsAll (rs ++ r ∷ []) t → (front last : List ℕ) × SpellsAll rs front × Spells r last × (t ≡ front ++ last)
split_last [] r t (front, rest, s, e, more) = ([], front, refl, s, e ∙ ap (λ x. front ++ x) more ∙ append-nil front)
split_last (x ∷ rs) r t (front, rest, s, e, more) =
    let (a, b, all, one, is) = split_last rs r rest more in
    (front ++ a, b, (front, a, s, refl, all), one, e ∙ ap (λ y. front ++ y) is ∙ sym (append_assoc front a b))

pub accepted_more : (rs : List Record) (r : Record) → AllAccepted head_fault rs → head_fault r.fields ≡ None → AllAccepted head_fault (rs ++ r ∷ [])
accepted_more [] r all one = (one, tt)
accepted_more (x ∷ rs) r (first, all) one = (first, accepted_more rs r all one)

-- what reading gives, once the head is read
abbrev read_with : Head → List ℕ → Result (Record × ℕ) Fault
read_with head block = Ok (record { version = head.version; fields = head.fields; block = block }, head.len + head.block_len + 4)

abbrev read_after : List ℕ → Head → Result (Record × ℕ) Fault
read_after t head = ◌>>=◌ {A = List ℕ} {B = Record × ℕ} (block_at head.len head.block_len t) (read_with head)

block_len_is : (head : Head) (r : Record) (n : ℕ) (block : Result (List ℕ) Fault) → ◌>>=◌ {A = List ℕ} {B = Record × ℕ} block (read_with head) ≡ Ok (r, n) → n ≡ head.len + head.block_len + 4
block_len_is head r n (Ok b) e =
    let same : ◌≡◌ {A = Record × ℕ} (record { version = head.version; fields = head.fields; block = b }, head.len + head.block_len + 4) (r, n) = cc e in
    sym (ap (λ (x : Record × ℕ). x.1) same)
block_len_is head r n (Err f) e = cc e

by_head : (read : Result Head Fault) (head : Head) (t : List ℕ) (r : Record) (n : ℕ) → read ≡ Ok head → ◌>>=◌ {A = Head} {B = Record × ℕ} read (read_after t) ≡ Ok (r, n)
    → n ≡ head.len + head.block_len + 4
by_head (Ok h) head t r n is e =
    let same : h ≡ head = cc is in
    block_len_is h r n (block_at h.len h.block_len t) e ∙ ap (λ (x : Head). x.len + x.block_len + 4) same
by_head (Err f) head t r n is e = cc is

-- the length of a record's text, from the head at its front
record_len : (r : Record) (t : List ℕ) (head : Head) → Spells r t → head_of any_fields t ≡ Ok head → length t ≡ head.len + head.block_len + 4
unfolding record_of
record_len r t head s is =
    let read : record_of any_fields t ≡ Ok (r, length t) = ap (record_of any_fields) (sym (append-nil t)) ∙ reading_is_spelling-read any_fields r t [] s refl in
    by_head (head_of any_fields t) head t r (length t) is read

-- what is kept accepts every head that was reported
pub accepts : {A B : Type 0} (Sees : B → List Pair → List ℕ → Type 0) (begin : ℕ) (rest : List ℕ) (o : Option Unclosed) (c : Option (Current A B)) → Matches Sees begin rest o c → AcceptsOpen head_fault o
accepts Sees begin rest None c m = tt
accepts Sees begin rest (Some u) None m = absurd m
accepts Sees begin rest (Some u) (Some c) m = m.of.good

pub accepts_reported : {A B L : Type 0} {Sees : B → List Pair → List ℕ → Type 0} {K : L → List Placed → Type 0} (text : List ℕ) (reported : Reported) (r : StreamState A L B) → HasRead Sees K text reported r → AcceptsReported head_fault reported
accepts_reported {A} {B} {L} {Sees} text reported r has = (has.good, accepts Sees (length has.front) has.rest reported.unclosed r.current has.current)

-- bytes were taken, and nothing was reported
matches_more : {A B : Type 0} (Sees : B → List Pair → List ℕ → Type 0) (begin : ℕ) (rest more : List ℕ) (o : Option Unclosed) (c : Option (Current A B)) → Matches Sees begin rest o c → Matches Sees begin (rest ++ more) o c
matches_more Sees begin rest more None None m = tt
matches_more Sees begin rest more None (Some c) m = absurd m
matches_more Sees begin rest more (Some u) None m = absurd m
matches_more Sees begin rest more (Some u) (Some c) m = record {
  head = m.head;
  tail = m.tail ++ more;
  rest_is = ap (λ t. t ++ more) m.rest_is ∙ append_assoc m.head m.tail more;
  head_is = m.head_is;
  of = m.of;
  start = m.start;
  len = m.len;
  seen = m.seen;
}

pub more_kept : {A B L : Type 0} {Sees : B → List Pair → List ℕ → Type 0} {K : L → List Placed → Type 0} (text more : List ℕ) (reported : Reported) (r : StreamState A L B) → HasRead Sees K text reported r → HasRead Sees K (text ++ more) reported r
more_kept {A} {B} {L} {Sees} text more reported r has = record {
  records = has.records;
  front = has.front;
  rest = has.rest ++ more;
  text_is = ap (λ t. t ++ more) has.text_is ∙ append_assoc has.front has.rest more;
  spelled = has.spelled;
  reported_is = has.reported_is;
  good = has.good;
  rows_are = has.rows_are;
  beside = has.beside;
  begin_is = has.begin_is;
  current = matches_more Sees (length has.front) has.rest more reported.unclosed r.current has.current;
}

-- the front of the records that were reported is the same in each view of the bytes
pub same_front : {A B L : Type 0} {Sees : B → List Pair → List ℕ → Type 0} {K : L → List Placed → Type 0} (text more front rest : List ℕ) (reported : Reported) (r : StreamState A L B) (has : HasRead Sees K text reported r) → text ++ more ≡ front ++ rest
    → SpellsAll reported.records front → (has.front ≡ front) × (has.rest ++ more ≡ rest)
same_front text more front rest reported r has is spelled =
    let P : List Record → Type 0 = λ rs. SpellsAll rs has.front in
    let all = subst P (sym has.reported_is) (spells_all 0 has.records has.front has.spelled) in
    let whole : has.front ++ (has.rest ++ more) ≡ front ++ rest = sym (ap (λ t. t ++ more) has.text_is ∙ append_assoc has.front has.rest more) ∙ is in
    let same = fronts_are_same reported.records has.front front (has.rest ++ more) rest all spelled whole in
    (same, append_cancel_left front (has.rest ++ more) rest (ap (λ f. f ++ (has.rest ++ more)) (sym same) ∙ whole))

-- a head was reported, and it is good
pub head_kept : {A B L : Type 0} {Sees : B → List Pair → List ℕ → Type 0} {K : L → List Placed → Type 0} (text more : List ℕ) (rs : List Record) (u : Unclosed) (old new : StreamState A L B) (c : Current A B) → HasRead Sees K text (record { records = rs; unclosed = None }) old
    → IsExact (text ++ more) (record { records = rs; unclosed = Some u }) → u.bytes ≡ [] → new.rows ≡ old.rows → new.beside ≡ old.beside → new.begin ≡ old.begin → new.current ≡ Some c
    → IsHead u.fields c → Sees c.block u.fields [] → c.block_start ≡ length (text ++ more) → c.block_len ≡ u.block_len
    → HasRead Sees K (text ++ more) (record { records = rs; unclosed = Some u }) new
head_kept {A} {B} {L} {Sees} {K} text more rs u old new c has exact none rows beside begin current of seen start len =
    let (head, head_is, rest_is) = exact.ends in
    let (front, rest) = same_front text more exact.front exact.rest (record { records = rs; unclosed = None }) old has exact.text_is exact.spelled in
    let S : List ℕ → Type 0 = λ bytes. Sees c.block u.fields bytes in
    let whole : exact.rest ≡ head = rest_is ∙ ap (λ b. head ++ b) none ∙ append-nil head in
    let size : length (text ++ more) ≡ length has.front + length head = ap length (exact.text_is ∙ ap (λ f. f ++ exact.rest) (sym front)) ∙ length-append has.front exact.rest ∙ ap (λ t. length has.front + length t) whole in
    let is : IsCurrent Sees (length has.front) exact.rest u c = record {
      head = head;
      tail = [];
      rest_is = whole ∙ sym (append-nil head);
      head_is = head_is;
      of = of;
      start = start ∙ size;
      len = len;
      seen = subst S (sym none) seen;
    } in
    let M : Option (Current A B) → Type 0 = λ k. Matches Sees (length has.front) exact.rest (Some u) k in
    let B : L → Type 0 = λ l. K l has.records in
    record {
      records = has.records;
      front = has.front;
      rest = exact.rest;
      text_is = exact.text_is ∙ ap (λ f. f ++ exact.rest) (sym front);
      spelled = has.spelled;
      reported_is = has.reported_is;
      good = has.good;
      rows_are = rows ∙ has.rows_are;
      beside = subst B (sym beside) has.beside;
      begin_is = begin ∙ has.begin_is;
      current = subst M (sym current) is;
    }

-- bytes of a block were reported
abbrev pub TakesPart : {A B : Type 0} → (B → List Pair → List ℕ → Type 0) → List ℕ → Option (Current A B) → Option (Current A B) → Type 0
TakesPart {A} {B} Sees part old new = (c : Current A B) → old ≡ Some c → (d : Current A B) × (new ≡ Some d)
    × (d.head ≡ c.head) × (d.block_start ≡ c.block_start) × (d.block_len ≡ c.block_len)
    × ((fields : List Pair) (bytes : List ℕ) → Sees c.block fields bytes → Sees d.block fields (bytes ++ part))

matches_part : {A B : Type 0} (Sees : B → List Pair → List ℕ → Type 0) (begin : ℕ) (rest more part : List ℕ) (o : Option Unclosed) (old new : Option (Current A B)) → IsSome o → Matches Sees begin rest o old → TakesPart Sees part old new
    → Matches Sees begin (rest ++ more) (with_bytes o part) new
matches_part Sees begin rest more part None old new some m takes = cc some
matches_part Sees begin rest more part (Some u) None new some m takes = absurd m
matches_part {A} {B} Sees begin rest more part (Some u) (Some c) new some m takes =
    let (d, new_is, fields, start, len, seen) = takes c refl in
    let is : IsCurrent Sees begin (rest ++ more) (record { version = u.version; fields = u.fields; block_len = u.block_len; bytes = u.bytes ++ part }) d = record {
      head = m.head;
      tail = m.tail ++ more;
      rest_is = ap (λ t. t ++ more) m.rest_is ∙ append_assoc m.head m.tail more;
      head_is = m.head_is;
      of = record {
        good = m.of.good;
        fields_are = fields ∙ m.of.fields_are;
      };
      start = start ∙ m.start;
      len = len ∙ m.len;
      seen = seen u.fields u.bytes m.seen;
    } in
    let M : Option (Current A B) → Type 0 = λ k. Matches Sees begin (rest ++ more) (with_bytes (Some u) part) k in
    subst M (sym new_is) is

pub part_kept : {A B L : Type 0} {Sees : B → List Pair → List ℕ → Type 0} {K : L → List Placed → Type 0} (text more part : List ℕ) (reported : Reported) (old new : StreamState A L B) → HasRead Sees K text reported old → IsSome reported.unclosed → new.rows ≡ old.rows
    → new.beside ≡ old.beside → new.begin ≡ old.begin → TakesPart Sees part old.current new.current
    → HasRead Sees K (text ++ more) (record { records = reported.records; unclosed = with_bytes reported.unclosed part }) new
part_kept {A} {B} {L} {Sees} {K} text more part reported old new has some rows beside begin takes = record {
  records = has.records;
  front = has.front;
  rest = has.rest ++ more;
  text_is = ap (λ t. t ++ more) has.text_is ∙ append_assoc has.front has.rest more;
  spelled = has.spelled;
  reported_is = has.reported_is;
  good = has.good;
  rows_are = rows ∙ has.rows_are;
  beside = (let B : L → Type 0 = λ l. K l has.records in subst B (sym beside) has.beside);
  begin_is = begin ∙ has.begin_is;
  current = matches_part Sees (length has.front) has.rest more part reported.unclosed old.current new.current some has.current takes;
}

-- the row that is kept of a record is its row
row_is : {A B : Type 0} (p : Placed) (begin : ℕ) (c : Current A B) → begin ≡ p.offset → c.block_start ≡ p.block_start → c.block_len ≡ length p.content.block
    → IsHead p.content.fields c → row_by begin c ≡ row_of p
row_is p begin c offset start len of =
    rw (offset, start, len, of.fields_are) refl

-- the end of a record was reported
pub end_kept_by : {A B L : Type 0} {Sees : B → List Pair → List ℕ → Type 0} {K : L → List Placed → Type 0} (text more : List ℕ) (rs : List Record) (u : Unclosed) (old new : StreamState A L B) (c : Current A B) (has : HasRead Sees K text (record { records = rs; unclosed = Some u }) old)
    → IsCurrent Sees (length has.front) has.rest u c → length u.bytes ≡ u.block_len → IsExact (text ++ more) (record { records = rs ++ record { version = u.version; fields = u.fields; block = u.bytes } ∷ []; unclosed = None })
    → new.begin ≡ length (text ++ more) → new.current ≡ None → new.rows ≡ old.rows ++ row_by old.begin c ∷ []
    → ((records : List Placed) (p : Placed) → K old.beside records → length old.rows ≡ length records → IsNextOf p c.head c.block_start c.block_len → Sees c.block c.head p.content.block → K new.beside (records ++ p ∷ []))
    → HasRead Sees K (text ++ more) (record { records = rs ++ record { version = u.version; fields = u.fields; block = u.bytes } ∷ []; unclosed = None }) new
end_kept_by {A} {B} {L} {Sees} {K} text more rs u old new c has is whole exact begin current rows keeps =
    let r : Record = record { version = u.version; fields = u.fields; block = u.bytes } in
    let reported : Reported = record { records = rs; unclosed = Some u } in
    let (front, last, all, one, exact_is) = split_last rs r exact.front exact.spelled in
    let text_is : text ++ more ≡ front ++ last = exact.text_is ∙ ap (λ t. exact.front ++ t) exact.ends ∙ append-nil exact.front ∙ exact_is in
    let (same, rest_is) = same_front text more front last reported old has text_is all in
    let last_is : last ≡ is.head ++ (is.tail ++ more) = sym rest_is ∙ ap (λ t. t ++ more) is.rest_is ∙ append_assoc is.head is.tail more in
    let head : Head = record { version = u.version; fields = u.fields; len = length is.head; block_len = u.block_len } in
    let read : head_of any_fields last ≡ Ok head = ap (head_of any_fields) last_is ∙ heads_are_stable any_fields is.head (is.tail ++ more) head is.head_is in
    let size : length last ≡ length is.head + u.block_len + 4 = record_len r last head one read in
    let p : Placed = record { offset = length has.front; block_start = c.block_start; content = r } in
    let whole_is : text ++ more ≡ has.front ++ last = text_is ∙ ap (λ f. f ++ last) (sym same) in
    let count : length (text ++ more) ≡ length has.front + length last = ap length whole_is ∙ length-append has.front last in
    let row : row_by old.begin c ≡ row_of p = row_is p old.begin c has.begin_is refl (is.len ∙ sym whole) is.of in
    let next : IsNextOf p c.head c.block_start c.block_len = record {
      fields_are = is.of.fields_are;
      good = is.of.good;
      start_is = refl;
      len_is = is.len ∙ sym whole;
    } in
    let S : List Pair → Type 0 = λ fields. Sees c.block fields u.bytes in
    let seen : Sees c.block c.head u.bytes = subst S (sym is.of.fields_are) is.seen in
    let M : Option (Current A B) → Type 0 = λ k. Matches Sees (length (has.front ++ last)) [] None k in
    record {
      records = has.records ++ p ∷ [];
      front = has.front ++ last;
      rest = [];
      text_is = whole_is ∙ sym (append-nil (has.front ++ last));
      spelled = spells_more 0 has.records p has.front last has.spelled one (omega arith) (omega (arith, is.start, size, whole));
      reported_is = ap (λ l. l ++ r ∷ []) has.reported_is ∙ sym (map-append (λ (x : Placed). x.content) has.records (p ∷ []));
      good = accepted_more rs r has.good is.of.good;
      rows_are = rows ∙ ap (λ l. l ++ row_by old.begin c ∷ []) has.rows_are ∙ ap (λ x. map row_of has.records ++ x ∷ []) row ∙ sym (map-append row_of has.records (p ∷ []));
      beside = keeps has.records p has.beside (ap length has.rows_are ∙ length-map has.records row_of) next seen;
      begin_is = begin ∙ count ∙ sym (length-append has.front last);
      current = subst M (sym current) tt;
    }

-- the text ends after its last record
pub kept_whole : {A B L : Type 0} {Sees : B → List Pair → List ℕ → Type 0} {K : L → List Placed → Type 0} (text : List ℕ) (reported : Reported) (r : StreamState A L B) → HasRead Sees K text reported r → SpellsAll reported.records text
    → length text ≤ max_archive → IsKeptOf K text (r.rows, r.beside)
kept_whole text reported r has spelled short =
    let (same, none) = same_front text [] text [] reported r has refl spelled in
    let P : List ℕ → Type 0 = λ t. SpellsFrom 0 has.records t in
    let Q : List Record → Type 0 = λ rs. AllAccepted head_fault rs in
    let whole = subst P same has.spelled in
    record {
      listed = record {
        short = short;
        are = record {
          records = has.records;
          spelled = whole;
          good = are_good (contents has.records) text (spells_all 0 has.records text whole) (subst Q has.reported_is has.good);
          rows_are = has.rows_are;
        };
      };
      beside = has.beside;
    }

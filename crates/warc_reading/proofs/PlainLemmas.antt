-- A record that is read in place, and what is kept of it.
use Rattle.std.proofs.Common.{◌≡◌, ℕ, ◌+◌, ◌≤◌, Bool, true, false, List, [], ◌∷◌, ◌++◌, length, take, Option, Some, None, Result, Ok, Err, OnErr, OnOk, is_err, refl, sym, ap, subst, ◌∙◌, arith, length-append}
use Rattle.std.specs.Prelude.{unwrap_or}
use Rattle.std.proofs.lemmas.List.{append_assoc, append-nil, length-map, length-take-le, map-append}
use Rattle.warc_field.specs.Area.{Pair}
use Rattle.warc_frame.specs.Decoding.{Finishes, IsAt, State}
use Rattle.warc_frame.specs.Faults.{AllAccepted}
use Rattle.warc_frame.specs.Record.{Record, max_archive}
use Rattle.warc_frame.specs.Spelling.{Spells, SpellsAll}
use Rattle.warc_frame.specs.Reported.{Reported, Unclosed, nothing}
use Rattle.warc_frame.specs.declared.fault.Fault.{Fault}
use Rattle.warc_record.specs.Heads.{head_fault}
use Rattle.warc_record.specs.Readings.{reading_of}
use Rattle.warc_quick.specs.Quick.{IsQuickRecord}
use Rattle.warc_quick.specs.declared.plain.QuickRecord.{QuickRecord}
use Rattle.warc_reading.specs.Archive.{SpellsFrom, contents}
use Rattle.warc_reading.specs.Row.{Placed, Row, row_of}
use Rattle.warc_reading.specs.Judging.{IsNextPlain}
use Rattle.warc_reading.specs.Stream.{IsBetween, IsKeptOf, Matches, IsReadSoFar, plain_row}
use Rattle.warc_reading.specs.declared.stream.Current.{Current}
use Rattle.warc_reading.specs.declared.stream.StreamState.{StreamState}
use Rattle.warc_reading.proofs.GoodLemmas.{accepted, are_good}
use Rattle.warc_reading.proofs.GrowLemmas.{at_after, kept_is_present}
use Rattle.warc_reading.proofs.StreamLemmas.{accepted_more, kept_whole, spells_all, spells_more}

-- a record that is spelled after others
all_more : (rs : List Record) (r : Record) (text last : List ℕ) → SpellsAll rs text → Spells r last → SpellsAll (rs ++ r ∷ []) (text ++ last)
all_more [] r text last none one = (last, [], one, ap (λ t. t ++ last) none ∙ sym (append-nil last), refl)
all_more (x ∷ rs) r text last (front, rest, first, is, more) one =
    (front, rest ++ last, first, ap (λ t. t ++ last) is ∙ append_assoc front rest last, all_more rs r rest last more one)

-- the decoder begins anew after a record that it might have taken
pub next_at : (at : ℕ) (taken last : List ℕ) (reported : Reported) (d after : State) (r : Record) → IsBetween d → IsAt at taken reported d → Spells r last
    → IsAt (d.position + length last) [] nothing after → (next : Reported) × IsAt at (taken ++ last) next after
next_at at taken last reported d after r between is one start =
    let (none, spelled) = between at taken reported is in (
      record { records = reported.records ++ r ∷ []; unclosed = None },
      at_after at (d.position + length last) (taken ++ last) (reported.records ++ r ∷ []) after (all_more reported.records r taken last spelled one)
          (omega (arith, is.position_is, length-append taken last)) start,
    )

-- a record is kept after those of a text
kept_more : {L : Type 0} (K : L → List Placed → Type 0) (text last : List ℕ) (rows : List Row) (l m : L) (p : Placed) (is : IsKeptOf K text (rows, l))
    → Spells p.content last → head_fault p.content.fields ≡ None → p.offset ≡ length text → p.block_start + length p.content.block + 4 ≡ length text + length last
    → length (text ++ last) ≤ max_archive → K m (is.listed.are.records ++ p ∷ []) → IsKeptOf K (text ++ last) (rows ++ row_of p ∷ [], m)
kept_more K text last rows l m p is one good offset start short keeps =
    let are = is.listed.are in
    let records = are.records ++ p ∷ [] in
    let spelled : SpellsFrom 0 records (text ++ last) =
    spells_more 0 are.records p text last are.spelled one (omega (arith, offset)) (omega (arith, start)) in
    let each : contents records ≡ contents are.records ++ p.content ∷ [] = map-append (λ (x : Placed). x.content) are.records (p ∷ []) in
    let Q : List Record → Type 0 = λ rs. AllAccepted head_fault rs in
    let all = subst Q (sym each) (accepted_more (contents are.records) p.content (accepted (contents are.records) are.good) good) in
    record {
      listed = record {
        short = short;
        are = record {
          records = records;
          spelled = spelled;
          good = are_good (contents records) (text ++ last) (spells_all 0 records (text ++ last) spelled) all;
          rows_are = ap (λ l. l ++ row_of p ∷ []) are.rows_are ∙ sym (map-append row_of are.records (p ∷ []));
        };
      };
      beside = keeps;
    }

-- no record is being read
none_open : {A B : Type 0} (Sees : B → List Pair → List ℕ → Type 0) (begin : ℕ) (rest : List ℕ) (o : Option Unclosed) (c : Option (Current A B)) → o ≡ None → Matches Sees begin rest o c → c ≡ None
none_open Sees begin rest None None none m = refl
none_open Sees begin rest None (Some c) none m = absurd m
none_open Sees begin rest (Some u) c none m = cc none

-- where a record is whose head has this length
abbrev pub placed_at : ℕ → ℕ → Record → Placed
placed_at at head r = record { offset = at; block_start = at + head; content = r }

row_by_texts : (at start len : ℕ) (mark : Bool) (kind date id target : List ℕ) (r : Record) → kind ≡ unwrap_or (reading_of r.fields).type_text []
    → date ≡ unwrap_or (reading_of r.fields).date_text [] → id ≡ unwrap_or (reading_of r.fields).id_text [] → target ≡ unwrap_or (reading_of r.fields).target []
    → mark ≡ (reading_of r.fields).truncated → len ≡ length r.block
    → ◌≡◌ {A = Row} (record { offset = at; block_start = start; block_len = len; is_truncated = mark; kind = kind; date = date; id = id; target = target })
    (row_of (record { offset = at; block_start = start; content = r }))
row_by_texts at start len mark kind date id target r kind_is date_is id_is target_is mark_is len_is =
    rw (kind_is, date_is, id_is, target_is, mark_is, len_is) refl

row_is : (at : ℕ) (piece : List ℕ) (found : QuickRecord) (is : IsQuickRecord piece found) → plain_row at (at + found.head.len) found.head ≡ row_of (placed_at at found.head.len is.content)
row_is at piece found is =
    let t = found.head.texts in
    let texts = is.says.texts in
    row_by_texts at (at + found.head.len) found.head.block_len t.is_truncated t.kind.now t.date.now t.id.now t.target.now is.content
    texts.kind texts.date texts.id texts.target texts.truncated is.block

pub next_plain : (at : ℕ) (piece : List ℕ) (found : QuickRecord) (is : IsQuickRecord piece found) (start : ℕ) → start ≡ at + found.head.len
    → IsNextPlain (placed_at at found.head.len is.content) found start
next_plain at piece found is start start_is =
    record { says = is.says; start_is = start_is; len_is = is.block; block_is = is.block_is; reads = is.reads }

module _ {A B L : Type 0} {Sees : B → List Pair → List ℕ → Type 0} (K : L → List Placed → Type 0) (text piece : List ℕ) (d after : State) (old new : StreamState A L B) (found : QuickRecord)
    (is_present : IsReadSoFar Sees K text d old) (is : IsQuickRecord piece found) (between : IsBetween d) (limit : d.position + found.len ≤ max_archive) where
  here : d.position ≡ length text
  here = omega (arith, is_present.is_at.position_is)

  spelled : SpellsAll is_present.reported.records text
  spelled = (between 0 text is_present.reported is_present.is_at).1

  kept : IsKeptOf K text (old.rows, old.beside)
  kept = kept_whole text is_present.reported old is_present.has spelled (omega (arith, here, limit))

  -- its text
  size : length (take found.len piece) ≡ found.len
  size = length-take-le found.len piece is.within

  -- no other record is being read
  pub plain_alone : old.current ≡ None
  plain_alone = none_open Sees (length is_present.has.front) is_present.has.rest is_present.reported.unclosed old.current (between 0 text is_present.reported is_present.is_at).0 is_present.has.current

  pub plain_is_present : (start : ℕ) → start ≡ d.position + found.head.len → new.rows ≡ old.rows ++ plain_row d.position start found.head ∷ [] → new.begin ≡ d.position + found.len → new.current ≡ old.current
      → ((records : List Placed) (p : Placed) → K old.beside records → length old.rows ≡ length records → IsNextPlain p found start → K new.beside (records ++ p ∷ []))
      → IsAt (d.position + found.len) [] nothing after → IsReadSoFar Sees K (text ++ take found.len piece) after new
  plain_is_present start start_is rows begin current keeps anew =
      let p : Placed = placed_at d.position found.head.len is.content in
      let next : IsNextPlain p found start = next_plain d.position piece found is start start_is in
      let count : length old.rows ≡ length kept.listed.are.records = ap length kept.listed.are.rows_are ∙ length-map kept.listed.are.records row_of in
      let more = kept_more K text (take found.len piece) old.rows old.beside new.beside p kept is.spelled is.says.good here
      (omega (arith, here, size, is.end)) (omega (arith, here, size, limit, length-append text (take found.len piece))) (keeps kept.listed.are.records p kept.beside count next) in
      let row : old.rows ++ row_of p ∷ [] ≡ new.rows = sym (rows ∙ ap (λ n. old.rows ++ plain_row d.position n found.head ∷ []) start_is ∙ ap (λ (x : Row). old.rows ++ x ∷ []) (row_is d.position piece found is)) in
      let P : List Row → Type 0 = λ l. IsKeptOf K (text ++ take found.len piece) (l, new.beside) in
      let Q : ℕ → Type 0 = λ n. IsAt n [] nothing after in
      kept_is_present K (text ++ take found.len piece) after new (subst P row more)
      (omega (arith, begin, here, size, length-append text (take found.len piece))) (current ∙ plain_alone) (subst Q (sym begin) anew)

-- what `finish` says where it is no error
pub finished : (answer : Result (Unit {0}) Fault) → is_err answer ≡ false → (at : ℕ) (taken : List ℕ) (reported : Reported) → Finishes at taken reported answer → Finishes at taken reported (Ok tt)
finished (Ok u) ok at taken reported is = is
finished (Err f) ok at taken reported is = cc ok

pub pushed : {E P : Type 0} (answer : Result (Unit {0}) E) → is_err answer ≡ false → OnOk answer P → P
pushed (Ok u) ok is = is
pushed (Err e) ok is = cc ok

pub unpushed : {E P : Type 0} (answer : Result (Unit {0}) E) → is_err answer ≡ true → OnErr answer P → P
unpushed (Ok u) bad is = cc bad
unpushed (Err e) bad is = is

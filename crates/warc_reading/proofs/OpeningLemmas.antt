-- How the reading of a source ends.
use Rattle.std.proofs.Common.{◌≡◌, ◌≢◌, ℕ, ◌+◌, ◌-◌, ◌^◌, ◌<◌, ◌≤◌, min, inl, inr, Bool, true, false, List, [], ◌∷◌, ◌++◌, length, take, drop, if◌then◌else◌, Some, Result, Ok, Err, MatchResult, refl, sym, ap, subst, ◌∙◌, arith, length-append}
use Rattle.std.proofs.Math.Nat.{min-le_left}
use Rattle.std.proofs.Math.Seq.{drop-append_seam}
use Rattle.std.proofs.lemmas.List.{append_assoc, append-nil, length-take, take-append-drop}
use Rattle.warc_field.specs.Area.{Pair}
use Rattle.warc_frame.specs.Count.{raised}
use Rattle.warc_frame.specs.Faults.{within_limit}
use Rattle.warc_frame.specs.Record.{max_archive}
use Rattle.warc_frame.specs.Reading.{fault}
use Rattle.warc_frame.specs.Spelling.{SpellsAll}
use Rattle.warc_frame.specs.Reported.{IsCut, Lies, Refuses, RefusesAs, Reported}
use Rattle.warc_frame.specs.declared.fault.Fault.{Fault}
use Rattle.warc_frame.specs.declared.fault.FaultKind.{FaultKind}
use Rattle.warc_frame.specs.declared.fault.FaultKind.TheVariants.{Memory, Read, Truncated}
use Rattle.warc_frame.proofs.JudgedLemmas.{truncated}
use Rattle.warc_frame.proofs.LawLemmas.{first_fault_is_unique, no_fault_where_spelled}
use Rattle.warc_record.specs.Heads.{head_fault}
use Rattle.warc_reading.specs.Archive.{IsFaultOf, IsRecordEnd}
use Rattle.warc_reading.specs.Opening.{IsOnlyCut, IsUnkept, OpensFrom, RefusesFrom}
use Rattle.warc_reading.specs.Row.{Placed}
use Rattle.warc_frame.specs.Seen.{AsksOnly, InOrder, SeenSource}
use Rattle.warc_frame.specs.Ranges.{IsReadAt}
use Rattle.warc_reading.specs.Stream.{BeginsSince, HasGiven, HasRead, StaysBy, StaysRefused, WantsSince}
use Rattle.warc_reading.specs.declared.stream.StreamState.{StreamState}
use Rattle.warc_reading.proofs.RefusalLemmas.{stays_more, stays_not_read}
use Rattle.warc_reading.proofs.SourceLemmas.{not_raised, raised_by_one}
use Rattle.warc_reading.proofs.StreamLemmas.{accepts_reported, same_front}

-- a text that begins with good records, and after them less than one
cut_by : {A B L : Type 0} {Sees : B → List Pair → List ℕ → Type 0} {K : L → List Placed → Type 0} (text : List ℕ) (reported : Reported) (r : StreamState A L B) (lies : Lies text reported) (rest : List ℕ) → lies.rest ≡ rest → HasRead Sees K text reported r → length text ≤ max_archive
    → (f : Fault) → IsFaultOf text f → f.kind ≡ Truncated
cut_by text reported r lies [] none has short f is =
    let whole : lies.front ≡ text = sym (append-nil lies.front) ∙ ap (λ l. lies.front ++ l) (sym none) ∙ sym lies.text_is in
    let P : List ℕ → Type 0 = λ l. SpellsAll reported.records l in
    absurd (no_fault_where_spelled head_fault 0 text reported.records f (omega arith) (subst P whole lies.spelled) has.good is)
cut_by text reported r lies (b ∷ bs) some has short f is =
    let cut = truncated head_fault 0 text reported (omega arith) (accepts_reported text reported r has) lies (λ (none : lies.rest ≡ []). let e : b ∷ bs ≡ [] = sym some ∙ none in cc e) in
    ap (λ (g : Fault). g.kind) (first_fault_is_unique head_fault 0 text f (fault Truncated (0 + length text)) is cut)

pub only_cut : {A B L : Type 0} {Sees : B → List Pair → List ℕ → Type 0} {K : L → List Placed → Type 0} (text : List ℕ) (reported : Reported) (r : StreamState A L B) → Lies text reported → HasRead Sees K text reported r → length text ≤ max_archive → IsOnlyCut text
only_cut text reported r lies has short = cut_by text reported r lies lies.rest refl has short

-- what comes after the records that were reported is less than one
rest_cut : {A B L : Type 0} {Sees : B → List Pair → List ℕ → Type 0} {K : L → List Placed → Type 0} (text : List ℕ) (reported : Reported) (r : StreamState A L B) → Lies text reported → HasRead Sees K text reported r → IsCut (drop r.begin text)
rest_cut text reported r lies has =
    let (same, rest) = same_front text [] lies.front lies.rest reported r has (append-nil text ∙ lies.text_is) lies.spelled in
    let at : drop r.begin text ≡ lies.rest = ap (λ n. drop n text) (has.begin_is ∙ ap length same) ∙ ap (drop (length lies.front)) lies.text_is ∙ drop-append_seam lies.front lies.rest in
    let P : List ℕ → Type 0 = λ t. IsCut t in
    subst P (sym at) lies.cut

-- so no whole record is between the one that is being read and the end of the text, or one that begins later
pub cut_since : {A B L : Type 0} {Sees : B → List Pair → List ℕ → Type 0} {K : L → List Placed → Type 0} (text : List ℕ) (reported : Reported) (r : StreamState A L B) (offset : ℕ) → Lies text reported → HasRead Sees K text reported r → BeginsSince text r.begin offset → offset < length text
    → IsCut (drop offset text)
cut_since text reported r offset lies has (inl same) before =
    let P : ℕ → Type 0 = λ n. IsCut (drop n text) in
    subst P (sym same) (rest_cut text reported r lies has)
cut_since text reported r offset lies has (inr following) before = absurd (omega arith)

-- where the record that is being read begins, after one more step
pub begins_following : (text more : List ℕ) (begin mid new : ℕ) → BeginsSince text begin mid → BeginsSince (text ++ more) mid new → BeginsSince text begin new
begins_following text more begin mid new first (inl same) = let P : ℕ → Type 0 = λ n. BeginsSince text begin n in subst P (sym same) first
begins_following text more begin mid new first (inr following) = inr (omega (arith, following, length-append text more))

-- memory was wanted in a later part of a piece
pub wants_before : (text done rest piece : List ℕ) (begin mid : ℕ) (f : Fault) → done ++ rest ≡ piece → BeginsSince text begin mid → WantsSince (text ++ done) rest mid f
    → WantsSince text piece begin f
wants_before text done rest piece begin mid f whole first wants = λ memory.
    let (since, before) = wants memory in
    let size : length ((text ++ done) ++ rest) ≡ length (text ++ piece) = ap length (append_assoc text done rest ∙ ap (λ l. text ++ l) whole) in
    (begins_following text done begin mid f.offset first since, omega (arith, before, size))

-- the record that is being read begins in the text
pub begins_within : {A B L : Type 0} {Sees : B → List Pair → List ℕ → Type 0} {K : L → List Placed → Type 0} (text piece : List ℕ) (reported : Reported) (r : StreamState A L B) → HasRead Sees K text reported r → 0 < length piece → r.begin < length (text ++ piece)
begins_within text piece reported r has some = omega (arith, has.begin_is, ap length has.text_is, length-append has.front has.rest, length-append text piece)

wants_by : {A B L : Type 0} {Sees : B → List Pair → List ℕ → Type 0} {K : L → List Placed → Type 0} (kind : FaultKind) (offset : ℕ) (text piece : List ℕ) (reported : Reported) (r : StreamState A L B) → HasRead Sees K text reported r → 0 < length piece
    → RefusesAs kind 0 (text ++ piece) reported (fault kind offset) → kind ≡ Memory → BeginsSince text r.begin offset × (offset < length (text ++ piece))
unfolding within_limit
wants_by Memory offset text piece reported r has some is memory =
    let beyond = drop (max_archive - 0) (text ++ piece) in
    let whole : text ++ piece ≡ is.front ++ (is.rest ++ beyond) =
    sym (take-append-drop (max_archive - 0) (text ++ piece)) ∙ ap (λ t. t ++ beyond) is.text_is ∙ append_assoc is.front is.rest beyond in
    let same = (same_front text piece is.front (is.rest ++ beyond) reported r has whole is.spelled).0 in
    let at : offset ≡ r.begin = omega (arith, is.offset_is, has.begin_is, ap length same) in
    (inl at, omega (arith, at, begins_within text piece reported r has some))
wants_by kind offset text piece reported r has some is memory = cc memory

-- memory was wanted by the decoder
pub step_wants : {A B L : Type 0} {Sees : B → List Pair → List ℕ → Type 0} {K : L → List Placed → Type 0} (text piece : List ℕ) (reported : Reported) (r : StreamState A L B) (f : Fault) → HasRead Sees K text reported r → 0 < length piece → Refuses 0 (text ++ piece) reported f
    → WantsSince text piece r.begin f
step_wants text piece reported r f has some is = λ memory. wants_by f.kind f.offset text piece reported r has some is memory

-- one more read, of no byte above the limit
pub near_more : (old mid new : SeenSource) (at len : ℕ) (failed : Bool) → at + len ≤ max_archive + 1 → mid.watches ≡ old.watches → IsReadAt at len failed mid new → AsksOnly (λ q. q ≤ max_archive) old mid
    → AsksOnly (λ q. q ≤ max_archive) old new
near_more old mid new at len failed fits watched read asks = λ these.
    read.asks (λ q in_. ap (λ (w : ℕ → Bool). w q) watched ∙ these q (omega (arith, in_.1, fits))) ∙ asks these

-- how many bytes a read asks for that has this room, so that none is above the limit
abbrev pub near : ℕ → ℕ → ℕ
near at room = min (max_archive + 1 - at) room

pub fits_near : {at there : ℕ} (room : ℕ) → at ≡ there → at ≤ 2 ^ 48 → there + near at room ≤ max_archive + 1
fits_near {at} {there} room same low = omega (arith, same, low, min-le_left (max_archive + 1 - at) room)

pub read_there : {old new : SeenSource} {failed : Bool} {at len n : ℕ} → at ≡ n → IsReadAt at len failed old new → IsReadAt n len failed old new
read_there {old} {new} {failed} {at} {len} same read = let P : ℕ → Type 0 = λ q. IsReadAt q len failed old new in subst P same read

module _ (start : ℕ) (old mid new : SeenSource) (text : List ℕ) (has : HasGiven old mid text) (failed : Bool) (len : ℕ) (read : IsReadAt (length text) len failed mid new) (short : length text ≤ max_archive) (fits : length text + len ≤ max_archive + 1) (order : InOrder start old new) where
  low : (bytes : List ℕ) → old.holds ≡ Some bytes → length text ≤ length bytes
  low bytes held = omega (arith, ap length (has.part bytes held) ∙ length-take (length text) bytes)

  bound : new.reads ≤ old.reads + max_archive + 1
  bound = omega (arith, has.cost, read.counted, raised_by_one mid.reads, short)

  cost : (bytes : List ℕ) → old.holds ≡ Some bytes → new.reads ≤ old.reads + length bytes + 1
  cost bytes held = omega (arith, has.cost, read.counted, raised_by_one mid.reads, low bytes held)

  -- a read failed
  pub opens_unread : {X A B L : Type 0} {Is : List ℕ → X → Type 0} {Sees : B → List Pair → List ℕ → Type 0} {K : L → List Placed → Type 0} (reported : Reported) (r : StreamState A L B) → failed ≡ true → Lies text reported → HasRead Sees K text reported r → OpensFrom start Is old new (Err (fault Read (length text)))
  opens_unread reported r fails lies kept = record {
    accepted = λ bytes held. tt;
    some = tt;
    refused = λ bytes held. record {
      within = low bytes held;
      before = let P : List ℕ → Type 0 = λ t. IsOnlyCut t in subst P (has.part bytes held) (only_cut text reported r lies kept short);
    };
    reads = record {
      kept = read.kept ∙ has.kept;
      cause = read.cause ∙ ap (λ b. if b then raised mid.faults else mid.faults) fails ∙ ap raised has.sound;
      asked = λ is. sym read.asked;
      near = near_more old mid new (length text) len failed fits has.watched read has.near;
      watched = read.watched ∙ has.watched;
      bound = bound;
      tried = λ is. omega (arith, has.cost, read.counted, raised_by_one mid.reads);
    };
    cost = cost;
    order = order;
  }

  sound : failed ≡ false → new.faults ≡ old.faults
  sound well = read.cause ∙ ap (λ b. if b then raised mid.faults else mid.faults) well ∙ has.sound

  -- a refusal that isn't a read fault
  by_bytes : {X : Type 0} {Is : List ℕ → X → Type 0} (f : Fault) → failed ≡ false → f.kind ≢ Read → ((bytes : List ℕ) → old.holds ≡ Some bytes → RefusesFrom start f.kind bytes old new f) → OpensFrom start Is old new (Err f)
  by_bytes f well never refusal = record {
    accepted = λ bytes held. tt;
    some = tt;
    refused = refusal;
    reads = record {
      kept = read.kept ∙ has.kept;
      cause = sound well ∙ sym (not_raised f.kind old.faults never);
      asked = λ is. absurd (never is);
      near = near_more old mid new (length text) len failed fits has.watched read has.near;
      watched = read.watched ∙ has.watched;
      bound = bound;
      tried = λ is. absurd (never is);
    };
    cost = cost;
    order = order;
  }

  refusal_by : (kind : FaultKind) (offset : ℕ) (bytes : List ℕ) → StaysBy kind bytes (fault kind offset) → (kind ≡ Memory → IsRecordEnd bytes offset → IsUnkept bytes new.asked offset)
      → RefusesFrom start kind bytes old new (fault kind offset)
  refusal_by Memory offset bytes is unkept = inr (unkept refl is)
  refusal_by Read offset bytes is unkept = absurd is
  refusal_by Truncated offset bytes is unkept = absurd is
  refusal_by kind offset bytes is unkept = is

  -- a piece was refused
  pub opens_refused : {X A B L : Type 0} {Is : List ℕ → X → Type 0} {Sees : B → List Pair → List ℕ → Type 0} {K : L → List Placed → Type 0} (reported : Reported) (r : StreamState A L B) (part : List ℕ) (n : ℕ) (f : Fault) → failed ≡ false → Lies text reported → HasRead Sees K text reported r
      → ((bytes : List ℕ) → old.holds ≡ Some bytes → text ++ part ≡ take n bytes) → StaysRefused (text ++ part) f → WantsSince text part r.begin f → OpensFrom start Is old new (Err f)
  opens_refused reported r part n f well lies kept front stays wants =
      by_bytes f well (stays_not_read (text ++ part) f stays) (λ bytes held.
      let P : List ℕ → Type 0 = λ t. StaysRefused t f in
      let whole : (text ++ part) ++ drop n bytes ≡ bytes = ap (λ t. t ++ drop n bytes) (front bytes held) ∙ take-append-drop n bytes in
      let all = subst P whole (stays_more (text ++ part) (drop n bytes) f stays) in
      let more : length (text ++ part) ≤ length bytes = omega (arith, ap length whole, length-append (text ++ part) (drop n bytes)) in
      refusal_by f.kind f.offset bytes all (λ memory end.
      let (since, before) = wants memory in
      record {
        end = end;
        begins = omega (arith, before, more);
        cut = λ (first : f.offset < new.asked).
            let Q : List ℕ → Type 0 = λ t. IsCut (drop f.offset t) in
            let asked : text ≡ take new.asked bytes = has.part bytes held ∙ ap (λ q. take q bytes) (sym read.asked) in
            subst Q asked (cut_since text reported r f.offset lies kept since (omega (arith, first, read.asked)));
      }))

  -- the source ended
  pub opens_ended : {X : Type 0} {Is : List ℕ → X → Type 0} (answer : Result X Fault) → failed ≡ false → ((bytes : List ℕ) → old.holds ≡ Some bytes → text ≡ bytes)
      → MatchResult answer (Is text) (λ f. (f.kind ≡ Truncated) × IsFaultOf text f) → OpensFrom start Is old new answer
  opens_ended {X} {Is} (Ok x) well whole is = record {
    accepted = λ bytes held. let P : List ℕ → Type 0 = λ t. Is t x in subst P (whole bytes held) is;
    some = (text, is);
    refused = λ bytes held. tt;
    reads = record {
      kept = read.kept ∙ has.kept;
      cause = sound well;
      asked = tt;
      near = near_more old mid new (length text) len failed fits has.watched read has.near;
      watched = read.watched ∙ has.watched;
      bound = bound;
      tried = tt;
    };
    cost = cost;
    order = order;
  }
  opens_ended (Err f) well whole (kind, is) =
      by_bytes f well (λ (read_fault : f.kind ≡ Read). let e : Truncated ≡ Read = sym kind ∙ read_fault in cc e) (λ bytes held.
      let P : List ℕ → Type 0 = λ t. IsFaultOf t f in
      let Q : FaultKind → Type 0 = λ k. RefusesFrom start k bytes old new f in
      subst Q (sym kind) (subst P (whole bytes held) is))

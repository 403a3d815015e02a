-- How `captures` ends, and lines in pieces.
use Rattle.std.proofs.Common.{◌≡◌, inl, inr, ℕ, Bool, true, false, List, [], ◌∷◌, length, ◌+◌, ◌<◌, ◌^◌, ◌++◌, nat_lt, if◌then◌else◌, append_assoc, take, take_all, map, Option, Some, None, Result, Ok, Err, refl, sym, ap, subst, ◌∙◌, arith, codes}
use Rattle.std.specs.Io.KnownBytes.{append_known}
use Rattle.std.specs.List.{concat}
use Rattle.std.proofs.lemmas.Bool.{lt-ltb}
use Rattle.std.proofs.lemmas.List.{append-nil, length-map}
use Rattle.warc_frame.specs.Count.{raised}
use Rattle.warc_frame.specs.Record.{Record}
use Rattle.warc_frame.proofs.EffectLemmas.{fails_as, fails_more, fails_never}
use Rattle.warc_frame.specs.Send.{WentOut}
use Rattle.warc_frame.specs.Seen.{Seen, SeenSource}
use Rattle.warc_frame.specs.declared.fault.OutFault.{OutFault}
use Rattle.warc_frame.specs.declared.fault.OutFault.TheVariants as outs
use Rattle.warc_reading.specs.Opening.{Opens}
use Rattle.std.proofs.lemmas.Option.{slice_get_within}
use Rattle.std.specs.List.{Contains}
use Rattle.warc_index.specs.Orders.{Indexes}
use Rattle.warc_segment.specs.Kept.{Kept as Parts}
use Rattle.warc_reading.specs.Archive.{IsArchiveOf, contents}
use Rattle.warc_lookup.specs.Indexed.{AreOf, indexed_record}
use Rattle.warc_reading.specs.Row.{Placed, Row, row_of}
use Rattle.warc_replay.specs.Captures.{captures_text}
use Rattle.warc_replay.specs.Capturing.{AreFirstOutcomes, AreIndexedAt, AreOutcomes, SendsCaptures}
use Rattle.warc_replay.specs.Outcomes.{CaptureSeen}
use Rattle.warc_arguments.specs.declared.status.Status.{Status}
use Rattle.warc_commands.specs.Captures.{AnswerEnds, AreListed, CapturesEnds, CountEnds, WritesListed}
use Rattle.warc_commands.specs.Devices.{devices}
use Rattle.warc_commands.specs.Program.{Reports}
use Rattle.warc_commands.proofs.ProgramLemmas.{has_failed, may_have_failed}
use Rattle.warc.proofs.SurveyLemmas.{captures_inside}

-- ---- how the lines end

nothing_more : (reported : Option (List ℕ)) → append_known reported [] ≡ reported
nothing_more None = refl
nothing_more (Some bytes) = ap Some (append-nil bytes)

-- nothing went out
none_out : (reported : Option (List ℕ)) (rows : List Row) → WentOut reported (captures_text rows []) reported 0
unfolding captures_text
none_out reported rows = record { count = 0; within = omega arith; reported = sym (nothing_more reported); number = refl }

count_by : (n : ℕ) (captures : List CaptureSeen) (old new : Seen) (status : Status) → n ≡ length captures → AnswerEnds (Ok n) old new status → CountEnds captures old new status
count_by n [] old new status count (inl none) = (none.1, none.2)
count_by n [] old new status count (inr some) = absurd (omega (arith, count, some.0))
count_by n (c ∷ cs) old new status count (inl none) = absurd (omega (arith, count, none.0))
count_by n (c ∷ cs) old new status count (inr some) = (some.1, some.2)

-- how the command ends, by what was written
pub captures_end : {X : Type 0} {Is : List ℕ → X → Type 0} (uri : Option (List ℕ)) (archive : X) (rows : List Row) (answer : Result ℕ OutFault) (old mid last new : SeenSource) (out out' err err' : Seen) (status : Status)
    → Opens Is old mid (Ok archive) → WritesListed (λ bytes. Is bytes archive) uri rows mid last out out' answer → new.faults ≡ last.faults → AnswerEnds answer err err' status
    → CapturesEnds uri (devices old out err) (devices new out' err') status
captures_end uri archive rows (Ok count) old mid last new out out' err err' status opened writes same ends = inl (record {
  rows = rows;
  captures = writes.captures;
  are = λ bytes held. writes.all bytes (opened.reads.kept ∙ held) (opened.accepted bytes held);
  reported = writes.reported;
  unfailed = writes.cause;
  sound = same ∙ writes.fails.may ∙ opened.reads.cause;
  ends = count_by count writes.captures err err' status writes.count ends;
})
captures_end uri archive rows (Err fault) old mid last new out out' err err' status opened writes same ends = inr (inr (record {
  rows = rows;
  captures = writes.captures;
  are = λ bytes held. writes.first bytes (opened.reads.kept ∙ held) (opened.accepted bytes held);
  fault = fault;
  front = writes.cut;
  failed = writes.cause;
  fails = record {
    may = may_have_failed fault _ _ _ _ opened.reads.cause (sym same) writes.fails.may;
    failed = λ bytes held is. has_failed fault _ _ _ _ opened.reads.cause (sym same) (writes.fails.failed bytes (opened.reads.kept ∙ held) (opened.accepted bytes held));
  };
  reported = ends.0;
  status_is = ends.1;
}))

-- no memory for the positions
pub writes_none : {Is : List ℕ → Type 0} {uri : Option (List ℕ)} {rows : List Row} {s : SeenSource} {to : Seen} → WritesListed Is uri rows s s to to (Err (outs.Memory 0))
writes_none {Is} {uri} {rows} {s} {to} = record {
  captures = [];
  first = λ bytes held is. inl refl;
  all = λ bytes held is. tt;
  count = tt;
  reported = tt;
  cut = none_out to.reports rows;
  inside = λ bytes is off. refl;
  keeps = record { kept = refl; watched = refl };
  fails = record { may = refl; failed = λ bytes held is. refl };
  cause = refl;
}

all_outcomes : (records : List Record) (positions : List ℕ) (captures : List CaptureSeen) → length captures ≡ length positions → AreFirstOutcomes records positions captures
    → AreOutcomes records positions captures
all_outcomes records positions captures size are =
    let whole : take (length captures) positions ≡ positions = take_all (length captures) positions (omega (arith, size)) in
    subst (λ (l : List ℕ). AreOutcomes records l captures) whole are

-- ---- the captures that are listed

-- each is a record's
pub listed_inside : (uri : Option (List ℕ)) (records : List Placed) (positions : List ℕ) → AreListed uri records positions → (p : ℕ) → Contains positions p → p < length (contents records)
listed_inside None records positions are p in_ = captures_inside (map row_of records) records refl p (subst (λ l. Contains l p) are in_)
listed_inside (Some uri) records positions are p in_ =
    let found = (are.each p).0 in_ in
    omega (arith, slice_get_within (map indexed_record records) p found.it found.there, length-map records indexed_record, length-map records (λ (r : Placed). r.content))

-- the lines of these positions, which are those of what is listed
low_in : (uri : Option (List ℕ)) {rows : List Row} {index : Indexes} {parts : Parts} (positions given : List ℕ) (bytes : List ℕ) (of : IsArchiveOf bytes rows) → given ≡ positions → AreOf of.are.records index parts
    → AreListed uri of.are.records positions → AreIndexedAt rows index parts given bytes
low_in uri positions given bytes of same kept listed =
    (of, kept, λ p in_. listed_inside uri of.are.records positions listed p (subst (λ (l : List ℕ). Contains l p) same in_))

outcomes_in : (records : List Record) (positions given : List ℕ) (captures : List CaptureSeen) → given ≡ positions → AreFirstOutcomes records given captures → AreFirstOutcomes records positions captures
outcomes_in records positions given captures same are = subst (λ (l : List ℕ). AreFirstOutcomes records l captures) same are

module _ {Is : List ℕ → Type 0} {Right : List Placed → Type 0} {uri : Option (List ℕ)} {rows : List Row} {index : Indexes} {parts : Parts} {old new : SeenSource} {to end : Seen} (positions given : List ℕ) (same : given ≡ positions)
    (are : (bytes : List ℕ) → Is bytes → (is : IsArchiveOf bytes rows) × AreOf is.are.records index parts × Right is.are.records × AreListed uri is.are.records positions) where
  pub writes_front : {e : OutFault} → SendsCaptures Right rows index parts given old new to end (Err e) → WritesListed Is uri rows old new to end (Err e)
  writes_front {e} sends = record {
    captures = sends.captures;
    first = λ bytes held is.
        let (of, kept, right, listed) = are bytes is in
        inr (record { is = of; positions = positions; listed = listed; outcomes = outcomes_in (contents of.are.records) positions given sends.captures same (sends.are bytes held of kept right) });
    all = λ bytes held is. tt;
    count = tt;
    reported = tt;
    cut = sends.cut;
    inside = λ bytes is. let (of, kept, right, listed) = are bytes is in sends.inside bytes (of, kept);
    keeps = sends.keeps;
    fails = fails_as (Unit {0}) ℕ (fails_more (λ bytes held is. let (of, kept, right, listed) = are bytes is in low_in uri positions given bytes of same kept listed) sends.fails);
    cause = sends.cause;
  }

  pub writes_all : (n : ℕ) → n ≡ length positions → SendsCaptures Right rows index parts given old new to end (Ok tt) → WritesListed Is uri rows old new to end (Ok n)
  writes_all n count sends =
      let size : length sends.captures ≡ length positions = sends.all ∙ ap length same in
      record {
        captures = sends.captures;
        first = λ bytes held is.
            let (of, kept, right, listed) = are bytes is in
            inr (record { is = of; positions = positions; listed = listed; outcomes = outcomes_in (contents of.are.records) positions given sends.captures same (sends.are bytes held of kept right) });
        all = λ bytes held is.
            let (of, kept, right, listed) = are bytes is in
            record {
              is = of;
              positions = positions;
              listed = listed;
              outcomes = all_outcomes (contents of.are.records) positions sends.captures size (outcomes_in (contents of.are.records) positions given sends.captures same (sends.are bytes held of kept right));
            };
        count = count ∙ sym size;
        reported = sends.reported;
        cut = tt;
        inside = λ bytes is. let (of, kept, right, listed) = are bytes is in sends.inside bytes (of, kept);
        keeps = sends.keeps;
        fails = fails_never sends.fails.may;
        cause = sends.cause;
      }

-- ---- a line in pieces

-- what went out of a line is a front of it
pub reported_front : (line : List ℕ) (old new : Seen) (sent : ℕ) → WentOut old.reports line new.reports sent → new.faults ≡ raised old.faults → Reports line old new
reported_front line old new sent went failed = record {
  count = went.count;
  front = went.reported;
  whole = λ same small. absurd (never old.faults (sym failed ∙ same) small);
}
  where
    never : (n : ℕ) → raised n ≡ n → n + 1 < 2 ^ 64 → ⊥
    never n same small = by_test (nat_lt (n + 1) (2 ^ 64)) (lt-ltb (n + 1) (2 ^ 64) small) same
      where
        by_test : (b : Bool) → b ≡ true → (if b then n + 1 else n) ≡ n → ⊥
        by_test true e f = omega (arith, f)
        by_test false e f = absurd (cc e)

pub reported_whole : (line : List ℕ) (old new : Seen) → new.reports ≡ append_known old.reports line → Reports line old new
reported_whole line old new reported = record {
  count = length line;
  front = reported ∙ ap (append_known old.reports) (sym (take_all (length line) line (omega arith)));
  whole = λ same small. refl;
}

pub coded_line : (text codings : List ℕ) → concat (text ∷ codes " coded" ∷ codings ∷ codes "\n" ∷ []) ≡ text ++ (codes " coded" ++ codings) ++ codes "\n"
coded_line text codings = simp append_assoc

-- The lines of captures, each put when its capture was judged.
use Rattle.std.proofs.Common.{◌≡◌, inl, inr, ℕ, suc, ◌+◌, ◌<◌, List, [], ◌∷◌, ◌++◌, length, map, take, drop, get_or, Option, Result, Ok, Err, append_assoc, length-append, take_all, refl, sym, ap, subst, ◌∙◌, arith}
use Rattle.std.specs.Prelude.{Contains}
use Rattle.std.specs.List.{AllByRecursion}
use Rattle.std.proofs.Math.Seq.{take-append-add}
use Rattle.std.proofs.lemmas.List.{append-nil, length-take, take-append-drop, take_more, take-take}
use Rattle.std.proofs.lemmas.Bool.{cases_lt}
use Rattle.std.proofs.lemmas.List.Elements.{Contains-append_left, Contains-append_right, Contains-push}
use Rattle.std.proofs.lemmas.Result.{IfErr-weaker, on_ok_weaker}
use Rattle.warc_frame.specs.Device.{Staged}
use Rattle.warc_frame.specs.Count.{raised}
use Rattle.warc_frame.specs.Effects.{FailsBy, Flushes, Preserves, Puts}
use Rattle.warc_frame.specs.Failing.{failed_by}
use Rattle.warc_frame.specs.Record.{Record}
use Rattle.warc_frame.specs.Seen.{IfHeld, Seen, SeenSource}
use Rattle.warc_frame.specs.Send.{IsStaged, WentOut, sent_of}
use Rattle.warc_frame.specs.declared.fault.OutFault.{OutFault}
use Rattle.warc_frame.specs.declared.fault.OutFault.TheVariants as outs
use Rattle.warc_frame.specs.declared.send.SendFault.{SendFault}
use Rattle.warc_frame.proofs.EffectLemmas.{fails_after, fails_more, fails_never}
use Rattle.warc_frame.proofs.LawLemmas.{longer, same_out, same_staged, staged_went_out}
use Rattle.warc_index.specs.Orders.{Indexes}
use Rattle.warc_segment.specs.Kept.{Kept as Parts}
use Rattle.warc_answer.specs.Seen.{IsEarly}
use Rattle.warc_answer.specs.declared.answer.ReplayFault.TheVariants.{Out}
use Rattle.warc_reading.specs.Archive.{IsArchiveOf, contents}
use Rattle.warc_lookup.specs.Indexed.{AreOf}
use Rattle.warc_reading.specs.Row.{Placed, Row}
use Rattle.warc_replay.specs.Captures.{capture_line, captures_text}
use Rattle.warc_replay.specs.Capturing.{AreFirstOutcomes, AreIndexedAt, IsIndexedAt, PutsCaptures, SendsCaptures, ended_after}
use Rattle.warc_replay.specs.Outcomes.{CaptureSeen, IsOutcome}
use Rattle.warc_replay.specs.Replaying.{AsksInside}
use Rattle.warc_replay.proofs.CaptureLemmas.{asks_then, map-appended, text_more}
use Rattle.warc_replay.proofs.OriginLemmas.{preserves_both}

-- ---- an end before a line

ended_sent : (fault : OutFault) (sent : ℕ) → sent_of (ended_after fault sent) ≡ sent
ended_sent (outs.Read n) sent = refl
ended_sent (outs.Write n) sent = refl
ended_sent (outs.Memory n) sent = refl

ended_sound : (fault : OutFault) (sent n : ℕ) → IsEarly (Out fault) → n ≡ failed_by {X = Unit {0}} (Err (ended_after fault sent)) n
ended_sound (outs.Read k) sent n early = refl
ended_sound (outs.Write k) sent n early = absurd early
ended_sound (outs.Memory k) sent n early = refl

ended_fails : (X : Type 0) {Expected : List ℕ → Type 0} {old new : SeenSource} (fault : OutFault) (sent : ℕ) → FailsBy {X = X} Expected (Err fault) old new
    → FailsBy {X = Unit {0}} Expected (Err (ended_after fault sent)) old new
ended_fails X (outs.Read n) sent has = record { may = has.may; failed = has.failed }
ended_fails X (outs.Write n) sent has = record { may = has.may; failed = has.failed }
ended_fails X (outs.Memory n) sent has = record { may = has.may; failed = has.failed }

-- ---- outcomes of the first captures

each_both : {Y : Type 0} (P : Y → Type 0) (xs ys : List Y) → AllByRecursion P xs → AllByRecursion P ys → AllByRecursion P (xs ++ ys)
each_both P [] ys one two = two
each_both P (x ∷ xs) ys one two = (one.0, each_both P xs ys one.1 two)

abbrev chosen : CaptureSeen → ℕ
chosen c = c.chosen

outcomes_both : (records : List Record) (ps qs : List ℕ) (cs ds : List CaptureSeen) → length cs ≡ length ps → AreFirstOutcomes records ps cs → AreFirstOutcomes records qs ds
    → AreFirstOutcomes records (ps ++ qs) (cs ++ ds)
outcomes_both records ps qs cs ds all one two =
    let whole : take (length cs) ps ≡ ps = take_all (length cs) ps (omega (arith, all)) in
    let size : length ps + length ds ≡ length (cs ++ ds) = omega (arith, all, length-append cs ds) in
    record {
      chosen = map-appended chosen cs ds ∙ (λ i. one.chosen i ++ two.chosen i) ∙ ap (λ l. l ++ take (length ds) qs) whole
          ∙ sym (take-append-add ps qs (length ds)) ∙ ap (λ n. take n (ps ++ qs)) size;
      each = each_both (IsOutcome records) cs ds one.each two.each;
    }

-- of the first positions
length-chosen : (l : List CaptureSeen) → length (map chosen l) ≡ length l
length-chosen [] = refl
length-chosen (c ∷ l) = ap suc (length-chosen l)

front_of : (k n : ℕ) (l : List ℕ) → k ≡ length (take k (take n l)) → take k (take n l) ≡ take k l
front_of k n l size = elim (cases_lt n k) [
  | inl less ↦ absurd (omega (arith, less, size, length-take k (take n l), length-take n l))
  | inr more ↦ take-take k n l more
]

outcomes_front : (records : List Record) (n : ℕ) (ps : List ℕ) (cs : List CaptureSeen) → AreFirstOutcomes records (take n ps) cs → AreFirstOutcomes records ps cs
outcomes_front records n ps cs are =
    let same : length (map chosen cs) ≡ length (take (length cs) (take n ps)) = ap length are.chosen in
    record {
      chosen = are.chosen ∙ front_of (length cs) n ps (sym (length-chosen cs) ∙ same);
      each = are.each;
    }

-- ---- one capture

indexed_one : (rows : List Row) (index : Indexes) (parts : Parts) (position : ℕ) (bytes : List ℕ) → AreIndexedAt rows index parts (position ∷ []) bytes → IsIndexedAt rows index parts position bytes
indexed_one rows index parts position bytes (is, are, low) = (is, are, low position (Contains-push [] position))

abbrev pub Judged : (Right : List Placed → Type 0) (rows : List Row) (index : Indexes) (parts : Parts) (old : SeenSource) (c : CaptureSeen) → Type 0
Judged Right rows index parts old c = IfHeld old.holds (λ bytes. (is : IsArchiveOf bytes rows) → AreOf is.are.records index parts → Right is.are.records → IsOutcome (contents is.are.records) c)

one_outcome : (records : List Record) (position : ℕ) (c : CaptureSeen) → c.chosen ≡ position → IsOutcome records c → AreFirstOutcomes records (position ∷ []) (c ∷ [])
one_outcome records position c same is = record { chosen = ap (λ n. n ∷ []) same; each = (is, tt) }

none_yet : (records : List Record) (positions : List ℕ) → AreFirstOutcomes records positions []
none_yet records [] = record { chosen = refl; each = tt }
none_yet records (p ∷ ps) = record { chosen = refl; each = tt }

module _ (Right : List Placed → Type 0) (rows : List Row) (index : Indexes) (parts : Parts) (position : ℕ) where
  -- a read failed before the line
  pub puts_none : {X : Type 0} {old new : SeenSource} {to : Seen} {waits : Staged} (fault e : OutFault) (sent : ℕ) → e ≡ ended_after fault sent → sent ≡ waits.sent → IsEarly (Out fault)
      → AsksInside rows index parts old new → Preserves old new → FailsBy {X = X} (IsIndexedAt rows index parts position) (Err fault) old new
      → PutsCaptures Right rows index parts (position ∷ []) old new to to waits waits (Err e)
  puts_none {X} {old} {new} {to} {waits} fault e sent is is_sent early inside keeps fails =
      let P : OutFault → Type 0 = λ f. PutsCaptures Right rows index parts (position ∷ []) old new to to waits waits (Err f) in
      subst P (sym is) (record {
        captures = [];
        are = λ bytes held of are right. none_yet (contents of.are.records) (position ∷ []);
        all = tt;
        out = λ start output staged. tt;
        cut = λ start output staged.
            let out = longer (captures_text rows []) (staged_went_out start to.reports output waits staged) in
            (let Q : ℕ → Type 0 = λ n. WentOut start (output ++ captures_text rows []) to.reports n in subst Q (sym is_sent ∙ sym (ended_sent fault sent)) out);
        inside = inside;
        keeps = keeps;
        fails = fails_more (λ bytes held are. indexed_one rows index parts position bytes are) (ended_fails X fault sent fails);
        cause = ended_sound fault sent to.faults early;
      })

  -- the line was put, or a write failed
  module _ {old new : SeenSource} (c : CaptureSeen) (same : c.chosen ≡ position) (judged : Judged Right rows index parts old c) (inside : AsksInside rows index parts old new) (keeps : Preserves old new) (sound : new.faults ≡ old.faults) where
    line : captures_text rows (c ∷ []) ≡ capture_line rows c
    unfolding captures_text
    line = append-nil (capture_line rows c)

    pub puts_one : {X : Type 0} {x : X} {to end : Seen} {waits waiting : Staged} → Puts to end waits waiting (Ok x) (capture_line rows c)
        → PutsCaptures Right rows index parts (position ∷ []) old new to end waits waiting (Ok tt)
    puts_one puts = record {
      captures = c ∷ [];
      are = λ bytes held of are right. one_outcome (contents of.are.records) position c same (judged bytes held of are right);
      all = refl;
      out = λ start output staged. same_staged (ap (λ l. output ++ l) (sym line)) (puts.out start output staged);
      cut = λ start output staged. tt;
      inside = inside;
      keeps = keeps;
      fails = fails_never sound;
      cause = puts.cause;
    }

    pub puts_cut : {X : Type 0} {f : SendFault} {to end : Seen} {waits waiting : Staged} → Puts {X = X} to end waits waiting (Err f) (capture_line rows c)
        → PutsCaptures Right rows index parts (position ∷ []) old new to end waits waiting (Err (outs.Write f.sent))
    puts_cut puts = record {
      captures = c ∷ [];
      are = λ bytes held of are right. one_outcome (contents of.are.records) position c same (judged bytes held of are right);
      all = tt;
      out = λ start output staged. tt;
      cut = λ start output staged. same_out (ap (λ l. output ++ l) (sym line)) (puts.cut start output staged);
      inside = inside;
      keeps = keeps;
      fails = record { may = sound; failed = λ bytes held is. sound };
      cause = puts.cause;
    }

-- ---- one capture after another

-- nothing is put
pub puts_nothing : {Right : List Placed → Type 0} {rows : List Row} {index : Indexes} {parts : Parts} {s : SeenSource} {to : Seen} {waits : Staged} → PutsCaptures Right rows index parts [] s s to to waits waits (Ok tt)
unfolding captures_text
puts_nothing {Right} {rows} {index} {parts} {s} {to} {waits} = record {
  captures = [];
  are = λ bytes held of are right. none_yet (contents of.are.records) [];
  all = refl;
  out = λ start output staged. same_staged (sym (append-nil output)) staged;
  cut = λ start output staged. tt;
  inside = λ bytes is off. refl;
  keeps = record { kept = refl; watched = refl };
  fails = fails_never refl;
  cause = refl;
}

-- no memory for what is found
pub puts_unkept : {Right : List Placed → Type 0} {rows : List Row} {index : Indexes} {parts : Parts} {positions : List ℕ} {s : SeenSource} {to : Seen} {waits : Staged} (sent : ℕ) → sent ≡ waits.sent
    → PutsCaptures Right rows index parts positions s s to to waits waits (Err (outs.Memory sent))
puts_unkept {Right} {rows} {index} {parts} {positions} {s} {to} {waits} sent is_sent = record {
  captures = [];
  are = λ bytes held of are right. none_yet (contents of.are.records) positions;
  all = tt;
  out = λ start output staged. tt;
  cut = λ start output staged.
      let out = longer (captures_text rows []) (staged_went_out start to.reports output waits staged) in
      (let Q : ℕ → Type 0 = λ n. WentOut start (output ++ captures_text rows []) to.reports n in subst Q (sym is_sent) out);
  inside = λ bytes is off. refl;
  keeps = record { kept = refl; watched = refl };
  fails = record { may = refl; failed = λ bytes held is. refl };
  cause = refl;
}

module _ {rows : List Row} {index : Indexes} {parts : Parts} where
  low_left : (ps qs : List ℕ) (bytes : List ℕ) → AreIndexedAt rows index parts (ps ++ qs) bytes → AreIndexedAt rows index parts qs bytes
  low_left ps qs bytes (is, are, low) = (is, are, λ p in_. low p (Contains-append_right ps qs p in_))

  pub puts_both : {One Two : List Placed → Type 0} {ps qs : List ℕ} {answer : Result (Unit {0}) OutFault} {old mid new : SeenSource} {to then end : Seen} {waits waited waiting : Staged}
      → PutsCaptures One rows index parts ps old mid to then waits waited (Ok tt) → PutsCaptures Two rows index parts qs mid new then end waited waiting answer
      → IfHeld old.holds (λ bytes. (is : IsArchiveOf bytes rows) → AreOf is.are.records index parts → One is.are.records → Two is.are.records)
      → PutsCaptures One rows index parts (ps ++ qs) old new to end waits waiting answer
  puts_both {One} {Two} {ps} {qs} {answer} {old} {mid} {new} {to} {then} {end} {waits} {waited} {waiting} first second gives =
      let text : captures_text rows (first.captures ++ second.captures) ≡ captures_text rows first.captures ++ captures_text rows second.captures = text_more rows first.captures second.captures in
      record {
        captures = first.captures ++ second.captures;
        are = λ bytes held of are right.
            outcomes_both (contents of.are.records) ps qs first.captures second.captures first.all (first.are bytes held of are right)
            (second.are bytes (first.keeps.kept ∙ held) of are (gives bytes held of are right));
        all = on_ok_weaker answer (λ all. omega (arith, first.all, all, length-append first.captures second.captures, length-append ps qs)) second.all;
        out = λ start output staged.
            on_ok_weaker answer (same_staged (append_assoc output (captures_text rows first.captures) (captures_text rows second.captures) ∙ ap (λ l. output ++ l) (sym text)))
            (second.out start (output ++ captures_text rows first.captures) (first.out start output staged));
        cut = λ start output staged.
            IfErr-weaker answer _ _ (λ e. same_out (append_assoc output (captures_text rows first.captures) (captures_text rows second.captures) ∙ ap (λ l. output ++ l) (sym text)))
            (second.cut start (output ++ captures_text rows first.captures) (first.out start output staged));
        inside = asks_then new first.keeps first.inside second.inside;
        keeps = preserves_both first.keeps second.keeps;
        fails = fails_after first.keeps.kept first.fails.may (fails_more (λ bytes held is. low_left ps qs bytes is) second.fails);
        cause = second.cause ∙ ap (failed_by answer) first.cause;
      }

  low_front : (n : ℕ) (ps : List ℕ) (bytes : List ℕ) → AreIndexedAt rows index parts ps bytes → AreIndexedAt rows index parts (take n ps) bytes
  low_front n ps bytes (is, are, low) =
      (is, are, λ p in_. low p (subst (λ l. Contains l p) (take-append-drop n ps) (Contains-append_left (take n ps) (drop n ps) p in_)))

  -- an end among the first positions
  pub puts_front : {Right : List Placed → Type 0} (n : ℕ) {ps : List ℕ} {e : OutFault} {old new : SeenSource} {to end : Seen} {waits waiting : Staged}
      → PutsCaptures Right rows index parts (take n ps) old new to end waits waiting (Err e) → PutsCaptures Right rows index parts ps old new to end waits waiting (Err e)
  puts_front n {ps} puts = record {
    captures = puts.captures;
    are = λ bytes held of are right. outcomes_front (contents of.are.records) n ps puts.captures (puts.are bytes held of are right);
    all = tt;
    out = puts.out;
    cut = puts.cut;
    inside = puts.inside;
    keeps = puts.keeps;
    fails = fails_more (λ bytes held is. low_front n ps bytes is) puts.fails;
    cause = puts.cause;
  }

  -- captures that are put by what is right are put by whatever implies it
  pub puts_given : {From To : List Placed → Type 0} {ps : List ℕ} {answer : Result (Unit {0}) OutFault} {old new : SeenSource} {to end : Seen} {waits waiting : Staged}
      → ((records : List Placed) → To records → From records) → PutsCaptures From rows index parts ps old new to end waits waiting answer
      → PutsCaptures To rows index parts ps old new to end waits waiting answer
  puts_given gives puts = record {
    captures = puts.captures;
    are = λ bytes held of are right. puts.are bytes held of are (gives of.are.records right);
    all = puts.all;
    out = puts.out;
    cut = puts.cut;
    inside = puts.inside;
    keeps = puts.keeps;
    fails = puts.fails;
    cause = puts.cause;
  }

  pub sends_given : {From To : List Placed → Type 0} {ps : List ℕ} {answer : Result (Unit {0}) OutFault} {old new : SeenSource} {to end : Seen}
      → ((records : List Placed) → To records → From records) → SendsCaptures From rows index parts ps old new to end answer
      → SendsCaptures To rows index parts ps old new to end answer
  sends_given gives sends = record {
    captures = sends.captures;
    are = λ bytes held of are right. sends.are bytes held of are (gives of.are.records right);
    all = sends.all;
    reported = sends.reported;
    cut = sends.cut;
    inside = sends.inside;
    keeps = sends.keeps;
    fails = sends.fails;
    cause = sends.cause;
  }

  -- of the same positions
  pub puts_whole : {Right : List Placed → Type 0} {ps qs : List ℕ} {answer : Result (Unit {0}) OutFault} {old new : SeenSource} {to end : Seen} {waits waiting : Staged} → ps ≡ qs
      → PutsCaptures Right rows index parts ps old new to end waits waiting answer → PutsCaptures Right rows index parts qs old new to end waits waiting answer
  puts_whole {Right} {ps} {qs} {answer} {old} {new} {to} {end} {waits} {waiting} same puts =
      subst (λ (l : List ℕ). PutsCaptures Right rows index parts l old new to end waits waiting answer) same puts

  -- of one position more
  pub puts_at : {Right : List Placed → Type 0} {answer : Result (Unit {0}) OutFault} {old new : SeenSource} {to end : Seen} {waits waiting : Staged} (ps : List ℕ) (i : ℕ) → i < length ps
      → PutsCaptures Right rows index parts (take i ps ++ get_or ps i 0 ∷ []) old new to end waits waiting answer
      → PutsCaptures Right rows index parts (take (i + 1) ps) old new to end waits waiting answer
  puts_at ps i low puts = puts_whole (sym (take_more ps i 0 low)) puts

  -- and what waits went out
  pub sends : {Right : List Placed → Type 0} {ps : List ℕ} {X : Type 0} {x : X} {old new : SeenSource} {to then end : Seen} {waits waited waiting : Staged} → ((start : Option (List ℕ)) → IsStaged start [] start waits)
      → PutsCaptures Right rows index parts ps old new to then waits waited (Ok tt) → Flushes then end waited waiting (Ok x)
      → SendsCaptures Right rows index parts ps old new to end (Ok tt)
  sends {Right} {ps} {X} {x} {old} {new} {to} {then} {end} {waits} {waited} {waiting} empty puts flushes = record {
    captures = puts.captures;
    are = puts.are;
    all = puts.all;
    reported = flushes.reported to.reports (captures_text rows puts.captures) (puts.out to.reports [] (empty to.reports));
    cut = tt;
    inside = puts.inside;
    keeps = puts.keeps;
    fails = puts.fails;
    cause = flushes.cause ∙ puts.cause;
  }

  pub sends_cut : {Right : List Placed → Type 0} {ps : List ℕ} {X : Type 0} {f : SendFault} {old new : SeenSource} {to then end : Seen} {waits waited waiting : Staged} → ((start : Option (List ℕ)) → IsStaged start [] start waits)
      → PutsCaptures Right rows index parts ps old new to then waits waited (Ok tt) → Flushes {X = X} then end waited waiting (Err f)
      → SendsCaptures Right rows index parts ps old new to end (Err (outs.Write f.sent))
  sends_cut {Right} {ps} {X} {f} {old} {new} {to} {then} {end} {waits} {waited} {waiting} empty puts flushes = record {
    captures = puts.captures;
    are = puts.are;
    all = tt;
    reported = tt;
    cut = flushes.cut to.reports (captures_text rows puts.captures) (puts.out to.reports [] (empty to.reports));
    inside = puts.inside;
    keeps = puts.keeps;
    fails = record { may = puts.fails.may; failed = λ bytes held is. puts.fails.may };
    cause = flushes.cause ∙ ap raised puts.cause;
  }

  pub sends_front : {Right : List Placed → Type 0} {ps : List ℕ} {e : OutFault} {old new : SeenSource} {to then : Seen} {waits waited : Staged} → ((start : Option (List ℕ)) → IsStaged start [] start waits)
      → PutsCaptures Right rows index parts ps old new to then waits waited (Err e) → SendsCaptures Right rows index parts ps old new to then (Err e)
  sends_front empty puts = record {
    captures = puts.captures;
    are = puts.are;
    all = tt;
    reported = tt;
    cut = puts.cut _ [] (empty _);
    inside = puts.inside;
    keeps = puts.keeps;
    fails = puts.fails;
    cause = puts.cause;
  }

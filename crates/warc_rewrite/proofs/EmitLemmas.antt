-- Texts that are made from the bytes of a source and go to an output, one after another.
use Rattle.std.proofs.Common.{◌≡◌, ℕ, List, [], ◌++◌, Option, Some, Result, Ok, Err, append_assoc, refl, sym, ap, subst, ◌∙◌}
use Rattle.std.proofs.lemmas.List.{append-nil}
use Rattle.std.proofs.lemmas.Result.{IfErr-weaker, on_ok_weaker}
use Rattle.warc_frame.specs.Effects.{Emits, FailsBy, Puts}
use Rattle.warc_frame.specs.Device.{Staged}
use Rattle.warc_frame.specs.Failing.{failed_by}
use Rattle.warc_frame.specs.Seen.{Seen, SeenSource}
use Rattle.warc_frame.specs.Send.{WentOut, ended_by, sent_of}
use Rattle.warc_frame.specs.declared.fault.OutFault.{OutFault}
use Rattle.warc_frame.specs.declared.fault.OutFault.TheVariants.{Write, Memory}
use Rattle.warc_frame.specs.declared.send.SendFault.{SendFault}
use Rattle.warc_frame.proofs.LawLemmas.{same_out, same_staged, staged_went_out, went_out_of_longer}
use Rattle.warc_frame.proofs.EffectLemmas.{fails_after, fails_as, fails_more, fails_never}
use Rattle.warc_reading.proofs.HeadLemmas.{fails_ended}
use Rattle.warc_frame.specs.declared.fault.EarlyFault.{EarlyFault}
use Rattle.warc_frame.specs.declared.fault.EarlyFault.TheVariants.{Read as NotRead, Memory as NoMemory}

-- what the bytes of a source have to give
abbrev pub Giving : Type 1
Giving = List ℕ → List ℕ → Type 0

-- a text in two parts
abbrev pub InTurn : Giving → Giving → Giving
InTurn One Two bytes text = (one two : List ℕ) × (text ≡ one ++ two) × One bytes one × Two bytes two

abbrev pub Begins : Giving → Giving
Begins One bytes text = (one more : List ℕ) × (text ≡ one ++ more) × One bytes one

abbrev pub Gives : Option (List ℕ) → Giving → Giving → Type 0
Gives held From To = (bytes text : List ℕ) → held ≡ Some bytes → From bytes text → To bytes text

-- one text, and then another
pub both : {X Y : Type 0} {One Two All : Giving} {x : X} {answer : Result Y OutFault} {from mid last : SeenSource} {to then end : Seen} {waits waited waiting : Staged}
    → Emits One from mid to then waits waited (Ok x) → Emits Two mid last then end waited waiting answer → Gives from.holds All (InTurn One Two)
    → Emits All from last to end waits waiting answer
both {X} {Y} {One} {Two} {All} {x} {answer} {from} {mid} {last} {to} {then} {end} {waits} {waited} {waiting} first second gives = record {
  out = λ bytes text held says start output is.
      let (one, two, same, is_one, is_two) = gives bytes text held says in
      let whole : (output ++ one) ++ two ≡ output ++ text = append_assoc output one two ∙ ap (λ l. output ++ l) (sym same) in
      on_ok_weaker answer (same_staged whole) (second.out bytes two (first.kept ∙ held) is_two start (output ++ one) (first.out bytes one held is_one start output is));
  cut = λ bytes text held says start output is.
      let (one, two, same, is_one, is_two) = gives bytes text held says in
      let whole : (output ++ one) ++ two ≡ output ++ text = append_assoc output one two ∙ ap (λ l. output ++ l) (sym same) in
      IfErr-weaker answer _ _ (λ e. same_out whole) (second.cut bytes two (first.kept ∙ held) is_two start (output ++ one) (first.out bytes one held is_one start output is));
  cause = second.cause ∙ ap (failed_by answer) first.cause;
  kept = second.kept ∙ first.kept;
  fails = fails_after first.kept first.fails.may
      (fails_more (λ bytes held is.
      let (one, two, same, is_one, is_two) = gives bytes is.0 (sym first.kept ∙ held) is.1 in (two, is_two)) second.fails);
}

-- an end within the first part of a text
pub short : {X Y : Type 0} {One All : Giving} {e : OutFault} {from last : SeenSource} {to end : Seen} {waits waiting : Staged}
    → Emits {X = X} One from last to end waits waiting (Err e) → Gives from.holds All (Begins One)
    → Emits {X = Y} All from last to end waits waiting (Err e)
short {X} {Y} {One} {All} {e} {from} {last} {to} {end} {waits} {waiting} first gives = record {
  out = λ bytes text held says start output is. tt;
  cut = λ bytes text held says start output is.
      let (one, more, same, is_one) = gives bytes text held says in
      let whole : (output ++ one) ++ more ≡ output ++ text = append_assoc output one more ∙ ap (λ l. output ++ l) (sym same) in
      same_out whole (went_out_of_longer start _ (output ++ one) more (sent_of e) (first.cut bytes one held is_one start output is));
  cause = first.cause;
  kept = first.kept;
  fails = fails_as X Y
      (fails_more (λ bytes held is. let (one, more, same, is_one) = gives bytes is.0 held is.1 in (one, is_one)) first.fails);
}

-- what sends one text sends the whole, if the whole is that text
pub given : {X : Type 0} {One All : Giving} {answer : Result X OutFault} {from last : SeenSource} {to end : Seen} {waits waiting : Staged}
    → Emits One from last to end waits waiting answer → Gives from.holds All One → Emits All from last to end waits waiting answer
given {X} {One} {All} {answer} {from} {last} {to} {end} {waits} {waiting} first gives = record {
  out = λ bytes text held says. first.out bytes text held (gives bytes text held says);
  cut = λ bytes text held says. first.cut bytes text held (gives bytes text held says);
  cause = first.cause;
  kept = first.kept;
  fails = fails_more (λ bytes held is. (is.0, gives bytes is.0 held is.1)) first.fails;
}

-- a text that is put
pub of_put : {X Y : Type 0} {x : X} {y : Y} {line : List ℕ} {from : SeenSource} {to end : Seen} {waits waiting : Staged}
    → Puts to end waits waiting (Ok x) line → Emits (λ bytes text. text ≡ line) from from to end waits waiting (Ok y)
of_put {X} {Y} {x} {y} {line} puts = record {
  out = λ bytes text held says start output is. same_staged (ap (λ l. output ++ l) (sym says)) (puts.out start output is);
  cut = λ bytes text held says start output is. tt;
  kept = refl;
  cause = puts.cause;
  fails = fails_never refl;
}

pub of_cut_put : {X Y : Type 0} {line : List ℕ} {e : SendFault} {from : SeenSource} {to end : Seen} {waits waiting : Staged}
    → Puts {X = X} to end waits waiting (Err e) line → Emits {X = Y} (λ bytes text. text ≡ line) from from to end waits waiting (Err (Write e.sent))
of_cut_put {X} {Y} {line} {e} puts = record {
  out = λ bytes text held says start output is. tt;
  cut = λ bytes text held says start output is. same_out (ap (λ l. output ++ l) (sym says)) (puts.cut start output is);
  kept = refl;
  cause = puts.cause;
  fails = record { may = refl; failed = λ bytes held is. refl };
}

-- nothing
pub nothing : {X : Type 0} {x : X} {from : SeenSource} {to : Seen} {waits : Staged} → Emits (λ bytes text. text ≡ []) from from to to waits waits (Ok x)
nothing {X} {x} = record {
  out = λ bytes text held says start output is. same_staged (sym (ap (λ l. output ++ l) says ∙ append-nil output)) is;
  cut = λ bytes text held says start output is. tt;
  kept = refl;
  cause = refl;
  fails = fails_never refl;
}

-- an end before the text, because an allocation failed
pub unkept : {X : Type 0} {All : Giving} {from : SeenSource} {to : Seen} {waits : Staged} (sent : ℕ) → sent ≡ waits.sent
    → Emits {X = X} All from from to to waits waits (Err (Memory sent))
unkept {X} {All} {from} {to} {waits} sent is_sent = record {
  out = λ bytes text held says start output is. tt;
  cut = λ bytes text held says start output is.
      let out = went_out_of_longer start _ output text waits.sent (staged_went_out start _ output waits is) in
      (let P : ℕ → Type 0 = λ n. WentOut start (output ++ text) to.reports n in subst P (sym is_sent) out);
  kept = refl;
  cause = refl;
  fails = record { may = refl; failed = λ bytes held is. refl };
}

-- nothing, though the source was read
pub of_read : {X : Type 0} {x : X} {from last : SeenSource} {to : Seen} {waits : Staged} → last.holds ≡ from.holds → last.faults ≡ from.faults
    → Emits (λ bytes text. text ≡ []) from last to to waits waits (Ok x)
of_read {X} {x} kept sound = record {
  out = λ bytes text held says start output is. same_staged (sym (ap (λ l. output ++ l) says ∙ append-nil output)) is;
  cut = λ bytes text held says start output is. tt;
  kept = kept;
  cause = refl;
  fails = fails_never sound;
}

-- an end before the text, for a head that isn't read again
ended_sent : (fault : EarlyFault) (e : OutFault) (sent : ℕ) → e ≡ ended_by fault sent → sent_of e ≡ sent
ended_sent NotRead e sent is = ap sent_of is
ended_sent NoMemory e sent is = ap sent_of is

ended_sound : (X : Type 0) (fault : EarlyFault) (e : OutFault) (sent n : ℕ) → e ≡ ended_by fault sent → n ≡ failed_by {X = X} (Err e) n
ended_sound X NotRead e sent n is = ap (λ f. failed_by {X = X} (Err f) n) (sym is)
ended_sound X NoMemory e sent n is = ap (λ f. failed_by {X = X} (Err f) n) (sym is)

pub of_fault : {X : Type 0} {All : Giving} {from last : SeenSource} {to : Seen} {waits : Staged} {Expected : List ℕ → Type 0}
    (fault : EarlyFault) (e : OutFault) (sent : ℕ) → e ≡ ended_by fault sent → sent ≡ waits.sent
    → last.holds ≡ from.holds → FailsBy {X = Unit {0}} Expected (Err (ended_by fault 0)) from last
    → ((bytes text : List ℕ) → All bytes text → Expected bytes) → Emits {X = X} All from last to to waits waits (Err e)
of_fault {X} {All} {from} {last} {to} {waits} {Expected} fault e sent is is_sent kept fails expected = record {
  out = λ bytes text held says start output is. tt;
  cut = λ bytes text held says start output staged.
      let out = went_out_of_longer start _ output text waits.sent (staged_went_out start _ output waits staged) in
      (let P : ℕ → Type 0 = λ n. WentOut start (output ++ text) to.reports n in subst P (sym (ended_sent fault e sent is ∙ is_sent)) out);
  kept = kept;
  cause = ended_sound X fault e sent to.faults is;
  fails = fails_ended fault e sent is (fails_more (λ bytes held it. expected bytes it.0 it.1) fails);
}

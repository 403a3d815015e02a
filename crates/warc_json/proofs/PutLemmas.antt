-- Texts put one after another.
use Rattle.std.proofs.Common.{◌≡◌, ℕ, List, ◌++◌, append_assoc, Result, Ok, Err, Option, is_err, if◌then◌else◌, subst, sym, ap, ◌∙◌}
use Rattle.std.proofs.lemmas.Result.{IfErr-weaker, on_ok_weaker}
use Rattle.warc_frame.specs.Count.{raised}
use Rattle.warc_frame.specs.Device.{Staged}
use Rattle.warc_frame.specs.Effects.{Puts, SendsText}
use Rattle.warc_frame.specs.Seen.{Seen}
use Rattle.warc_frame.specs.declared.fault.OutFault.{OutFault}
use Rattle.warc_frame.specs.declared.send.SendFault.{SendFault}
use Rattle.warc_frame.proofs.LawLemmas.{longer, same_out, same_staged}

-- a text whose first part failed
pub puts_failed : {X Y : Type 0} {old new : Seen} {waits waiting : Staged} {answer : Result Y SendFault} {e : SendFault} (a b : List ℕ)
    → Puts {X = X} old new waits waiting (Err e) a → answer ≡ Err e → Puts {X = Y} old new waits waiting answer (a ++ b)
puts_failed {X} {Y} {old} {new} {waits} {waiting} {answer} {e} a b puts is =
    subst (λ r. Puts {X = Y} old new waits waiting r (a ++ b)) (sym is) (record {
      out = λ start output is. tt;
      cut = λ start output is. same_out (append_assoc output a b) (longer b (puts.cut start output is));
      cause = puts.cause;
      left = puts.left;
    })

-- a text after one that was put
pub puts_next : {X Y : Type 0} {old mid new : Seen} {waits between waiting : Staged} {x : X} {answer : Result Y SendFault} (a b : List ℕ)
    → Puts {X = X} old mid waits between (Ok x) a → Puts {X = Y} mid new between waiting answer b → Puts {X = Y} old new waits waiting answer (a ++ b)
puts_next {X} {Y} {old} {mid} {new} {waits} {between} {waiting} {x} {answer} a b first second = record {
  out = λ start output is. on_ok_weaker answer (same_staged (append_assoc output a b)) (second.out start (output ++ a) (first.out start output is));
  cut = λ start output is. IfErr-weaker answer _ _ (λ e out. same_out (append_assoc output a b) out) (second.cut start (output ++ a) (first.out start output is));
  cause = second.cause ∙ ap (λ f. if is_err answer then raised f else f) first.cause;
  left = second.left;
}

pub puts_same : {X : Type 0} {old new : Seen} {waits waiting : Staged} {answer : Result X SendFault} {a b : List ℕ} → a ≡ b → Puts old new waits waiting answer a
    → Puts old new waits waiting answer b
puts_same {X} {old} {new} {waits} {waiting} {answer} same puts = let P : List ℕ → Type 0 = λ l. Puts old new waits waiting answer l in subst P same puts

pub sends_same : {X : Type 0} {old new : Seen} {answer : Result X OutFault} {a b : List ℕ} → a ≡ b → SendsText old new answer a → SendsText old new answer b
sends_same {X} {old} {new} {answer} same sends = let P : List ℕ → Type 0 = λ l. SendsText old new answer l in subst P same sends

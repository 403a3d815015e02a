-- Texts that are put one after another, and verdicts that heads claim.
use Rattle.std.proofs.Common.{◌≡◌, ℕ, zero, suc, ◌+◌, ◌<◌, ◌≤◌, min, Bool, List, [], ◌∷◌, ◌++◌, length, map, take, add-one, append_assoc, Result, Ok, Err, IfErr, OnOk, is_err, if◌then◌else◌, get_or, refl, sym, ap, ap₂, ◌∙◌, arith}
use Rattle.std.proofs.Math.ListN.{set}
use Rattle.std.proofs.lemmas.List.{map-append}
use Rattle.std.proofs.lemmas.Result.{IfErr-weaker, on_ok_weaker}
use Rattle.warc_value.specs.declared.hash.Verdict.{Verdict}
use Rattle.warc_frame.specs.Count.{raised}
use Rattle.warc_frame.specs.Device.{Staged}
use Rattle.warc_frame.specs.Effects.{Puts}
use Rattle.warc_frame.specs.Seen.{Seen}
use Rattle.warc_frame.specs.declared.send.SendFault.{SendFault}
use Rattle.warc_frame.proofs.LawLemmas.{longer, same_out, same_staged}
use Rattle.warc_reading.specs.Row.{Placed}
use Rattle.warc_judged.specs.Summary.{is_numbered}
use Rattle.warc_judged.specs.Claims.{SurveyMarks, claimed_on, settled_claim, settled_claims}

-- a text after another one
pub puts_then : {X Y : Type 0} {old mid new : Seen} {waits staged waiting : Staged} {x : X} {answer : Result Y SendFault} {a b : List ℕ}
    → Puts old mid waits staged (Ok x) a → Puts mid new staged waiting answer b → Puts old new waits waiting answer (a ++ b)
puts_then {X} {Y} {old} {mid} {new} {waits} {staged} {waiting} {x} {answer} {a} {b} first second = record {
  out = λ start output is. on_ok_weaker answer (same_staged (append_assoc output a b)) (second.out start (output ++ a) (first.out start output is));
  cut = λ start output is. IfErr-weaker answer _ _ (λ e went. same_out (append_assoc output a b) went) (second.cut start (output ++ a) (first.out start output is));
  cause = second.cause ∙ ap (λ n. if is_err answer then raised n else n) first.cause;
  left = second.left;
}

-- a text whose write failed, and another one that would follow
pub puts_cut : {X Y : Type 0} {old new : Seen} {waits waiting : Staged} {e : SendFault} {a : List ℕ} (b : List ℕ)
    → Puts {X = X} old new waits waiting (Err e) a → Puts {X = Y} old new waits waiting (Err e) (a ++ b)
puts_cut {X} {Y} {old} {new} {waits} {waiting} {e} {a} b puts = record {
  out = λ start output is. tt;
  cut = λ start output is. same_out (append_assoc output a b) (longer b (puts.cut start output is));
  cause = puts.cause;
  left = puts.left;
}

-- ---- claims that are settled

settled_step : (cs vs : List Verdict) (i : ℕ) (c v : Verdict) → i < length cs → i < length vs
    → set (settled_claims cs (take i vs)) i (settled_claim (get_or (settled_claims cs (take i vs)) i c) (get_or vs i v)) ≡ settled_claims cs (take (suc i) vs)
settled_step [] vs i c v low less = absurd (omega (arith, low))
settled_step (d ∷ cs) [] i c v low less = absurd (omega (arith, less))
settled_step (d ∷ []) (w ∷ ws) zero c v low less = refl
settled_step (d ∷ e ∷ cs) (w ∷ ws) zero c v low less = refl
settled_step (d ∷ cs) (w ∷ ws) (suc i) c v low less = ap (λ l. settled_claim d w ∷ l) (settled_step cs ws i c v (omega (arith, low)) (omega (arith, less)))

-- the next claim is settled
pub settled_next : (cs vs : List Verdict) (i : ℕ) (c v : Verdict) → i < length cs → i < length vs
    → set (settled_claims cs (take i vs)) i (settled_claim (get_or (settled_claims cs (take i vs)) i c) (get_or vs i v)) ≡ settled_claims cs (take (i + 1) vs)
settled_next cs vs i c v low less = settled_step cs vs i c v low less ∙ ap (λ n. settled_claims cs (take n vs)) (sym (add-one i))

-- nothing is settled yet
pub settled_none : (cs : List Verdict) → settled_claims cs [] ≡ cs
settled_none [] = refl
settled_none (c ∷ cs) = refl

-- all that can be settled are
pub settled_rest : (cs vs : List Verdict) (n : ℕ) → min (length cs) (length vs) ≤ n → settled_claims cs (take n vs) ≡ settled_claims cs vs
settled_rest [] vs n le = refl
settled_rest (c ∷ cs) [] zero le = refl
settled_rest (c ∷ cs) [] (suc n) le = refl
settled_rest (c ∷ cs) (v ∷ vs) zero le = absurd (omega (arith, le))
settled_rest (c ∷ cs) (v ∷ vs) (suc n) le = ap (λ l. settled_claim c v ∷ l) (settled_rest cs vs n (omega (arith, le)))

-- one more record's marks
pub marks_more : {E : Type 0} (answer : Result (Unit {0}) E) (old new : SurveyMarks) (records : List Placed) (p : Placed) (segmented : Bool) (claim : Verdict)
    → (old.segmented ≡ map is_numbered records) × (old.claims ≡ map claimed_on records) → segmented ≡ is_numbered p → claim ≡ claimed_on p
    → OnOk answer ((new.segmented ≡ old.segmented ++ segmented ∷ []) × (new.claims ≡ old.claims ++ claim ∷ []))
    → OnOk answer ((new.segmented ≡ map is_numbered (records ++ p ∷ [])) × (new.claims ≡ map claimed_on (records ++ p ∷ [])))
marks_more (Ok u) old new records p segmented claim is numbered claims added = (
  added.0 ∙ ap₂ (λ (l : List Bool) (x : Bool). l ++ x ∷ []) is.0 numbered ∙ sym (map-append is_numbered records (p ∷ [])),
  added.1 ∙ ap₂ (λ (l : List Verdict) (x : Verdict). l ++ x ∷ []) is.1 claims ∙ sym (map-append claimed_on records (p ∷ [])),
)
marks_more (Err e) old new records p segmented claim is numbered claims added = tt

-- What went out of an output, piece by piece.
use Rattle.std.proofs.Common.{◌≡◌, ℕ, ◌+◌, ◌-◌, ◌^◌, ◌<◌, List, [], length, take, ◌++◌, min, Option, Some, None, Result, Ok, Err, refl, ap, sym, ◌∙◌, arith, append_assoc, append-nil}
use Rattle.std.specs.Prelude.{OnOk}
use Rattle.std.proofs.lemmas.Grind.{common_steps}
use Rattle.std.proofs.Math.Seq.{take-append-add}
use Rattle.std.specs.Io.KnownBytes.{append_known}
use Rattle.warc_frame.specs.Count.{capped}
use Rattle.warc_frame.specs.Device.{Staged}
use Rattle.warc_frame.specs.Send.{IsStaged, WentOut}

pub append_known-append : (o : Option (List ℕ)) (xs ys : List ℕ) → append_known (append_known o xs) ys ≡ append_known o (xs ++ ys)
append_known-append None xs ys = refl
append_known-append (Some zs) xs ys = ap (λ l. Some l) (append_assoc zs xs ys)

-- sums of counts that stop stop as the sum does
pub capped-add : (a b n m : ℕ) → a ≡ capped n → m ≡ min (a + b) (2 ^ 64 - 1) → m ≡ capped (n + b)
capped-add a b n m h e = omega arith

-- a front of the next piece went out
pub went_out_more : (start before now : Option (List ℕ)) (gone piece : List ℕ) (old n new : ℕ) → before ≡ append_known start gone → old ≡ capped (length gone) → now ≡ append_known before (take n piece) → n < length piece → new ≡ min (old + n) (2 ^ 64 - 1) → WentOut start (gone ++ piece) now new
went_out_more start before now gone piece old n new reported number took short sum = record {
  count = length gone + n;
  within = grind (arith, common_steps);
  reported = took ∙ ap (λ o. append_known o (take n piece)) reported ∙ append_known-append start gone (take n piece) ∙ ap (λ l. append_known start l) (sym (take-append-add gone piece n));
  number = capped-add old n (length gone) new number sum;
}

-- a piece that went out after what had gone, with nothing waiting
pub sent_is_staged : {X Y : Type 0} (answer : Result X Y) (start now : Option (List ℕ)) (output gone piece : List ℕ) (buffer : Staged) → output ≡ gone → buffer.bytes ≡ []
    → OnOk answer (now ≡ append_known start (gone ++ piece)) → OnOk answer (buffer.sent ≡ capped (length (gone ++ piece)))
    → OnOk answer (IsStaged start (output ++ piece) now buffer)
sent_is_staged (Ok x) start now output gone piece buffer same empty reported number = record {
  gone = gone ++ piece;
  whole = ap (λ l. l ++ piece) same ∙ sym (append-nil (gone ++ piece)) ∙ ap (λ l. (gone ++ piece) ++ l) (sym empty);
  reported = reported;
  number = number;
}
sent_is_staged (Err e) start now output gone piece buffer same empty reported number = tt

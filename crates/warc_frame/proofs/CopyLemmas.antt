-- Ranges of a source that are added to an output.
use Rattle.std.proofs.Common.{◌≡◌, ℕ, ◌+◌, ◌-◌, ◌≤◌, List, ◌++◌, take, drop, append_assoc, Option, sym, ap, subst, ◌∙◌, arith}
use Rattle.std.proofs.Math.Seq.{take-add}
use Rattle.std.proofs.lemmas.List.{drop-drop}
use Rattle.warc_frame.specs.Device.{Staged}
use Rattle.warc_frame.specs.Send.{IsStaged, WentOut}
use Rattle.warc_frame.proofs.LawLemmas.{went_out_of_longer}

-- what went out of an output went out of an equal one
pub same_out : {start now : Option (List ℕ)} {a b : List ℕ} {sent : ℕ} → a ≡ b → WentOut start a now sent → WentOut start b now sent
same_out {start} {now} {a} {b} {sent} same out = let P : List ℕ → Type 0 = λ l. WentOut start l now sent in subst P same out

pub same_staged : {start now : Option (List ℕ)} {a b : List ℕ} {buffer : Staged} → a ≡ b → IsStaged start a now buffer → IsStaged start b now buffer
same_staged {start} {now} {a} {b} {buffer} same is = let P : List ℕ → Type 0 = λ l. IsStaged start l now buffer in subst P same is

-- one more piece of the range at an offset
pub piece_more : (bytes output piece : List ℕ) (at done n : ℕ) → take n piece ≡ take n (drop (at + done) bytes)
    → (output ++ take done (drop at bytes)) ++ take n piece ≡ output ++ take (done + n) (drop at bytes)
piece_more bytes output piece at done n same =
    append_assoc output (take done (drop at bytes)) (take n piece)
    ∙ (ap (λ l. output ++ (take done (drop at bytes) ++ l)) (same ∙ ap (take n) (sym (drop-drop done at bytes)))
    ∙ ap (λ l. output ++ l) (sym (take-add done n (drop at bytes))))

-- the rest of a range
range_rest : (output text : List ℕ) (done len : ℕ) → done ≤ len → (output ++ take done text) ++ take (len - done) (drop done text) ≡ output ++ take len text
range_rest output text done len within =
    let all : done + (len - done) ≡ len = omega arith in
    append_assoc output (take done text) (take (len - done) (drop done text))
    ∙ (ap (λ l. output ++ l) (sym (take-add done (len - done) text)) ∙ ap (λ k. output ++ take k text) all)

-- what went out of a front of a range went out of the range
pub range_out : {start now : Option (List ℕ)} {sent : ℕ} (output text : List ℕ) (done len : ℕ) → done ≤ len
    → WentOut start (output ++ take done text) now sent → WentOut start (output ++ take len text) now sent
range_out {start} {now} {sent} output text done len within out =
    same_out (range_rest output text done len within)
    (went_out_of_longer start now (output ++ take done text) (take (len - done) (drop done text)) sent out)

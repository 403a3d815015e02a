-- Blocks that wait until they are hashed.
use Rattle.std.proofs.Common.{◌≡◌, ℕ, ◌≤◌, List, [], ◌∷◌, ◌++◌, ◌+◌, length, take, drop, slice_range, append_assoc, length-append, refl, sym, ap, ◌∙◌, arith}
use Rattle.std.proofs.Math.Seq.{drop-append_seam, take-append_seam}
use Rattle.std.proofs.lemmas.List.{length-take-le, map-append}
use Rattle.sha1.specs.Sha1.{sha1}
use Rattle.warc_value.specs.declared.hash.Verdict.{Verdict}
use Rattle.warc_checking.specs.Batch.{AreKeptIn, IsKeptIn, verdict_in, verdict_with, verdicts_in}
use Rattle.warc_checking.specs.declared.batch.Waiting.{Waiting}
use Rattle.warc_checking.proofs.OwnFindingLemmas.{all_more, slice_after, slice_front}

-- bytes that are written after the first ones
pub bytes_more : (used len : ℕ) (all buf rest : List ℕ) → used ≤ length all → length buf ≡ len
    → take (used + len) (take used all ++ (buf ++ rest)) ≡ take used all ++ buf
bytes_more used len all buf rest le is =
    let front = take used all in
    let end : length (front ++ buf) ≡ used + len = omega (arith, length-append front buf, length-take-le used all le, is) in
    ap (take (used + len)) (sym (append_assoc front buf rest)) ∙ ap (λ n. take n ((front ++ buf) ++ rest)) (sym end)
    ∙ take-append_seam (front ++ buf) rest

-- the bytes of further blocks change nothing of the blocks that wait
verdicts_stay : (blocks more : List ℕ) (ws : List Waiting) → AreKeptIn (length blocks) ws
    → verdicts_in (blocks ++ more) ws ≡ verdicts_in blocks ws
verdicts_stay blocks more [] all = refl
verdicts_stay blocks more (w ∷ ws) (here, all) =
    ap (λ l. verdict_with w.check (sha1 l) ∷ verdicts_in (blocks ++ more) ws)
    (slice_front w.start w.end blocks more here.order here.end)
    ∙ ap (λ l. verdict_in blocks w ∷ l) (verdicts_stay blocks more ws all)

kept_longer : (a b : ℕ) (ws : List Waiting) → a ≤ b → AreKeptIn a ws → AreKeptIn b ws
kept_longer a b [] le all = tt
kept_longer a b (w ∷ ws) le (here, all) =
    (record { order = here.order; end = omega (arith, here.end, le) }, kept_longer a b ws le all)

-- one more block, which comes after the others
module _ (old new more : List ℕ) (ws : List Waiting) (is : new ≡ old ++ more)
    (kept : AreKeptIn (length old) ws) where
  longer : length new ≡ length old + length more
  longer = ap length is ∙ length-append old more

  pub kept_still : AreKeptIn (length new) ws
  kept_still = kept_longer (length old) (length new) ws (omega (arith, longer)) kept

  pub verdicts_still : verdicts_in new ws ≡ verdicts_in old ws
  verdicts_still = ap (λ l. verdicts_in l ws) is ∙ verdicts_stay old more ws kept

  module _ (w : Waiting) (start : w.start ≡ length old) (end : w.end ≡ length new) where
    pub kept_more : AreKeptIn (length new) (ws ++ w ∷ [])
    kept_more =
        all_more (IsKeptIn (length new)) ws w kept_still
        (record { order = omega (arith, start, end, longer); end = omega (arith, end) })

    last : verdict_in new w ≡ verdict_with w.check (sha1 (drop (length old) new))
    last =
        let here = ap (λ l. slice_range l w.start w.end) is ∙ slice_after w.start w.end old more start (end ∙ ap length is) in
        let there = ap (drop (length old)) is ∙ drop-append_seam old more in
        ap (λ l. verdict_with w.check (sha1 l)) (here ∙ sym there)

    pub verdicts_more : (verdict : Verdict) → verdict_with w.check (sha1 (drop (length old) new)) ≡ verdict
        → verdicts_in new (ws ++ w ∷ []) ≡ verdicts_in old ws ++ verdict ∷ []
    verdicts_more verdict found =
        map-append (verdict_in new) ws (w ∷ []) ∙ ap (λ l. l ++ verdict_in new w ∷ []) verdicts_still
        ∙ ap (λ v. verdicts_in old ws ++ v ∷ []) (last ∙ found)

-- The records that bytes spell stand where their places say.
use Rattle.std.proofs.Common.{◌≡◌, ℕ, zero, suc, ◌+◌, List, [], ◌∷◌, ◌++◌, length, take, drop, Some, append_assoc, length-append, refl, sym, ap, subst, ◌∙◌, arith}
use Rattle.std.proofs.Math.Seq.{drop-append_seam, take-append_seam}
use Rattle.std.specs.List.{slice_get}
use Rattle.warc_field.specs.Lines.{crlf}
use Rattle.warc_frame.specs.Record.{head_text}
use Rattle.warc_frame.specs.Spelling.{Spells}
use Rattle.warc_reading.specs.Archive.{SpellsFrom}
use Rattle.warc_reading.specs.Row.{Placed}
use Rattle.warc_reading.specs.Placing.{IsPlacedIn}

front_len : (head block : List ℕ) → length (head ++ block ++ crlf ++ crlf) ≡ length head + length block + 4
front_len head block = simp length-append (omega arith)

-- after a head comes the block
block_after : (before head block rest : List ℕ) (start : ℕ) → start ≡ length (before ++ head)
    → take (length block) (drop start (before ++ ((head ++ block ++ crlf ++ crlf) ++ rest))) ≡ block
block_after before head block rest start e =
    let parts : before ++ ((head ++ block ++ crlf ++ crlf) ++ rest) ≡ (before ++ head) ++ (block ++ (crlf ++ crlf ++ rest)) = simp append_assoc in
    ap (λ t. take (length block) (drop start t)) parts
    ∙ (ap (λ n. take (length block) (drop n ((before ++ head) ++ (block ++ (crlf ++ crlf ++ rest))))) e
    ∙ (ap (take (length block)) (drop-append_seam (before ++ head) (block ++ (crlf ++ crlf ++ rest)))
    ∙ take-append_seam block (crlf ++ crlf ++ rest)))

written_here : (q : ℕ) (p : Placed) (before front rest : List ℕ) → q ≡ length before → Spells p.content front → p.offset ≡ q → p.block_start + length p.content.block + 4 ≡ q + length front
    → IsPlacedIn (before ++ (front ++ rest)) p
written_here q p before front rest q_is one here start =
    let head = head_text p.content.version one.area in
    let block = p.content.block in
    let size : length front ≡ length head + length block + 4 = ap length one.text_is ∙ front_len head block in
    let at : p.block_start ≡ length (before ++ head) = omega (arith, start, size, q_is, length-append before head) in
    let text : take (length front) (drop p.offset (before ++ (front ++ rest))) ≡ front =
    ap (λ k. take (length front) (drop k (before ++ (front ++ rest)))) (here ∙ q_is) ∙ ap (take (length front)) (drop-append_seam before (front ++ rest)) ∙ take-append_seam front rest in
    record {
      len = length front;
      order = omega (arith, start, size, here);
      end = omega (arith, start, here);
      within = omega (arith, here, q_is, length-append before (front ++ rest), length-append front rest);
      spells = subst (λ t. Spells p.content t) (sym text) one;
      block = ap (λ t. take (length block) (drop p.block_start (before ++ (t ++ rest)))) one.text_is ∙ block_after before head block rest p.block_start at;
    }

written_from : (q : ℕ) (before : List ℕ) (records : List Placed) (text : List ℕ) → q ≡ length before → SpellsFrom q records text → (i : ℕ) (p : Placed) → slice_get records i ≡ Some p
    → IsPlacedIn (before ++ text) p
written_from q before [] text q_is spelled i p is = absurd (cc is)
written_from q before (r ∷ rs) text q_is (front, rest, one, at, start, text_is, more) zero p is =
    let same : r ≡ p = cc is in
    let P : List ℕ → Type 0 = λ t. IsPlacedIn (before ++ t) p in
    let Q : Placed → Type 0 = λ s. IsPlacedIn (before ++ (front ++ rest)) s in
    subst P (sym text_is) (subst Q same (written_here q r before front rest q_is one at start))
written_from q before (r ∷ rs) text q_is (front, rest, one, at, start, text_is, more) (suc i) p is =
    let size : q + length front ≡ length (before ++ front) = sym (length-append before front ∙ ap (λ n. n + length front) (sym q_is)) in
    let whole : (before ++ front) ++ rest ≡ before ++ text = append_assoc before front rest ∙ ap (λ t. before ++ t) (sym text_is) in
    let P : List ℕ → Type 0 = λ t. IsPlacedIn t p in
    subst P whole (written_from (q + length front) (before ++ front) rs rest size more i p is)

pub written : (bytes : List ℕ) (records : List Placed) → SpellsFrom 0 records bytes → (i : ℕ) (p : Placed) → slice_get records i ≡ Some p → IsPlacedIn bytes p
written bytes records spelled i p is = written_from 0 [] records bytes refl spelled i p is

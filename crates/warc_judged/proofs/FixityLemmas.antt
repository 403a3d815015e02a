-- The lines of blocks that aren't good, and how many blocks have a verdict.
use Rattle.std.proofs.Common.{◌≡◌, ℕ, ◌≤◌, List, [], ◌∷◌, ◌++◌, length, take, drop, append_assoc, codes, decimal, map, Result, Ok, Err, OnOk, refl, sym, ap, ap₂, ◌∙◌, arith}
use Rattle.std.proofs.lemmas.List.{map-append, take_all}
use Rattle.std.specs.List.{concat, enumerate_from, flat_map, join_with_byte}
use Rattle.warc_record.specs.Ids.{bare_text}
use Rattle.warc_reading.specs.Row.{Placed, Row}
use Rattle.warc_value.specs.declared.hash.Verdict.{Verdict}
use Rattle.warc_value.specs.declared.hash.Verdict.TheVariants.{Good, Bad, Unchecked}
use Rattle.warc_judged.specs.Fixity.{Digested, Judgements, counts_line, counts_of, digest_kept, digest_value, fixity_line, fixity_lines, fixity_text, stated_on, unless_good, verdict_line, verdict_text}
use Rattle.warc_judged.specs.Listing.{shown}
use Rattle.warc_judged.proofs.LineLemmas.{lines_front}
use Rattle.warc_judged.specs.declared.digests.Counts.{Counts}

four : (a b c d : List ℕ) → concat ((a ++ 9 ∷ []) ∷ (b ++ 9 ∷ []) ∷ (c ++ 9 ∷ []) ∷ (d ++ 10 ∷ []) ∷ []) ≡ join_with_byte 9 (a ∷ b ∷ c ∷ d ∷ []) ++ 10 ∷ []
four a b c d = simp append_assoc

-- the columns that a line is put together from
pub verdict_from : (position : ℕ) (verdict : Verdict) (row : Row) (digest a b c d : List ℕ) → a ≡ decimal position → b ≡ verdict_text verdict → c ≡ bare_text row.id → d ≡ shown digest
    → concat ((a ++ 9 ∷ []) ∷ (b ++ 9 ∷ []) ∷ (c ++ 9 ∷ []) ∷ (d ++ 10 ∷ []) ∷ []) ≡ verdict_line position verdict row digest
unfolding verdict_line
verdict_from position verdict row digest a b c d is_a is_b is_c is_d = four a b c d ∙ rw (is_a, is_b, is_c, is_d) refl

eight : (a b c d e f g h : List ℕ)
    → concat ((a ++ 32 ∷ []) ∷ (b ++ 32 ∷ []) ∷ (c ++ 32 ∷ []) ∷ (d ++ 32 ∷ []) ∷ (e ++ 32 ∷ []) ∷ (f ++ 32 ∷ []) ∷ (g ++ 32 ∷ []) ∷ (h ++ 10 ∷ []) ∷ [])
    ≡ join_with_byte 32 (a ∷ b ∷ c ∷ d ∷ e ∷ f ∷ g ∷ h ∷ []) ++ 10 ∷ []
eight a b c d e f g h = simp append_assoc

-- the words and numbers that the last line is put together from
pub counts_from : (counts : Counts) (a b c d e f g h : List ℕ) → a ≡ codes "records" → b ≡ decimal counts.records → c ≡ verdict_text Good → d ≡ decimal counts.good → e ≡ verdict_text Bad → f ≡ decimal counts.bad
    → g ≡ verdict_text Unchecked → h ≡ decimal counts.unchecked
    → concat ((a ++ 32 ∷ []) ∷ (b ++ 32 ∷ []) ∷ (c ++ 32 ∷ []) ∷ (d ++ 32 ∷ []) ∷ (e ++ 32 ∷ []) ∷ (f ++ 32 ∷ []) ∷ (g ++ 32 ∷ []) ∷ (h ++ 10 ∷ []) ∷ []) ≡ counts_line counts
unfolding counts_line
counts_from counts a b c d e f g h is_a is_b is_c is_d is_e is_f is_g is_h = eight a b c d e f g h ∙ rw (is_a, is_b, is_c, is_d, is_e, is_f, is_g, is_h) refl

-- the lines of the first rows, and all that follows them
pub all_lines : (judged : Judgements) (rows : List Row) (i : ℕ) (last : List ℕ)
    → fixity_lines judged (take i rows) ++ (flat_map (λ p. fixity_line judged p.0 p.1) (enumerate_from (length (take i rows)) (drop i rows)) ++ last) ≡ fixity_lines judged rows ++ last
all_lines judged rows i last =
    let rest = flat_map (λ p. fixity_line judged p.0 p.1) (enumerate_from (length (take i rows)) (drop i rows)) in
    sym (append_assoc (fixity_lines judged (take i rows)) rest last) ∙ ap (λ t. t ++ last) (sym (lines_front (fixity_line judged) rows i))

-- equal listings have the same rows, and the same found of their blocks
pub same_listed : {S : Type 0} {a b : Digested S} → a ≡ b → a.listing.rows ≡ b.listing.rows
same_listed {S} same = ap (λ (d : Digested S). d.listing.rows) same

pub same_judged : {S : Type 0} {a b : Digested S} → a ≡ b → a.judged ≡ b.judged
same_judged {S} same = ap (λ (d : Digested S). d.judged) same

-- all lines, and the last one
pub whole_text : (judged : Judgements) (rows : List Row) (i len : ℕ) (counts : Counts) → len ≡ length rows → len ≤ i → counts ≡ counts_of judged.verdicts
    → fixity_lines judged (take i rows) ++ counts_line counts ≡ fixity_text rows judged
whole_text judged rows i len counts size past is =
    ap (λ t. fixity_lines judged t ++ counts_line counts) (take_all i rows (omega (arith, size, past))) ∙ ap (λ k. fixity_lines judged rows ++ counts_line k) is

-- what is kept of a record that was read in place
pub digests_more : {E : Type 0} (answer : Result (Unit {0}) E) (old new : Judgements) (records : List Placed) (p : Placed) (verdict : Verdict) (value : List ℕ)
    → (old.verdicts ≡ map stated_on records) × (old.digests ≡ map digest_kept records) → verdict ≡ stated_on p → digest_value p.content.fields ≡ value
    → OnOk answer ((new.verdicts ≡ old.verdicts ++ verdict ∷ []) × (new.digests ≡ old.digests ++ unless_good verdict value ∷ []))
    → OnOk answer ((new.verdicts ≡ map stated_on (records ++ p ∷ [])) × (new.digests ≡ map digest_kept (records ++ p ∷ [])))
digests_more (Ok u) old new records p verdict value is judged stated added = (
  added.0 ∙ ap₂ (λ (l : List Verdict) (x : Verdict). l ++ x ∷ []) is.0 judged ∙ sym (map-append stated_on records (p ∷ [])),
  added.1 ∙ ap₂ (λ (l : List (List ℕ)) (x : List ℕ). l ++ x ∷ []) is.1 (ap₂ unless_good judged (sym stated)) ∙ sym (map-append digest_kept records (p ∷ [])),
)
digests_more (Err e) old new records p verdict value is judged stated added = tt

-- The lines of payloads that aren't good.
use Rattle.std.proofs.Common.{◌≡◌, ℕ, ◌≤◌, List, [], ◌∷◌, ◌++◌, length, take, drop, append_assoc, decimal, refl, sym, ap, ◌∙◌, arith}
use Rattle.std.proofs.lemmas.List.{take_all}
use Rattle.std.specs.List.{concat, enumerate_from, flat_map, join_with_byte}
use Rattle.warc_record.specs.Ids.{bare_text}
use Rattle.warc_reading.specs.Row.{Row}
use Rattle.warc_judged.specs.Fixity.{counts_line, verdict_text}
use Rattle.warc_judged.specs.Listing.{shown}
use Rattle.warc_replay.specs.PayloadText.{payload_counts, payload_line, payload_line_at, payload_lines, payloads_text, plain_verdict, reason_of}
use Rattle.warc_replay.specs.PayloadVerdicts.{PayloadJudgements}
use Rattle.warc_judged.specs.declared.digests.Counts.{Counts}
use Rattle.warc_replay.specs.declared.record.payload.PayloadVerdict.{PayloadVerdict}
use Rattle.warc_judged.proofs.LineLemmas.{lines_front}

five : (a b c d e : List ℕ) → concat ((a ++ 9 ∷ []) ∷ (b ++ 9 ∷ []) ∷ (c ++ 9 ∷ []) ∷ (d ++ 9 ∷ []) ∷ (e ++ 10 ∷ []) ∷ []) ≡ join_with_byte 9 (a ∷ b ∷ c ∷ d ∷ e ∷ []) ++ 10 ∷ []
five a b c d e = simp append_assoc

-- the columns that a line is put together from
pub payload_from : (position : ℕ) (verdict : PayloadVerdict) (row : Row) (digest a b c d e : List ℕ) → a ≡ decimal position → b ≡ verdict_text (plain_verdict verdict) → c ≡ bare_text row.id → d ≡ reason_of verdict
    → e ≡ shown digest
    → concat ((a ++ 9 ∷ []) ∷ (b ++ 9 ∷ []) ∷ (c ++ 9 ∷ []) ∷ (d ++ 9 ∷ []) ∷ (e ++ 10 ∷ []) ∷ []) ≡ payload_line position verdict row digest
unfolding payload_line
payload_from position verdict row digest a b c d e is_a is_b is_c is_d is_e = five a b c d e ∙ rw (is_a, is_b, is_c, is_d, is_e) refl

-- the lines of the first rows, and all that follows them
pub all_payload_lines : (judged : PayloadJudgements) (rows : List Row) (i : ℕ) (last : List ℕ)
    → payload_lines judged (take i rows) ++ (flat_map (λ p. payload_line_at judged p.0 p.1) (enumerate_from (length (take i rows)) (drop i rows)) ++ last) ≡ payload_lines judged rows ++ last
all_payload_lines judged rows i last =
    let rest = flat_map (λ p. payload_line_at judged p.0 p.1) (enumerate_from (length (take i rows)) (drop i rows)) in
    sym (append_assoc (payload_lines judged (take i rows)) rest last) ∙ ap (λ t. t ++ last) (sym (lines_front (payload_line_at judged) rows i))

-- all lines, and the last one
pub whole_payloads : (judged : PayloadJudgements) (rows : List Row) (i len : ℕ) (counts : Counts) → len ≡ length rows → len ≤ i → counts ≡ payload_counts judged.verdicts
    → payload_lines judged (take i rows) ++ counts_line counts ≡ payloads_text rows judged
whole_payloads judged rows i len counts size past is =
    ap (λ t. payload_lines judged t ++ counts_line counts) (take_all i rows (omega (arith, size, past))) ∙ ap (λ k. payload_lines judged rows ++ counts_line k) is

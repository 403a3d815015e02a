-- Spans that are cut of joined blocks, one block more.
use Rattle.std.proofs.Common.{◌≡◌, ℕ, ◌+◌, ◌-◌, ◌≤◌, ◌<◌, List, [], ◌∷◌, ◌++◌, length, take, drop, get_or, sym, ap, ◌∙◌, arith}
use Rattle.std.specs.Prelude.{min}
use Rattle.std.proofs.lemmas.List.{flat_map_more}
use Rattle.std.proofs.lemmas.List.Elements.{All-append, All-cons, All-nil}
use Rattle.warc_segment.specs.declared.place.Place.{Place}
use Rattle.warc_answer.specs.Located.{AreInside, span_bytes, spans_text}
use Rattle.warc_answer.specs.Places.{LieIn, text_at}
use Rattle.warc_answer.specs.declared.located.Span.{Span}
use Rattle.warc_answer.proofs.PlaceLemmas.{block_more, lies}

-- the bytes of one span more
pub span_text : (bytes : List ℕ) (spans : List Span) (x : Span)
    → spans_text (spans ++ x ∷ []) bytes ≡ spans_text spans bytes ++ span_bytes bytes x
span_text bytes spans x = sym (flat_map_more (span_bytes bytes) [] spans x)

-- the spans of the first blocks, and of one block more
pub span_more : (bytes : List ℕ) (places : List Place) (spans : List Span) (s left gone at i : ℕ) (d : Place)
    → LieIn places bytes → i < length places → left ≡ s - length (text_at (take i places) bytes)
    → gone ≡ min left (get_or places i d).len → at ≡ (get_or places i d).start + gone
    → spans_text spans bytes ≡ drop s (text_at (take i places) bytes)
    → spans_text (spans ++ (record { start = at; len = (get_or places i d).len - gone }) ∷ []) bytes
    ≡ drop s (text_at (take (i + 1) places) bytes)
span_more bytes places spans s left gone at i d lie lt left_is gone_is at_is is =
    let x : Span = record { start = at; len = (get_or places i d).len - gone } in
    span_text bytes spans x
    ∙ (ap (λ l. l ++ span_bytes bytes x) is ∙ block_more bytes [] places s left gone at i d lie lt left_is gone_is at_is)

-- a span of a block is within the bytes
pub within_more : (bytes : List ℕ) (places : List Place) (spans : List Span) (left gone at i : ℕ) (d : Place)
    → LieIn places bytes → i < length places → gone ≡ min left (get_or places i d).len
    → at ≡ (get_or places i d).start + gone → AreInside spans bytes
    → AreInside (spans ++ (record { start = at; len = (get_or places i d).len - gone }) ∷ []) bytes
within_more bytes places spans left gone at i d lie lt gone_is at_is are =
    let x : Span = record { start = at; len = (get_or places i d).len - gone } in
    let one : x.start + x.len ≤ length bytes = omega (arith, lies bytes places i d lie lt) in
    All-append (λ (s : Span). s.start + s.len ≤ length bytes) spans (x ∷ []) are
    (All-cons (λ (s : Span). s.start + s.len ≤ length bytes) x [] one (All-nil (λ (s : Span). s.start + s.len ≤ length bytes)))

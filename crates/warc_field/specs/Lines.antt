-- A text cut at each CRLF, and cut into lines, which a space or tab after a CRLF continues (WARC 1.1, 4; RFC 2616,
-- 2.2).
use Rattle.std.specs.Prelude.{ℕ, suc, slice_index_or, Bool, true, false, not, ◌&&◌, ◌==◌, List, [], ◌∷◌, ◌++◌, drop, if◌then◌else◌}
use Rattle.std.specs.List.{prefix_len, flat_map}
use Rattle.warc_field.specs.Text.{is_blank}

-- the end of a line: carriage return, line feed
abbrev pub crlf : List ℕ
crlf = 13 ∷ 10 ∷ []

abbrev pub is_crlf : ℕ → ℕ → Bool
is_crlf b c = b == 13 && c == 10

-- whether a space or tab comes first
abbrev pub begins_blank : List ℕ → Bool
begins_blank [] = false
begins_blank (b ∷ bs) = is_blank b

-- whether a CRLF is at place k, and whether a line ends there
abbrev pub crlf_at : List ℕ → ℕ → Bool
crlf_at t k = is_crlf (slice_index_or t k 0) (slice_index_or t (suc k) 0)

abbrev pub ends_at : List ℕ → ℕ → Bool
ends_at t k = crlf_at t k && not (is_blank (slice_index_or t (suc (suc k)) 0))

-- whether an empty line is there: two CRLFs in a row
abbrev pub empty_at : List ℕ → ℕ → Bool
empty_at t k = crlf_at t k && crlf_at t (suc (suc k))

-- the first of the parts, with b before it
abbrev pub in_front : ℕ → List (List ℕ) → List (List ℕ)
in_front b [] = []
in_front b (p ∷ ps) = (b ∷ p) ∷ ps

-- the parts around each CRLF: one more than there are CRLFs
unfoldable pub parts : List ℕ → List (List ℕ)
parts [] = [] ∷ []
parts (b ∷ []) = (b ∷ []) ∷ []
parts (b ∷ c ∷ bs) = elim (is_crlf b c) [ true ↦ [] ∷ parts bs | false ↦ in_front b (parts (c ∷ bs)) ]

-- the lines of a text, cut at each CRLF that no space or tab follows; the last one has no end
unfoldable pub lines : List ℕ → List (List ℕ)
lines [] = [] ∷ []
lines (b ∷ []) = (b ∷ []) ∷ []
lines (b ∷ c ∷ bs) =
    elim (is_crlf b c && not (begins_blank bs)) [ true ↦ [] ∷ lines bs | false ↦ in_front b (lines (c ∷ bs)) ]

-- what a part after a CRLF becomes: the CRLF and a run of spaces and tabs become one space; any other CRLF stays
abbrev pub continued : List ℕ → List ℕ
continued p = if begins_blank p then 32 ∷ drop (prefix_len is_blank p) p else crlf ++ p

abbrev pub joined_parts : List (List ℕ) → List ℕ
joined_parts [] = []
joined_parts (p ∷ ps) = p ++ flat_map continued ps

-- the text with a space for each CRLF that a space or tab follows and that whole run of spaces and tabs
unfoldable pub unfolded : List ℕ → List ℕ
unfolded text = joined_parts (parts text)

-- Where the chains of referents end, as a table has it that is made for all at once. States of the code: what a reader
-- must believe is the origin of a record (Referents.antt).
use Rattle.std.specs.Prelude.{◌≡◌, ◌⊎◌, ℕ, zero, suc, ◌≤◌, List, [], length, get_or, Option, None, unwrap_or}
use Rattle.warc_index.specs.Captures.{Indexed}
use Rattle.warc_index.specs.Orders.{Indexes, IsIndexOf}
use Rattle.warc_index.specs.Referents.{next_of}

-- the next place of a way, or the place itself where the way ends
abbrev pub onward : (ℕ → Option ℕ) → ℕ → ℕ
onward next p = unwrap_or (next p) p

-- the place that the way from p has reached after n steps, or at which it ended
abbrev pub place_after : (ℕ → Option ℕ) → ℕ → ℕ → ℕ
place_after next zero p = p
place_after next (suc steps) p = place_after next steps (onward next p)

-- the way from p reaches q in n steps or more
pub record Reaches (next : ℕ → Option ℕ) (least p q : ℕ) : Type 0 where
  pub steps : ℕ
  pub enough : least ≤ steps
  pub there : place_after next steps p ≡ q

-- the place that a table has for p: p itself, if it has none
abbrev pub place_for : List ℕ → ℕ → ℕ
place_for places p = get_or places p p

-- past the table no way goes on, and from each p the way reaches the place that the table has for it
pub record AreReached (next : ℕ → Option ℕ) (least : ℕ) (places : List ℕ) : Type 0 where
  pub past : (p : ℕ) → length places ≤ p → next p ≡ None
  pub each : (p : ℕ) → Reaches next least p (place_for places p)

-- a table is of an index: there is none, or from each record the way reaches the place that it has in as many steps as
-- there are records, or in more
abbrev pub AreChainsOf : Indexes → List ℕ → Type 0
AreChainsOf kept places =
    (all : List Indexed) → IsIndexOf all kept → (places ≡ []) ⊎ AreReached (next_of all) (length all) places

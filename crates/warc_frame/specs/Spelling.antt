-- The texts that spell a record, and those that spell a list of records (ISO 28500:2017, which is WARC 1.1: section
-- 4, file and record model). Which of them is canonical is this project's own notion.
use Rattle.std.specs.Prelude.{◌≡◌, ℕ, ◌≤◌, List, [], ◌∷◌, ◌++◌, length}
use Rattle.warc_field.specs.Lines.{crlf}
use Rattle.warc_field.specs.Area.{SpellsFields, canonical_fields}
use Rattle.warc_frame.specs.Record.{Record, IsFramed, head_text, max_head}

-- a head, the block and two CRLFs
abbrev pub record_text : Record → List ℕ → List ℕ
record_text r area = head_text r.version area ++ r.block ++ crlf ++ crlf

-- the text spells the record: its field lines are `area`
pub record Spells (r : Record) (text : List ℕ) : Type 0 where
  pub framed : IsFramed r
  pub area : List ℕ
  pub fields : SpellsFields r.fields area
  pub text_is : text ≡ record_text r area
  pub head : length (head_text r.version area) ≤ max_head

-- the text is a concatenation of texts that spell the records in order
abbrev pub SpellsAll : List Record → List ℕ → Type 0
SpellsAll [] text = text ≡ []
SpellsAll (r ∷ rs) text = (front rest : List ℕ) × Spells r front × (text ≡ front ++ rest) × SpellsAll rs rest

-- the text in which each field is written as name, colon, space, value
unfoldable pub canonical : Record → List ℕ
canonical r = record_text r (canonical_fields r.fields)

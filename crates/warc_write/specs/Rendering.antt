-- What is written of a list of records (ISO 28500:2017, which is WARC 1.1: section 4, file and record model: an
-- archive is a concatenation of records).
use Rattle.std.specs.Prelude.{◌≡◌, ◌↔◌, ℕ, List}
use Rattle.std.specs.List.{AllByRecursion, flat_map}
use Rattle.warc_frame.specs.Record.{Record}
use Rattle.warc_frame.specs.Spelling.{SpellsAll, canonical}
use Rattle.warc_record.specs.Good.{IsGood}

-- the canonical texts of records, one after another
abbrev pub canonical_texts : List Record → List ℕ
canonical_texts records = flat_map canonical records

-- each of the records is good
abbrev pub AllGood : List Record → Type 0
AllGood records = AllByRecursion IsGood records

-- what is written of good records spells these, and no other list
abbrev pub RenderedOpensAsSame : Type 0
RenderedOpensAsSame =
    (records others : List Record) → AllGood records → SpellsAll others (canonical_texts records) ↔ (others ≡ records)

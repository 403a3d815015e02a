-- What is left of an output at a cursor: an archive's records in a form, split or some of them. This project's own
-- notion.
use Rattle.std.specs.Prelude.{◌≡◌, ◌<◌, ◌≤◌, ℕ, ◌+◌, ⊤, List, [], ◌∷◌, ◌++◌, length, drop, slice_get, Option, Some, None, Result, Ok, Err}
use Rattle.std.specs.List.{flat_map}
use Rattle.warc_frame.specs.Record.{Record}
use Rattle.warc_reading.specs.Row.{Row}
use Rattle.warc_frame.specs.declared.fault.EarlyFault.{EarlyFault}
use Rattle.warc_frame.specs.declared.fault.EarlyFault.TheVariants.{Memory}
use Rattle.warc_write.specs.Cutting.{split_or_whole}
use Rattle.warc_write.specs.Rendering.{canonical_texts}
use Rattle.warc_rewrite.specs.Forms.{split_text}
use Rattle.warc_rewrite.specs.Selecting.{selected_text}
use Rattle.warc_portions.specs.Portions.{IsPortionOf}
use Rattle.warc_portions.specs.declared.next.Cursor.{Cursor}
use Rattle.warc_portions.specs.declared.portion.Portion.{Portion}

-- what is left of an output at a cursor
abbrev pub Left : Type 0
Left = Cursor → List ℕ

-- what is left at a cursor is this text and what is left at the next cursor, which is one that may be
abbrev pub IsFollowed : Left → (Cursor → Type 0) → Cursor → List ℕ → Cursor → Type 0
IsFollowed left MayBe cursor text next = (left cursor ≡ text ++ left next) × MayBe next

-- what is left at a cursor is a portion and what is left at the next cursor, or memory ran out
abbrev pub IsNextPortion : {A : Type 0} → Left → (Cursor → Type 0) → Cursor → List ℕ
    → Result (Portion A × Cursor) EarlyFault → Type 0
IsNextPortion left MayBe cursor lent (Ok given) =
    (text : List ℕ) × IsPortionOf given.0 lent text × IsFollowed left MayBe cursor text given.1
IsNextPortion left MayBe cursor lent (Err fault) = fault ≡ Memory

-- the cursor of an output's first portion
abbrev pub first_cursor : Cursor
first_cursor = record { place = 0; segment = 0 }

-- the cursor after the record at a cursor's place
abbrev pub after_record : Cursor → Cursor
after_record cursor = record { place = cursor.place + 1; segment = 0 }

-- any cursor may be
abbrev pub IsAny : Cursor → Type 0
IsAny cursor = ⊤

-- what is left of the texts of records
abbrev pub left_of : (Record → List ℕ) → List Record → Left
left_of text_of records cursor = flat_map text_of (drop cursor.place records)

-- what is left of the records at positions of an archive
abbrev pub left_selected : List Row → List ℕ → List ℕ → Left
left_selected rows positions bytes cursor = selected_text rows (drop cursor.place positions) bytes

-- the records that are written in the place of the one at a place, split into segments of n bytes
abbrev pub split_some : ℕ → Option Record → List Record
split_some n None = []
split_some n (Some r) = split_or_whole n r

abbrev pub split_at : ℕ → List Record → ℕ → List Record
split_at n records place = split_some n (slice_get records place)

-- what is left of records that are split: of the one at the cursor's place what comes after some segments
abbrev pub left_split : ℕ → List Record → Left
left_split n records cursor = canonical_texts (drop cursor.segment (split_at n records cursor.place))
    ++ flat_map (split_text n) (drop (cursor.place + 1) records)

-- a segment is left of the record at the cursor's place, if there is a record
abbrev pub IsInSplit : ℕ → List Record → Cursor → Type 0
IsInSplit n records cursor = cursor.place < length records
    → cursor.segment < length (split_at n records cursor.place)

-- ---- laws

-- texts, each with the cursor after it, up to the end of an output
abbrev pub AreToEnd : Left → Cursor → List (List ℕ × Cursor) → Type 0
AreToEnd left cursor [] = left cursor ≡ []
AreToEnd left cursor (portion ∷ more) = (left cursor ≡ portion.0 ++ left portion.1) × AreToEnd left portion.1 more

-- all portions, one after another, are what is left
abbrev pub PortionsAreAll : Type 0
PortionsAreAll = (left : Left) (cursor : Cursor) (portions : List (List ℕ × Cursor)) → AreToEnd left cursor portions
    → left cursor ≡ flat_map (λ portion. portion.0) portions

-- at the first cursor all of the split records' texts are left, and a segment of the first one
abbrev pub SplitBegins : Type 0
SplitBegins = (n : ℕ) (records : List Record) → (left_split n records first_cursor ≡ flat_map (split_text n) records)
    × IsInSplit n records first_cursor

-- after the last record nothing is left, in any form and of split records; nor after the last position
pub record NothingIsLeft (records : List Record) (cursor : Cursor) : Type 0 where
  pub of_texts : (text_of : Record → List ℕ) → left_of text_of records cursor ≡ []
  pub of_split : (n : ℕ) → left_split n records cursor ≡ []

abbrev pub EndsAfterRecords : Type 0
EndsAfterRecords = (records : List Record) (cursor : Cursor) → length records ≤ cursor.place
    → NothingIsLeft records cursor

abbrev pub EndsAfterPositions : Type 0
EndsAfterPositions = (rows : List Row) (positions bytes : List ℕ) (cursor : Cursor) → length positions ≤ cursor.place
    → left_selected rows positions bytes cursor ≡ []

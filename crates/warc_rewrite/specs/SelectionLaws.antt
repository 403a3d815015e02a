-- The laws of selections.
use Rattle.std.specs.Prelude.{◌≡◌, ℕ, List, length}
use Rattle.std.specs.List.{range_with_len}
use Rattle.warc_reading.specs.Archive.{IsArchiveOf, contents}
use Rattle.warc_rewrite.specs.Selecting.{ArePositions, at_positions, selected_text}
use Rattle.warc_reading.specs.Row.{Row}

-- what is written of the records at positions of an archive is an archive
abbrev pub SelectionIsAnArchive : Type 0
SelectionIsAnArchive = (bytes : List ℕ) (rows : List Row) (positions : List ℕ) → IsArchiveOf bytes rows
    → ArePositions (length rows) positions
    → (others : List Row) × IsArchiveOf (selected_text rows positions bytes) others

-- and its records are those at the positions, in their order
abbrev pub SelectionIsOfTheSelected : Type 0
SelectionIsOfTheSelected = (bytes : List ℕ) (rows : List Row) (is : IsArchiveOf bytes rows) (positions : List ℕ)
    (others : List Row) (other : IsArchiveOf (selected_text rows positions bytes) others)
    → contents other.are.records ≡ at_positions (contents is.are.records) positions

-- what is written of all records is the archive, byte for byte
abbrev pub AllGiveTheArchive : Type 0
AllGiveTheArchive = (bytes : List ℕ) (rows : List Row) → IsArchiveOf bytes rows
    → selected_text rows (range_with_len 0 (length rows)) bytes ≡ bytes

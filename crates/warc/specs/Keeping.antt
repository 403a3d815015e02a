-- How much is kept of an archive.
use Rattle.std.specs.Prelude.{ℕ, ◌+◌, length}
use Rattle.std.specs.List.{sum_by}
use Rattle.warc_index.specs.Orders.{text_bytes}
use Rattle.warc_reading.specs.Row.{texts_len}
use Rattle.warc_lookup.specs.Indexed.{Archived}

-- the texts of the rows, those by which records are found, and the keys of the records that segments are of
abbrev pub kept_bytes : {S : Type 0} → Archived S → ℕ
kept_bytes archive =
    sum_by texts_len archive.listing.rows + text_bytes archive.index
    + sum_by (λ m. length m.origin) archive.parts.members

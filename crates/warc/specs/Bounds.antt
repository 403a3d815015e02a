-- How much may be kept of an archive: the texts of a head may be kept for two ends, and none more than twice.
use Rattle.std.specs.Prelude.{◌≡◌, ℕ, ◌*◌, ◌-◌, ◌≤◌}
use Rattle.std.specs.List.{sum_by}
use Rattle.warc_lookup.specs.Indexed.{Archived}
use Rattle.warc.specs.Keeping.{kept_bytes}
use Rattle.warc_reading.specs.Row.{Row, texts_len}

-- how many bytes the head of a row's record has, from its version line to its empty line
abbrev pub head_length : Row → ℕ
head_length row = row.block_start - row.offset

-- n bytes of texts are kept of an archive: no fewer than the listed texts have, and at most twice as many
-- as its heads have
pub record IsKeptCount {S : Type 0} (archive : Archived S) (n : ℕ) : Type 0 where
  pub exact : n ≡ kept_bytes archive
  pub least : sum_by texts_len archive.listing.rows ≤ n
  pub most : n ≤ 2 * sum_by head_length archive.listing.rows

-- What the flat lists of an archive hold. States of the code: no public clause cites them.
use Rattle.std.specs.Prelude.{◌≡◌, ℕ, ◌+◌, ◌-◌, ◌*◌, ◌^◌, ◌≤◌, List, [], ◌∷◌, length, map, min, slice_range}
use Rattle.std.specs.List.{AllByRecursion}
use Rattle.warc_reading.specs.Row.{Row}
use Rattle.warc_reading.specs.declared.rows.RowEntry.{RowEntry}
use Rattle.warc_reading.specs.declared.rows.Packed.{Packed}
use Rattle.warc_reading.specs.declared.rows.Compact.{Compact}

-- the row of an entry, whose texts lie one after another in the bytes
abbrev pub row_at : List ℕ → RowEntry → Row
row_at texts e = record {
  offset = e.offset;
  block_start = e.block_start;
  block_len = e.block_len;
  is_truncated = e.is_truncated;
  kind = slice_range texts e.kind_start e.kind_end;
  date = slice_range texts e.kind_end e.date_end;
  id = slice_range texts e.date_end e.id_end;
  target = slice_range texts e.id_end e.target_end;
}

-- an entry's texts lie among the first n bytes
pub record IsInTexts (count : ℕ) (e : RowEntry) : Type 0 where
  pub kind : e.kind_start ≤ e.kind_end
  pub date : e.kind_end ≤ e.date_end
  pub id : e.date_end ≤ e.id_end
  pub target : e.id_end ≤ e.target_end
  pub end : e.target_end ≤ count

abbrev pub AreWithin : ℕ → List RowEntry → Type 0
AreWithin count entries = AllByRecursion (IsInTexts count) entries

-- the texts of the entries lie one after another from a place on, without a gap, and end at another
abbrev pub ArePacked : ℕ → List RowEntry → ℕ → Type 0
ArePacked start [] end = start ≡ end
ArePacked start (e ∷ es) end = (e.kind_start ≡ start) × IsInTexts e.target_end e × ArePacked e.target_end es end

-- the first n bytes are the texts of the entries, and nothing else
pub record AreFlat (count : ℕ) (entries : List RowEntry) : Type 0 where
  pub within : AreWithin count entries
  pub packed : ArePacked 0 entries count

-- a place that is n after another, up to 2^64 - 1
abbrev pub reach : ℕ → ℕ → ℕ
reach start len = min (start + len) (2 ^ 64 - 1)

-- the number whose six bytes these are
unfoldable pub whole : Compact → ℕ
whole s = s.low + s.middle * 2 ^ 16 + s.high * 2 ^ 32

-- the entry that is kept in 32 bytes
abbrev pub unpacked : Packed → RowEntry
unpacked p = record {
  offset = whole p.offset;
  block_start = reach (whole p.offset) p.head_len;
  block_len = whole p.block_len;
  is_truncated = p.is_truncated;
  kind_start = whole p.start;
  kind_end = reach (whole p.start) p.kind_len;
  date_end = reach (reach (whole p.start) p.kind_len) p.date_len;
  id_end = reach (reach (reach (whole p.start) p.kind_len) p.date_len) p.id_len;
  target_end = reach (reach (reach (reach (whole p.start) p.kind_len) p.date_len) p.id_len) p.target_len;
}

-- what is kept in 32 bytes of a row whose texts begin there
pub record IsPackedOf (start : ℕ) (row : Row) (p : Packed) : Type 0 where
  pub offset : whole p.offset ≡ row.offset
  pub head : reach (whole p.offset) p.head_len ≡ row.block_start
  pub block : whole p.block_len ≡ row.block_len
  pub truncated : p.is_truncated ≡ row.is_truncated
  pub begin : whole p.start ≡ start
  pub kind : p.kind_len ≡ length row.kind
  pub date : p.date_len ≡ length row.date
  pub id : p.id_len ≡ length row.id
  pub target : p.target_len ≡ length row.target

abbrev pub packed_row : List ℕ → Packed → Row
packed_row texts p = row_at texts (unpacked p)

-- the first n bytes are the texts of these entries, and nothing else
pub record AreKept (count : ℕ) (ps : List Packed) : Type 0 where
  pub within : AllByRecursion (λ p. IsInTexts count (unpacked p)) ps
  pub flat : AreFlat count (map unpacked ps)

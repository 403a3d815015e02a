-- Which ids of an archive may occur in it more than once. Each id's key has a bucket, and each bucket has a level: 0,
-- 1 or 2 if it has none, one or more of the archive's ids. An id that is alone in its bucket occurs once. A byte holds
-- the levels of four buckets, two bits each. The bucket of each id is kept.
-- States of the code: no public clause cites them.
use Rattle.std.specs.Prelude.{◌≡◌, ℕ, ◌*◌, ◌/◌, ◌%◌, ◌^◌, ◌<◌, ◌≤◌, false, List, length, Option, Some, slice_index}
use Rattle.std.specs.Hash.FoldHasher.{finish, initial, write}
use Rattle.std.specs.List.{list_any, slice_get}
use Rattle.std.specs.Str.{bytes_eq}
use Rattle.warc_frame.specs.Record.{Record}
use Rattle.warc_record.specs.Ids.{id_key}
use Rattle.warc_checking.specs.Checking.{is_used}
use Rattle.warc_reading.specs.Row.{Row}

-- the bucket of a key, of n buckets
unfoldable pub bucket_of : ℕ → List ℕ → ℕ
bucket_of count key = finish (write initial key) % count

-- how many buckets these bytes hold
abbrev pub buckets_in : List ℕ → ℕ
buckets_in counts = 4 * length counts

-- the level at a place in a byte of four
unfoldable pub level_in : ℕ → ℕ → ℕ
level_in byte place = byte / 2 ^ (2 * place) % 4

-- the level of a bucket
abbrev pub level_at : List ℕ → ℕ → ℕ
level_at counts bucket = level_in (slice_index counts (bucket / 4)) (bucket % 4)

-- how many ids were counted in the bucket of a key, up to 2
abbrev pub level : List ℕ → List ℕ → ℕ
level counts key = level_at counts (bucket_of (buckets_in counts) key)

-- the ids of the first n of these rows were counted, and their buckets were kept
pub record IsTally (n : ℕ) (rows : List Row) (counts buckets : List ℕ) : Type 0 where
  pub some : 0 < length counts
  pub once : (i : ℕ) (row : Row) (key : List ℕ) → i < n → slice_get rows i ≡ Some row → id_key row.id ≡ Some key
      → 0 < level counts key
  pub twice : (i j : ℕ) (a b : Row) (key : List ℕ) → i < j → j < n → slice_get rows i ≡ Some a
      → slice_get rows j ≡ Some b → id_key a.id ≡ Some key → id_key b.id ≡ Some key → 1 < level counts key
  pub kept : (i : ℕ) (row : Row) (key : List ℕ) → i < n → slice_get rows i ≡ Some row → id_key row.id ≡ Some key
      → slice_get buckets i ≡ Some (bucket_of (buckets_in counts) key)

-- the levels of the buckets, the bucket of each row's id, and the keys of the ids in buckets of several that earlier
-- records use
pub record Ids : Type 0 where
  pub counts : List ℕ
  pub buckets : List ℕ
  pub keys : List (List ℕ)

-- of the keys in buckets of several, those of the ids of these records are kept, and no others
abbrev pub HoldsIdsOf : List Record → Ids → Type 0
HoldsIdsOf records ids = (key : List ℕ) → 1 < level ids.counts key
    → list_any (bytes_eq key) ids.keys ≡ is_used records (Some key)

-- a key in a bucket of one is that of no id of these records
abbrev pub IsAlone : List Record → Ids → Option (List ℕ) → Type 0
IsAlone records ids wanted = (key : List ℕ) → wanted ≡ Some key → level ids.counts key ≤ 1
    → is_used records (Some key) ≡ false

-- the bucket at a position is that of a key
abbrev pub IsBucketAt : Ids → ℕ → List ℕ → Type 0
IsBucketAt ids position key = slice_get ids.buckets position ≡ Some (bucket_of (buckets_in ids.counts) key)

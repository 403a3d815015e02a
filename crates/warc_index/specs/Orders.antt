-- What an index keeps of records: the entries of its two orders, and what leads from a revisit to another record. That
-- it is what is kept of certain records is all that callers need to know of it.
use Rattle.std.specs.Prelude.{◌≡◌, ℕ, ◌+◌, ◌<◌, List, [], ◌∷◌, ◌++◌, length, map, All, IsSome, slice_get, Option, Some, None, Result, Ok, if◌then◌else◌}
use Rattle.std.specs.Option.{option_to_list}
use Rattle.std.specs.List.{sum_by}
use Rattle.warc_value.specs.Dates.{Instant}
use Rattle.warc_record.specs.declared.types.Kind.{Kind}
use Rattle.warc_order.specs.declared.mark.Mark.{Mark}
use Rattle.warc_order.specs.Entries.{Entry, entry_of}
use Rattle.warc_index.specs.Captures.{Indexed, is_capture}
use Rattle.warc_index.specs.declared.unfound.Unfound.{Unfound}
use Rattle.warc_index.specs.Referents.{is_revisit_at, referent_at, ok_then}
use Rattle.warc_index.specs.Links.{Link, link_bytes}
use Rattle.warc_index.specs.Linked.{instant_mark, link_of}

-- captures come first
abbrev pub kind_mark : Kind → Mark
kind_mark kind = record { major = if is_capture kind then 0 else 1; minor = 0 }

-- the entry of a record in the order by id, and in the order by target and instant
abbrev pub id_entry_of : ℕ → Mark → Option (List ℕ) → Option Entry
id_entry_of p mark None = None
id_entry_of p mark (Some key) = Some (entry_of key mark p)

abbrev pub id_entry : ℕ → Indexed → Option Entry
id_entry p r = id_entry_of p (kind_mark r.kind) r.id

abbrev pub target_entry : ℕ → Option (List ℕ) → Option Instant → Option Entry
target_entry p None instant = None
target_entry p (Some target) None = None
target_entry p (Some target) (Some instant) = Some (entry_of target (instant_mark instant) p)

abbrev pub capture_entry : ℕ → Indexed → Option Entry
capture_entry p r = if is_capture r.kind then target_entry p r.target r.instant else None

-- the entries of records, the first at position p
abbrev pub entries_from : (ℕ → Indexed → Option Entry) → ℕ → List Indexed → List Entry
entries_from entry p [] = []
entries_from entry p (r ∷ all) = option_to_list (entry p r) ++ entries_from entry (p + 1) all

-- entries of positions below a number
abbrev pub IsBelow : ℕ → List Entry → Type 0
IsBelow n es = All (λ e. e.position < n) es

-- how many records there are, the entries of both orders, and the links of all
pub record Indexes : Type 0 where
  pub count : ℕ
  pub ids : List Entry
  pub captures : List Entry
  pub links : List Link

-- the bytes of their texts
abbrev pub text_bytes : Indexes → ℕ
text_bytes kept =
    sum_by (λ e. length e.text) kept.ids + sum_by (λ e. length e.text) kept.captures + sum_by link_bytes kept.links

-- what is kept of these records, each with its instant
pub record IsIndexOf (all : List Indexed) (kept : Indexes) : Type 0 where
  pub timed : All (λ r. IsSome r.instant) all
  pub count : kept.count ≡ length all
  pub ids : kept.ids ≡ entries_from id_entry 0 all
  pub captures : kept.captures ≡ entries_from capture_entry 0 all
  pub links : kept.links ≡ map link_of all

-- what is kept of the captures and the links of these records
pub record ArePlacedOf (all : List Indexed) (es : List Entry) (ls : List Link) : Type 0 where
  pub timed : All (λ r. IsSome r.instant) all
  pub captures : es ≡ entries_from capture_entry 0 all
  pub links : ls ≡ map link_of all

-- what the record at a position refers to, none if it isn't a revisit
abbrev pub step_of : List Indexed → ℕ → Result (Option ℕ) Unfound
step_of all p = if is_revisit_at all p then ok_then (λ q. Ok (Some q)) (referent_at all (slice_get all p)) else Ok None

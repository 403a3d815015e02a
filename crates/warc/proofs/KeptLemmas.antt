-- How much is kept of an archive: at most twice its heads.
use Rattle.std.proofs.Common.{◌≡◌, ℕ, ◌+◌, ◌*◌, ◌≤◌, Bool, true, false, List, [], ◌∷◌, length, map, codes, Option, None, Some, if◌then◌else◌, length-append, refl, ◌∙◌, ap, arith}
use Rattle.std.specs.Prelude.{option_and_then, option_map, min, nat_le}
use Rattle.std.specs.List.{cons_option, enumerate_from, filter_map, sum_by}
use Rattle.std.specs.Option.{option_to_list}
use Rattle.std.proofs.lemmas.List.Sums.{sum_by-append, sum_by-cons}
use Rattle.warc_field.specs.Area.{first_value}
use Rattle.warc_value.specs.Dates.{Instant}
use Rattle.warc_frame.specs.Record.{head_text}
use Rattle.warc_frame.specs.Spelling.{Spells, record_text}
use Rattle.warc_frame.specs.VersionLine.{version_line}
use Rattle.warc_frame.specs.declared.version.Version.{Version}
use Rattle.warc_order.specs.declared.mark.Mark.{Mark}
use Rattle.warc_order.specs.Entries.{Entry, entry_of}
use Rattle.warc_record.specs.Ids.{id_key}
use Rattle.warc_record.specs.Kinds.{is_continuation}
use Rattle.warc_record.specs.Readings.{both, instant_in, present_bare, unless_empty}
use Rattle.warc_record.proofs.LawLemmas.{keys_are_no_longer}
use Rattle.warc_record.specs.declared.readings.SegmentNumber.{SegmentNumber}
use Rattle.warc_record.specs.declared.readings.SegmentNumber.TheVariants.{Absent, Bad, Number}
use Rattle.warc_record.specs.declared.types.Kind.{Kind}
use Rattle.warc_record.specs.declared.types.Kind.TheVariants.{Resource, Response, Revisit}
use Rattle.warc_index.specs.Captures.{Indexed, is_capture}
use Rattle.warc_index.specs.Linked.{instant_mark, kind_link, link_of, named_link, payload_link, revisit_link, unnamed_link}
use Rattle.warc_index.specs.Links.{link_bytes}
use Rattle.warc_index.specs.Orders.{capture_entry, entries_from, id_entry, id_entry_of, kind_mark, target_entry}
use Rattle.warc_segment.specs.Joined.{PlacedRecord}
use Rattle.warc_segment.specs.Kept.{Kept as Parts, KeptMember, kept_by, kept_of}
use Rattle.warc_reading.specs.Archive.{SpellsFrom}
use Rattle.warc_lookup.specs.Indexed.{Archived, IsIndexed, indexed_record, placed_record}
use Rattle.warc.specs.Keeping.{kept_bytes}
use Rattle.warc_reading.specs.Row.{Placed, row_of, texts_len}
use Rattle.warc.specs.Bounds.{IsKeptCount, head_length}
use Rattle.warc_reading.proofs.FitLemmas.{bare_len, present_len, text_len}
use Rattle.warc_reading.proofs.LengthLemmas.{AreApart, named_in_area, named_len}

read_len : (key : Option (List ℕ)) (n : ℕ) → ((k : List ℕ) → key ≡ Some k → length k ≤ n) → text_len key ≤ n
read_len None n short = omega arith
read_len (Some k) n short = short k refl

key_len : (found : Option (List ℕ)) → text_len (option_and_then id_key found) ≤ text_len found
key_len None = omega arith
key_len (Some value) = read_len (id_key value) (length value) (λ k is. keys_are_no_longer value k is)

-- what is kept of a record by its id, by its target, and for the chain of referents
abbrev entries_len : List Entry → ℕ
entries_len es = sum_by (λ e. length e.text) es

id_len : (p : ℕ) (mark : Mark) (key : Option (List ℕ))
    → entries_len (option_to_list (id_entry_of p mark key)) ≤ text_len key
id_len p mark None = omega arith
id_len p mark (Some key) = omega (arith, sum_by-cons (λ (e : Entry). length e.text) (entry_of key mark p) [])

target_len : (p : ℕ) (target : Option (List ℕ)) (instant : Option Instant)
    → entries_len (option_to_list (target_entry p target instant)) ≤ text_len target
target_len p None instant = omega arith
target_len p (Some target) None = omega arith
target_len p (Some target) (Some instant) =
    omega (arith, sum_by-cons (λ (e : Entry). length e.text) (entry_of target (instant_mark instant) p) [])

capture_len : (b : Bool) (p : ℕ) (r : Indexed)
    → entries_len (option_to_list (if b then target_entry p r.target r.instant else None)) ≤ text_len r.target
capture_len true p r = target_len p r.target r.instant
capture_len false p r = omega arith

payload_len : (digest : Option (List ℕ)) → link_bytes (payload_link digest) ≤ text_len digest
payload_len None = omega arith
payload_len (Some digest) = omega arith

unnamed_len : (digest : Option (List ℕ)) (instant : Option Instant)
    → link_bytes (unnamed_link digest instant) ≤ text_len digest
unnamed_len None instant = omega arith
unnamed_len (Some digest) None = omega arith
unnamed_len (Some digest) (Some instant) = omega arith

abbrev pair_len : Option (List ℕ × Instant) → ℕ
pair_len pair = text_len (option_map (λ (p : List ℕ × Instant). p.0) pair)

named_link_len : (id : Option (List ℕ)) (pair : Option (List ℕ × Instant)) (r : Indexed)
    → link_bytes (named_link id pair r) ≤ text_len r.payload_digest + text_len id + pair_len pair
named_link_len None None r = omega (arith, unnamed_len r.payload_digest r.instant)
named_link_len (Some id) None r = omega arith
named_link_len None (Some pair) r = omega arith
named_link_len (Some id) (Some pair) r = omega arith

abbrev most_linked : Indexed → ℕ
most_linked r =
    text_len r.payload_digest + text_len r.reference.named_id + pair_len r.reference.named_pair

revisit_len : (known : Bool) (r : Indexed) → link_bytes (revisit_link known r) ≤ most_linked r
revisit_len false r = omega arith
revisit_len true r = named_link_len r.reference.named_id r.reference.named_pair r

linked_len : (kind : Kind) (r : Indexed) → link_bytes (kind_link kind r) ≤ most_linked r
linked_len Response r = omega (arith, payload_len r.payload_digest)
linked_len Resource r = omega (arith, payload_len r.payload_digest)
linked_len Revisit r = revisit_len r.reference.known_profile r
linked_len kind r = omega arith

both_len : (target : Option (List ℕ)) (instant : Option Instant) → pair_len (both target instant) ≤ text_len target
both_len None instant = omega arith
both_len (Some target) None = omega arith
both_len (Some target) (Some instant) = omega arith

-- and for the series that it is in
abbrev origin_len : KeptMember → ℕ
origin_len m = length m.origin

abbrev origins_len : List KeptMember → ℕ
origins_len ms = sum_by origin_len ms

abbrev member_len : Option KeptMember → ℕ
member_len None = 0
member_len (Some m) = origin_len m

numbered_len : (b : Bool) (m : KeptMember) → member_len (if b then Some m else None) ≤ origin_len m
numbered_len true m = omega arith
numbered_len false m = omega arith

by_len : (p : ℕ) (r : PlacedRecord) (origin : Option (List ℕ)) (number : SegmentNumber)
    → member_len (kept_by p r origin number) ≤ text_len origin
by_len p r None number = omega arith
by_len p r (Some origin) Absent = omega arith
by_len p r (Some origin) Bad = omega arith
by_len p r (Some origin) (Number k) = numbered_len (nat_le 2 k) _

continuation_len : (b : Bool) (p : ℕ) (r : PlacedRecord) (number : SegmentNumber)
    → member_len (if b then kept_by p r r.head.segment.origin number else None) ≤ text_len r.head.segment.origin
continuation_len true p r number = by_len p r r.head.segment.origin number
continuation_len false p r number = omega arith

members_len : (first : Option KeptMember) (ms : List KeptMember)
    → origins_len (cons_option first ms) ≡ member_len first + origins_len ms
members_len None ms = omega arith
members_len (Some m) ms = sum_by-cons origin_len m ms

-- the names of the fields that texts are kept of
abbrev kept_names : List (List ℕ)
kept_names =
    codes "WARC-Type" ∷ codes "WARC-Date" ∷ codes "WARC-Record-ID" ∷ codes "WARC-Target-URI" ∷ codes "WARC-Payload-Digest"
    ∷ codes "WARC-Refers-To" ∷ codes "WARC-Refers-To-Target-URI" ∷ codes "WARC-Segment-Origin-ID" ∷ []

kept_names_apart : AreApart kept_names
kept_names_apart = (refl, (refl, (refl, (refl, (refl, (refl, (refl, (refl, tt))))))))

-- all that is kept of a record
abbrev record_len : ℕ → Placed → ℕ
record_len n p =
    texts_len (row_of p) + entries_len (option_to_list (id_entry n (indexed_record p)))
    + entries_len (option_to_list (capture_entry n (indexed_record p))) + link_bytes (link_of (indexed_record p))
    + member_len (kept_of (n, placed_record p))

record_short : (n : ℕ) (p : Placed) → record_len n p ≤ 2 * named_len kept_names p.content.fields
record_short n p =
    let fields = p.content.fields in
    let r = indexed_record p in
    let target = first_value (codes "WARC-Target-URI") fields in
    let named = first_value (codes "WARC-Refers-To-Target-URI") fields in
    let id = first_value (codes "WARC-Refers-To") fields in
    let origin = first_value (codes "WARC-Segment-Origin-ID") fields in
    omega (
      arith,
      id_len n (kind_mark r.kind) r.id,
      key_len (first_value (codes "WARC-Record-ID") fields),
      capture_len (is_capture r.kind) n r,
      bare_len (option_and_then unless_empty target),
      present_len target,
      linked_len r.kind r,
      present_len (first_value (codes "WARC-Payload-Digest") fields),
      key_len (option_and_then unless_empty id),
      present_len id,
      both_len (present_bare (codes "WARC-Refers-To-Target-URI") fields) (instant_in (codes "WARC-Refers-To-Date") fields),
      bare_len (option_and_then unless_empty named),
      present_len named,
      continuation_len (is_continuation r.kind) n (placed_record p) (placed_record p).head.segment.number,
      key_len (option_and_then unless_empty origin),
      present_len origin,
    )

head_of : (v : Version) (area : List ℕ) → length area ≤ length (head_text v area)
head_of v area =
    let size : length (head_text v area) ≡ length (version_line v) + length area + 2 = simp length-append (omega arith) in
    omega (arith, size)

-- a record's head, by its row
head_spelled : (q : ℕ) (p : Placed) (front : List ℕ) → Spells p.content front → p.offset ≡ q
    → p.block_start + length p.content.block + 4 ≡ q + length front
    → (named_len kept_names p.content.fields ≤ head_length (row_of p)) × (head_length (row_of p) ≤ length front)
head_spelled q p front is at following =
    let head = head_text p.content.version is.area in
    let size : length (record_text p.content is.area) ≡ length head + length p.content.block + 4 =
    simp length-append (omega arith) in
    let whole : length front ≡ length head + length p.content.block + 4 = ap length is.text_is ∙ size in
    let named = named_in_area kept_names kept_names_apart p.content.fields is.area is.fields in
    let within = head_of p.content.version is.area in
    (omega (arith, whole, named, within, at, following), omega (arith, whole, at, following))

-- what is kept of records, the first of them at a position
abbrev kept_len : ℕ → List Placed → ℕ
kept_len n ps =
    sum_by texts_len (map row_of ps) + entries_len (entries_from id_entry n (map indexed_record ps))
    + entries_len (entries_from capture_entry n (map indexed_record ps)) + sum_by link_bytes (map link_of (map indexed_record ps))
    + origins_len (filter_map kept_of (enumerate_from n (map placed_record ps)))

entries_more : (entry : ℕ → Indexed → Option Entry) (n : ℕ) (r : Indexed) (all : List Indexed)
    → entries_len (entries_from entry n (r ∷ all))
    ≡ entries_len (option_to_list (entry n r)) + entries_len (entries_from entry (n + 1) all)
entries_more entry n r all =
    sum_by-append (λ (e : Entry). length e.text) (option_to_list (entry n r)) (entries_from entry (n + 1) all)

kept_more : (n : ℕ) (p : Placed) (ps : List Placed) → kept_len n (p ∷ ps) ≡ record_len n p + kept_len (n + 1) ps
kept_more n p ps =
    let all = map indexed_record ps in
    omega (
      arith,
      sum_by-cons texts_len (row_of p) (map row_of ps),
      entries_more id_entry n (indexed_record p) all,
      entries_more capture_entry n (indexed_record p) all,
      sum_by-cons link_bytes (link_of (indexed_record p)) (map link_of all),
      members_len (kept_of (n, placed_record p)) (filter_map kept_of (enumerate_from (n + 1) (map placed_record ps))),
    )

all_short : (n q : ℕ) (ps : List Placed) (text : List ℕ) → SpellsFrom q ps text
    → (kept_len n ps ≤ 2 * sum_by head_length (map row_of ps)) × (sum_by head_length (map row_of ps) ≤ length text)
all_short n q [] text is = (omega arith, omega arith)
all_short n q (p ∷ ps) text (front, rest, one, at, following, whole, more) =
    let head = head_spelled q p front one at following in
    let later = all_short (n + 1) (q + length front) ps rest more in
    let heads = sum_by-cons head_length (row_of p) (map row_of ps) in (
      omega (arith, head.0, later.0, heads, kept_more n p ps, record_short n p),
      omega (arith, head.1, later.1, heads, ap length whole, length-append front rest),
    )

pub kept_is_bounded : {S : Type 0} (n : ℕ) (bytes : List ℕ) (archive : Archived S)
    → n ≡ min (kept_bytes archive) 18446744073709551615
    → IsIndexed bytes archive → IsKeptCount archive n
kept_is_bounded n bytes archive counted is =
    let ps = is.listed.are.records in
    let index = is.kept.index_is in
    let rows = is.listed.are.rows_are in
    let short = all_short 0 0 ps bytes is.listed.are.spelled in
    let all : kept_bytes archive ≡ kept_len 0 ps = omega (
      arith,
      ap (sum_by texts_len) rows,
      ap entries_len index.ids,
      ap entries_len index.captures,
      ap (sum_by link_bytes) index.links,
      ap (λ (parts : Parts). origins_len parts.members) is.kept.parts_are,
    ) in
    let heads = ap (sum_by head_length) rows in
    let exact : n ≡ kept_bytes archive = omega (arith, counted, all, short.0, short.1, is.listed.short) in
    record { exact = exact; least = omega (arith, exact); most = omega (arith, exact, all, short.0, heads) }

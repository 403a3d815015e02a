-- How many bytes of texts are kept of records.
use Rattle.std.proofs.Common.{◌≡◌, ℕ, ◌+◌, Bool, true, false, List, [], ◌∷◌, length, map, Option, Some, None, All, refl, sym, ap, arith, true≢false, if◌then◌else◌}
use Rattle.std.specs.Prelude.{IsSome}
use Rattle.std.specs.List.{sum_by}
use Rattle.std.specs.Option.{option_to_list}
use Rattle.std.proofs.lemmas.List.Elements.{All-head, All-tail}
use Rattle.std.proofs.lemmas.List.Sums.{sum_by-append, sum_by-cons}
use Rattle.warc_value.specs.Dates.{Instant}
use Rattle.warc_record.specs.declared.types.Kind.{Kind}
use Rattle.warc_record.specs.declared.types.Kind.TheVariants.{Response, Resource, Revisit}
use Rattle.warc_order.specs.declared.mark.Mark.{Mark}
use Rattle.warc_order.specs.Entries.{Entry, entry_of}
use Rattle.warc_index.specs.Captures.{Indexed, is_capture}
use Rattle.warc_index.specs.Links.{link_bytes}
use Rattle.warc_index.specs.Linked.{instant_mark, kind_link, link_of, named_link, payload_link, revisit_link, unnamed_link}
use Rattle.warc_index.specs.Orders.{capture_entry, entries_from, id_entry, id_entry_of, kind_mark, target_entry}
use Rattle.warc_index.specs.Texts.{KeepsTexts, chain_size, kept_size, named_size, text_size}

abbrev entries_size : List Entry → ℕ
entries_size es = sum_by (λ (e : Entry). length e.text) es

one_entry : (text : List ℕ) (mark : Mark) (p : ℕ) → entries_size (entry_of text mark p ∷ []) ≡ length text
one_entry text mark p = omega (arith, sum_by-cons (λ (e : Entry). length e.text) (entry_of text mark p) [])

id_size : (p : ℕ) (mark : Mark) (key : Option (List ℕ)) → entries_size (option_to_list (id_entry_of p mark key)) ≡ text_size key
id_size p mark None = refl
id_size p mark (Some key) = one_entry key mark p

target_size : (p : ℕ) (target : Option (List ℕ)) (instant : Option Instant) → IsSome instant → entries_size (option_to_list (target_entry p target instant)) ≡ text_size target
target_size p None instant timed = refl
target_size p (Some target) None timed = absurd (true≢false (sym timed))
target_size p (Some target) (Some instant) timed = one_entry target (instant_mark instant) p

capture_size : (b : Bool) (p : ℕ) (r : Indexed) → IsSome r.instant
    → entries_size (option_to_list (if b then target_entry p r.target r.instant else None)) ≡ (if b then text_size r.target else 0)
capture_size true p r timed = target_size p r.target r.instant timed
capture_size false p r timed = refl

payload_size : (digest : Option (List ℕ)) → link_bytes (payload_link digest) ≡ text_size digest
payload_size None = refl
payload_size (Some digest) = omega arith

unnamed_is : (digest : Option (List ℕ)) (instant : Option Instant) → IsSome instant → link_bytes (unnamed_link digest instant) ≡ text_size digest
unnamed_is None instant timed = refl
unnamed_is (Some digest) None timed = absurd (true≢false (sym timed))
unnamed_is (Some digest) (Some instant) timed = omega arith

named_is : (id : Option (List ℕ)) (pair : Option (List ℕ × Instant)) (r : Indexed) → IsSome r.instant → link_bytes (named_link id pair r) ≡ named_size id pair r
named_is None None r timed = unnamed_is r.payload_digest r.instant timed
named_is (Some id) None r timed = omega arith
named_is None (Some pair) r timed = omega arith
named_is (Some id) (Some pair) r timed = refl

revisit_size : (known : Bool) (r : Indexed) → IsSome r.instant → link_bytes (revisit_link known r) ≡ (if known then named_size r.reference.named_id r.reference.named_pair r else 0)
revisit_size false r timed = refl
revisit_size true r timed = named_is r.reference.named_id r.reference.named_pair r timed

link_size : (kind : Kind) (r : Indexed) → IsSome r.instant → link_bytes (kind_link kind r) ≡ chain_size kind r
link_size Response r timed = payload_size r.payload_digest
link_size Resource r timed = payload_size r.payload_digest
link_size Revisit r timed = revisit_size r.reference.known_profile r timed
link_size kind r timed = refl

entries_more : (entry : ℕ → Indexed → Option Entry) (p : ℕ) (r : Indexed) (all : List Indexed)
    → entries_size (entries_from entry p (r ∷ all)) ≡ entries_size (option_to_list (entry p r)) + entries_size (entries_from entry (p + 1) all)
entries_more entry p r all = sum_by-append (λ (e : Entry). length e.text) (option_to_list (entry p r)) (entries_from entry (p + 1) all)

all_size : (p : ℕ) (all : List Indexed) → All (λ (r : Indexed). IsSome r.instant) all
    → entries_size (entries_from id_entry p all) + entries_size (entries_from capture_entry p all) + sum_by link_bytes (map link_of all) ≡ sum_by kept_size all
all_size p [] timed = refl
all_size p (r ∷ all) timed =
    let now : IsSome r.instant = All-head (λ (x : Indexed). IsSome x.instant) r all timed in
    omega (
      arith,
      entries_more id_entry p r all,
      entries_more capture_entry p r all,
      sum_by-cons link_bytes (link_of r) (map link_of all),
      sum_by-cons kept_size r all,
      id_size p (kind_mark r.kind) r.id,
      capture_size (is_capture r.kind) p r now,
      link_size r.kind r now,
      all_size (p + 1) all (All-tail (λ (x : Indexed). IsSome x.instant) r all timed),
    )

pub keeps_texts : KeepsTexts
keeps_texts all kept is = omega (
  arith,
  ap entries_size is.ids,
  ap entries_size is.captures,
  ap (sum_by link_bytes) is.links,
  all_size 0 all is.timed,
)

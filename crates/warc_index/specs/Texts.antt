-- How many bytes of texts an index keeps of records. This project's own notion.
use Rattle.std.specs.Prelude.{◌≡◌, ℕ, ◌+◌, List, length, Option, Some, None, if◌then◌else◌}
use Rattle.std.specs.List.{sum_by}
use Rattle.std.specs.Option.{option_map_or}
use Rattle.warc_value.specs.Dates.{Instant}
use Rattle.warc_record.specs.declared.types.Kind.{Kind}
use Rattle.warc_record.specs.declared.types.Kind.TheVariants.{Response, Resource, Revisit}
use Rattle.warc_index.specs.Captures.{Indexed, is_capture}
use Rattle.warc_index.specs.Orders.{IsIndexOf, Indexes, text_bytes}

-- of a text that may be absent
abbrev pub text_size : Option (List ℕ) → ℕ
text_size text = option_map_or length text 0

-- of a revisit: the id and the target that it names, or its payload digest if it names nothing
abbrev pub named_size : Option (List ℕ) → Option (List ℕ × Instant) → Indexed → ℕ
named_size None None r = text_size r.payload_digest
named_size (Some id) None r = length id
named_size None (Some pair) r = length pair.0
named_size (Some id) (Some pair) r = length id + length pair.0

-- of a record for the chain of referents: the payload digest of a response or a resource, and what a revisit of a known
-- profile refers to
abbrev pub chain_size : Kind → Indexed → ℕ
chain_size Response r = text_size r.payload_digest
chain_size Resource r = text_size r.payload_digest
chain_size Revisit r =
    if r.reference.known_profile then named_size r.reference.named_id r.reference.named_pair r else 0
chain_size _ r = 0

-- of a record: its id's key, of a capture its target, and what is kept for the chain of referents
abbrev pub kept_size : Indexed → ℕ
kept_size r = text_size r.id + (if is_capture r.kind then text_size r.target else 0) + chain_size r.kind r

-- an index of records keeps this of each, and no more: no text of a record is kept twice
abbrev pub KeepsTexts : Type 0
KeepsTexts = (all : List Indexed) (kept : Indexes) → IsIndexOf all kept → text_bytes kept ≡ sum_by kept_size all

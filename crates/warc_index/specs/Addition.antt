-- What an index keeps of one record, in its two orders and for revisits. States of the code: callers need none of it.
use Rattle.std.specs.Prelude.{◌≡◌, ℕ, IsSome, Some, option_map}
use Rattle.warc_order.specs.Entries.{Entry, entry_of}
use Rattle.warc_index.specs.Captures.{Indexed}
use Rattle.warc_index.specs.Linked.{link_of}
use Rattle.warc_index.specs.Links.{link_seen}
use Rattle.warc_index.specs.Orders.{capture_entry, id_entry}
use Rattle.warc_index.specs.declared.addition.Addition.{Addition}
use Rattle.warc_index.specs.declared.key.Key.{Key}

-- the entry of a position
abbrev pub key_entry : ℕ → Key → Entry
key_entry p key = entry_of key.text.now key.mark p

-- it is what is put into an index for a record that has an instant
pub record IsPutOf (r : Indexed) (kept : Addition) : Type 0 where
  pub timed : IsSome r.instant
  pub id : (p : ℕ) → id_entry p r ≡ Some (key_entry p kept.id)
  pub capture : (p : ℕ) → capture_entry p r ≡ option_map (key_entry p) kept.capture
  pub link : link_seen kept.link ≡ link_of r

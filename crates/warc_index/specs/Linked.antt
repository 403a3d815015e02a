-- What an index keeps of a record for the chain of referents. States of the code: callers need none of it.
use Rattle.std.specs.Prelude.{ℕ, Bool, true, false, List, [], Option, Some, None}
use Rattle.warc_value.specs.Dates.{Instant}
use Rattle.warc_record.specs.declared.types.Kind.{Kind}
use Rattle.warc_record.specs.declared.types.Kind.TheVariants.{Response, Resource, Revisit}
use Rattle.warc_order.specs.declared.mark.Mark.{Mark}
use Rattle.warc_index.specs.declared.link.Role.TheVariants.{Other, Payload, Digested, UnknownProfile, NamesId, NamesPair, NamesBoth, NamesNothing, LeadsNowhere}
use Rattle.warc_index.specs.Captures.{Indexed}
use Rattle.warc_index.specs.Links.{Link, link, bare_link, first_mark}

abbrev pub instant_mark : Instant → Mark
instant_mark instant = record { major = instant.0; minor = instant.1 }

abbrev pub payload_link : Option (List ℕ) → Link
payload_link None = bare_link Payload
payload_link (Some digest) = link Digested digest [] first_mark

-- of a revisit that names nothing: its payload digest and its instant
abbrev pub unnamed_link : Option (List ℕ) → Option Instant → Link
unnamed_link None instant = bare_link LeadsNowhere
unnamed_link (Some digest) None = bare_link LeadsNowhere
unnamed_link (Some digest) (Some instant) = link NamesNothing digest [] (instant_mark instant)

-- of a revisit, by the id and the pair that it names
abbrev pub named_link : Option (List ℕ) → Option (List ℕ × Instant) → Indexed → Link
named_link None None r = unnamed_link r.payload_digest r.instant
named_link (Some id) None r = link NamesId id [] first_mark
named_link None (Some pair) r = link NamesPair [] pair.0 (instant_mark pair.1)
named_link (Some id) (Some pair) r = link NamesBoth id pair.0 (instant_mark pair.1)

abbrev pub revisit_link : Bool → Indexed → Link
revisit_link false r = bare_link UnknownProfile
revisit_link true r = named_link r.reference.named_id r.reference.named_pair r

abbrev pub kind_link : Kind → Indexed → Link
kind_link Response r = payload_link r.payload_digest
kind_link Resource r = payload_link r.payload_digest
kind_link Revisit r = revisit_link r.reference.known_profile r
kind_link _ r = bare_link Other

-- what is kept of a record
abbrev pub link_of : Indexed → Link
link_of r = kind_link r.kind r

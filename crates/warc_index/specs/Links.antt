-- What an index keeps of each record for the chain of referents, and how. States of the code: callers need none of it.
use Rattle.std.specs.Prelude.{◌≡◌, ℕ, ◌+◌, Bool, true, false, ◌&&◌, ◌==◌, List, [], ◌∷◌, length, take, drop, slice_index_or}
use Rattle.std.specs.Str.{bytes_eq}
use Rattle.warc_order.specs.declared.mark.Mark.{Mark}
use Rattle.warc_order.specs.Entries.{Entry}
use Rattle.warc_index.specs.declared.link.Role.{Role}
use Rattle.warc_index.specs.declared.link.Role.TheVariants.{Other, Payload, Digested}
use Rattle.warc_index.specs.declared.link.Link.{Link as Seen}

abbrev pub is_same_mark : Mark → Mark → Bool
is_same_mark a b = (a.major == b.major) && (a.minor == b.minor)

-- what a record is in a chain, two texts and a mark
pub record Link : Type 0 where
  pub role : Role
  pub first : List ℕ
  pub second : List ℕ
  pub mark : Mark

abbrev pub link : Role → List ℕ → List ℕ → Mark → Link
link role first second mark = record { role = role; first = first; second = second; mark = mark }

-- a link as the code passes it on
abbrev pub link_seen : Seen → Link
link_seen l = link l.role l.first.now l.second.now l.mark

abbrev pub first_mark : Mark
first_mark = record { major = 0; minor = 0 }

-- a role alone
abbrev pub bare_link : Role → Link
bare_link role = link role [] [] first_mark

abbrev pub link_at : List Link → ℕ → Link
link_at links p = slice_index_or links p (bare_link Other)

abbrev pub link_bytes : Link → ℕ
link_bytes l = length l.first + length l.second

-- whether a record of this role has a payload of its own, and whether it ends a chain
abbrev pub has_payload_as : Role → Bool
has_payload_as Payload = true
has_payload_as Digested = true
has_payload_as _ = false

abbrev pub ends_as : Role → Bool
ends_as Other = true
ends_as role = has_payload_as role

-- whether it is a response or a resource that states the digest
abbrev pub states_as : Role → Bool
states_as Digested = true
states_as _ = false

abbrev pub states_digest : List ℕ → Link → Bool
states_digest digest l = states_as l.role && bytes_eq digest l.first

-- ---- as roles, the places where the second texts begin, and entries, each with both texts, one after the other

-- where a second text begins, if nothing else is kept
abbrev pub at_start : ℕ → ℕ
at_start i = 0

abbrev pub reported : Role → ℕ → Entry → Link
reported role middle e = link role (take middle e.text) (drop middle e.text) e.mark

abbrev pub links_in : List Role → List ℕ → List Entry → List Link
links_in (role ∷ roles) (middle ∷ middles) (e ∷ es) = reported role middle e ∷ links_in roles middles es
links_in _ _ _ = []

-- there is the same number of each
pub record AreAligned (roles : List Role) (middles : List ℕ) (es : List Entry) : Type 0 where
  pub as_many_middles : length middles ≡ length roles
  pub as_many_entries : length es ≡ length roles

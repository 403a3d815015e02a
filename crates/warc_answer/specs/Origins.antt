-- An origin, the places of the blocks that are joined to it, and how often they are read. This project's own notion.
use Rattle.std.specs.Prelude.{◌≡◌, ℕ, ◌+◌, ◌≤◌, Bool, List, length, map, Result, Ok, if◌then◌else◌}
use Rattle.warc_frame.specs.Record.{Record, max_archive}
use Rattle.warc_frame.specs.Seen.{SeenSource}
use Rattle.warc_index.specs.declared.unfound.Unfound.{Unfound}
use Rattle.warc_segment.specs.Joined.{ReadRecord, ArePlacesOf}
use Rattle.warc_segment.specs.declared.place.Place.{Place}
use Rattle.warc_answer.specs.Laws.{IsFound}
use Rattle.warc_answer.specs.Payloads.{is_http_response, read_record}
use Rattle.warc_answer.specs.Places.{ReadsPlaces, checked_places, len_of}
use Rattle.warc_answer.specs.declared.answer.Path.{Path}

-- at the end of a path among records there is an origin, which is an HTTP response or isn't, and of the blocks that are
-- joined to it these are the places among the bytes
pub record IsJoinedOn (bytes : List ℕ) (records : List Record) (found : Result Path Unfound) (path : Path)
    (http : Bool) (places : List Place) : Type 0 where
  pub origin : ReadRecord
  pub joined : List ReadRecord
  pub short : length bytes ≤ max_archive
  pub leads : IsFound (map read_record records) found path origin (Ok joined)
  pub http_is : http ≡ is_http_response origin.head
  pub places_are : ArePlacesOf bytes places joined

-- at the end of a path there is this record, these records are joined to it, and of their blocks these are the places
-- among the bytes
pub record IsContentOn (bytes : List ℕ) (content : Record) (joined : List ReadRecord) (places : List Place)
    : Type 0 where
  pub records : List Record
  pub found : Result Path Unfound
  pub path : Path
  pub short : length bytes ≤ max_archive
  pub leads : IsFound (map read_record records) found path (read_record content) (Ok joined)
  pub places_are : ArePlacesOf bytes places joined

-- these are the places of the blocks of some records among the bytes of an archive
pub record AreBlocksIn (places : List Place) (bytes : List ℕ) : Type 0 where
  pub joined : List ReadRecord
  pub short : length bytes ≤ max_archive
  pub places_are : ArePlacesOf bytes places joined

-- the places that are read to judge the blocks and to find where the body begins: those of blocks whose digest can be
-- checked, and of an HTTP response any, since it has a head before the body
abbrev pub judged_places : Bool → List Place → List Place
judged_places http places = if http then places else checked_places places

-- they are read once, and no other place is
abbrev pub ReadsToJudge : Bool → List Place → SeenSource → SeenSource → Type 0
ReadsToJudge http places old new = ReadsPlaces (judged_places http places) (len_of (judged_places http places)) old new

-- how often the places are read to write the body too
abbrev pub body_reads : Bool → List Place → ℕ
body_reads http places = len_of (judged_places http places) + len_of places

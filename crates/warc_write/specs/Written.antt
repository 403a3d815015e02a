-- How the fields of new records are written (their names: ISO 28500:2017, 5). Ids are between < and > (5.2)
-- as UUIDs in lower case with hyphens (RFC 9562, 4), digests are SHA-1 in base32 (5.8, which leaves algorithm
-- and encoding open).
use Rattle.std.specs.Prelude.{ℕ, List, ◌++◌, codes}
use Rattle.uuid.specs.Text.{lower, urn_text}
use Rattle.warc_value.specs.Base32.{base32_of}

-- the id of a UUID's sixteen bytes
abbrev pub id_text : List ℕ → List ℕ
id_text uuid = codes "<" ++ urn_text lower uuid ++ codes ">"

-- the text of a digest's twenty bytes
abbrev pub digest_text : List ℕ → List ℕ
digest_text digest = codes "sha1:" ++ base32_of digest

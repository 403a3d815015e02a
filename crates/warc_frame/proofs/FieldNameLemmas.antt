-- The names of fields told apart.
use Rattle.std.proofs.Common.{◌≡◌, ℕ, true, List, [], ◌∷◌, ◌∙◌, get_or, length, nat_lt, slice_index, Some, refl, sym, ap}
use Rattle.std.specs.Char.{to_ascii_lowercase}
use Rattle.std.proofs.Math.ListN.{get_or-map}
use Rattle.std.proofs.lemmas.Bool.{ltb-true}
use Rattle.std.proofs.lemmas.List.{length-map}
use Rattle.std.proofs.lemmas.Slice.Eq.{bytes_eq-Decides}
use Rattle.warc_field.specs.Text.{is_name, is_name_byte, same, lower}
use Rattle.warc_frame.specs.FieldNames.{AreFieldNames, name_by, name_count, name_place, name_text}
use Rattle.warc_frame.specs.declared.field_name.FieldName.{FieldName}
use Rattle.warc_frame.specs.declared.field_name.FieldName.TheVariants.{«Type», RecordId, Date, ContentLength}
use Rattle.warc_frame.specs.declared.field_name.FieldName.TheVariants.{TargetUri, ConcurrentTo, IpAddress, RefersTo}
use Rattle.warc_frame.specs.declared.field_name.FieldName.TheVariants.{RefersToTargetUri, RefersToDate, Filename}
use Rattle.warc_frame.specs.declared.field_name.FieldName.TheVariants.{Profile, WarcinfoId, SegmentNumber}
use Rattle.warc_frame.specs.declared.field_name.FieldName.TheVariants.{SegmentOriginId, SegmentTotalLength}
use Rattle.warc_frame.specs.declared.field_name.FieldName.TheVariants.{BlockDigest, PayloadDigest, Truncated}
use Rattle.warc_frame.specs.declared.field_name.FieldName.TheVariants.{IdentifiedPayloadType, ContentType}

-- the names in the order of their places
abbrev names : List FieldName
names =
    «Type» ∷ RecordId ∷ Date ∷ ContentLength ∷ TargetUri ∷ ConcurrentTo ∷ IpAddress ∷ RefersTo ∷ RefersToTargetUri
    ∷ RefersToDate ∷ Filename ∷ Profile ∷ WarcinfoId ∷ SegmentNumber ∷ SegmentOriginId ∷ SegmentTotalLength ∷ BlockDigest
    ∷ PayloadDigest ∷ Truncated ∷ IdentifiedPayloadType ∷ ContentType ∷ []

-- what is true of each name, by computing: its length and its eighth letter tell it, its place gives it, it is a name,
-- and its place is one of theirs
facts : (name : FieldName)
    → (name_by (length (name_text name)) (to_ascii_lowercase (slice_index (name_text name) 7)) ≡ Some name)
    × (get_or names (name_place name) «Type» ≡ name) × (is_name (name_text name) ≡ true)
    × (nat_lt (name_place name) name_count ≡ true)
unfolding is_name is_name_byte
facts «Type» = (refl, refl, refl, refl)
facts RecordId = (refl, refl, refl, refl)
facts Date = (refl, refl, refl, refl)
facts ContentLength = (refl, refl, refl, refl)
facts TargetUri = (refl, refl, refl, refl)
facts ConcurrentTo = (refl, refl, refl, refl)
facts IpAddress = (refl, refl, refl, refl)
facts RefersTo = (refl, refl, refl, refl)
facts RefersToTargetUri = (refl, refl, refl, refl)
facts RefersToDate = (refl, refl, refl, refl)
facts Filename = (refl, refl, refl, refl)
facts Profile = (refl, refl, refl, refl)
facts WarcinfoId = (refl, refl, refl, refl)
facts SegmentNumber = (refl, refl, refl, refl)
facts SegmentOriginId = (refl, refl, refl, refl)
facts SegmentTotalLength = (refl, refl, refl, refl)
facts BlockDigest = (refl, refl, refl, refl)
facts PayloadDigest = (refl, refl, refl, refl)
facts Truncated = (refl, refl, refl, refl)
facts IdentifiedPayloadType = (refl, refl, refl, refl)
facts ContentType = (refl, refl, refl, refl)

length_of : (a b : List ℕ) → lower a ≡ lower b → length a ≡ length b
length_of a b is = sym (length-map a to_ascii_lowercase) ∙ ap length is ∙ length-map b to_ascii_lowercase

eighth_of : (a b : List ℕ) → lower a ≡ lower b → to_ascii_lowercase (slice_index a 7) ≡ to_ascii_lowercase (slice_index b 7)
eighth_of a b is =
    sym (get_or-map to_ascii_lowercase a 7 0) ∙ ap (λ t. slice_index t 7) is ∙ get_or-map to_ascii_lowercase b 7 0

-- a text that is one of the names, in any case, has the length and the eighth letter of that name
pub reported_by : (text : List ℕ) (name : FieldName) → same text (name_text name) ≡ true
    → name_by (length text) (to_ascii_lowercase (slice_index text 7)) ≡ Some name
reported_by text name is =
    let low : lower text ≡ lower (name_text name) = (bytes_eq-Decides (lower text) (lower (name_text name))).0 is in
    ap (λ n. name_by n (to_ascii_lowercase (slice_index text 7))) (length_of text (name_text name) low)
    ∙ ap (name_by (length (name_text name))) (eighth_of text (name_text name) low)
    ∙ (facts name).0

pub names_are : AreFieldNames
names_are = record {
  named = λ name. (facts name).2;
  places = λ a b is. sym (facts a).1 ∙ ap (λ place. get_or names place «Type») is ∙ (facts b).1;
  within = λ name. ltb-true (name_place name) name_count (facts name).3;
  texts = λ text a b one other. let both = sym (reported_by text a one) ∙ reported_by text b other in cc;
}

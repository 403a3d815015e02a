-- Values of the definitions, each by computation.
use Rattle.std.proofs.Common.{◌≡◌, ℕ, List, [], ◌∷◌, ◌++◌, Some, Ok, Err, unwrap_or, refl, codes}
use Rattle.jiff.proofs.OnLiterals.{jiff_on_literals}
use Rattle.uuid.specs.Text.{by_index}
use Rattle.warc_field.specs.Text.{is_blank, trimmed}
use Rattle.warc_field.specs.Area.{Pair}
use Rattle.warc_value.specs.Dates.{Instant, instant_of, date_of, date_in, fits, forms}
use Rattle.warc_record.specs.Ids.{bare_text, is_bare_id}
use Rattle.warc_record.specs.Readings.{reading_of}
use Rattle.warc_index.specs.declared.unfound.Unfound.TheVariants.{NoCapture, NotYet, UnknownProfile, NoReference, Unresolved, Loop}
use Rattle.warc_index.specs.UnfoundText.{unfound_text}
use Rattle.warc_index.specs.Captures.{Indexed, indexed_of, chosen_of}
use Rattle.warc_index.specs.Referents.{by_key, by_pair, first_with, origin_of}
use Rattle.std.specs.Prelude.{⊤}

-- what the values below unfold
unfoldable on_literals : ⊤
unfolding jiff_on_literals by_index is_blank trimmed instant_of date_of date_in fits forms bare_text is_bare_id
on_literals = tt

-- the id that ends in a digit
abbrev id_of : List ℕ → List ℕ
id_of digit = codes "<urn:uuid:00000000-0000-4000-8000-00000000000" ++ digit ++ codes ">"

abbrev row : List ℕ → List ℕ → List ℕ → List ℕ → List Pair → Indexed
row kind digit date target extras =
    indexed_of (reading_of ((codes "WARC-Type", kind) ∷ (codes "WARC-Record-ID", id_of digit)
    ∷ (codes "WARC-Date", date)
    ∷ (codes "WARC-Target-URI", target) ∷ extras))

abbrev a : List ℕ
a = codes "http://a.example/x"

abbrev moment : List ℕ → Instant
moment date = unwrap_or (instant_of date) (0, 0)

abbrev resource : List ℕ → List ℕ → List Pair → Indexed
resource digit date extras = row (codes "resource") digit date a extras

abbrev profile : Pair
profile = (codes "WARC-Profile", codes "<http://netpreserve.org/warc/1.1/revisit/identical-payload-digest>")

abbrev revisit : List ℕ → List ℕ → List Pair → Indexed
revisit digit date extras = row (codes "revisit") digit date a (profile ∷ extras)

abbrev refers_to : List ℕ → Pair
refers_to id = (codes "WARC-Refers-To", id)

abbrev of_target : List ℕ → Pair
of_target target = (codes "WARC-Refers-To-Target-URI", target)

abbrev of_date : List ℕ → Pair
of_date date = (codes "WARC-Refers-To-Date", date)

abbrev payload : List ℕ → Pair
payload digest = (codes "WARC-Payload-Digest", digest)

-- three precisions of one date
abbrev three : List Indexed
three =
    resource (codes "1") (codes "2020") [] ∷ resource (codes "2") (codes "2020-01-01T00:00Z") []
    ∷ resource (codes "3") (codes "2020-01-01T00:00:00.000000001Z") [] ∷ []

last_of_a_tie : chosen_of three a (moment (codes "2020-01-01")) ≡ Ok 1
unfolding on_literals
last_of_a_tie = refl

latest_by_nanosecond : chosen_of three a (moment (codes "2020-01-01T00:00:00.000000001Z")) ≡ Ok 2
unfolding on_literals
latest_by_nanosecond = refl

not_yet : chosen_of three a (moment (codes "2019")) ≡ Err NotYet
unfolding on_literals
not_yet = refl

target_in_capitals : chosen_of three (codes "HTTP://a.example/x") (moment (codes "2022")) ≡ Err NoCapture
unfolding on_literals
target_in_capitals = refl

absent_target : chosen_of (row (codes "resource") (codes "1") (codes "2020") (codes "<>") []
    ∷ []) [] (moment (codes "2022"))
    ≡ Err NoCapture
unfolding on_literals
absent_target = refl

no_capture : chosen_of (row (codes "request") (codes "1") (codes "2020") a [] ∷ []) a (moment (codes "2022"))
    ≡ Err NoCapture
unfolding on_literals
no_capture = refl

earlier_is_present_later : chosen_of (resource (codes "1") (codes "2021") [] ∷ resource (codes "2") (codes "2020") []
    ∷ []) a (moment (codes "2022")) ≡ Ok 0
unfolding on_literals
earlier_is_present_later = refl

-- look-ups: a request isn't found by key, and a revisit not by pair
abbrev mixed : List Indexed
mixed =
    row (codes "request") (codes "1") (codes "2020") a [] ∷ revisit (codes "1") (codes "2020") []
    ∷ resource (codes "1") (codes "2020") [] ∷ []

capture_by_key : by_key mixed (60 ∷ 0 ∷ 0 ∷ 0 ∷ 0 ∷ 0 ∷ 0 ∷ 64 ∷ 0 ∷ 128 ∷ 0 ∷ 0 ∷ 0 ∷ 0 ∷ 0 ∷ 0 ∷ 1 ∷ []) ≡ Some 1
unfolding on_literals
capture_by_key = refl

any_by_key : first_with mixed (60 ∷ 0 ∷ 0 ∷ 0 ∷ 0 ∷ 0 ∷ 0 ∷ 64 ∷ 0 ∷ 128 ∷ 0 ∷ 0 ∷ 0 ∷ 0 ∷ 0 ∷ 0 ∷ 1 ∷ []) ≡ Some 0
unfolding on_literals
any_by_key = refl

resource_by_pair : by_pair mixed (a, moment (codes "2020-01-01T00:00:00Z")) ≡ Some 2
unfolding on_literals
resource_by_pair = refl

-- origins: a resource is its own
own : origin_of three 1 ≡ Ok 1
unfolding on_literals
own = refl

-- by id in another case, though the record is later and is later
by_id : origin_of (revisit (codes "a") (codes "2020") (refers_to
    (codes "urn:UUID:00000000-0000-4000-8000-00000000000B") ∷ [])
    ∷ resource (codes "b") (codes "2021") [] ∷ []) 0 ≡ Ok 1
unfolding on_literals
by_id = refl

by_id_of_request : origin_of (revisit (codes "1") (codes "2020") (refers_to (id_of (codes "2")) ∷ [])
    ∷ row (codes "request") (codes "2") (codes "2020") a [] ∷ []) 0 ≡ Err Unresolved
unfolding on_literals
by_id_of_request = refl

-- an absent id beside a pair that is there
by_pair_beside_id : origin_of (resource (codes "1") (codes "2020-01-01") []
    ∷ revisit (codes "2") (codes "2021") (refers_to (id_of (codes "9")) ∷ of_target (codes "<http://a.example/x>")
    ∷ of_date (codes "2020") ∷ []) ∷ []) 1 ≡ Ok 0
unfolding on_literals
by_pair_beside_id = refl

pair_of_another_instant : origin_of (resource (codes "1") (codes "2020-01-02") []
    ∷ revisit (codes "2") (codes "2021") (of_target a ∷ of_date (codes "2020") ∷ []) ∷ []) 1 ≡ Err Unresolved
unfolding on_literals
pair_of_another_instant = refl

-- a revisit that names nothing: the latest of its target with its payload digest, by its own instant
abbrev same_payload : List Pair → List Indexed
same_payload extras =
    resource (codes "1") (codes "2019") (payload (codes "sha1:A") ∷ [])
    ∷ resource (codes "2") (codes "2020") (payload (codes "sha1:A") ∷ [])
    ∷ resource (codes "3") (codes "2020") (payload (codes "sha1:B") ∷ [])
    ∷ resource (codes "4") (codes "2022") (payload (codes "sha1:A") ∷ [])
    ∷ revisit (codes "5") (codes "2021") extras ∷ []

by_payload_digest : origin_of (same_payload (payload (codes "sha1:A") ∷ [])) 4 ≡ Ok 1
unfolding on_literals
by_payload_digest = refl

digest_in_other_case : origin_of (same_payload (payload (codes "sha1:a") ∷ [])) 4 ≡ Err NoReference
unfolding on_literals
digest_in_other_case = refl

without_digest : origin_of (same_payload []) 4 ≡ Err NoReference
unfolding on_literals
without_digest = refl

half_a_pair : origin_of (same_payload (payload (codes "sha1:A") ∷ of_date (codes "2019") ∷ [])) 4 ≡ Ok 1
unfolding on_literals
half_a_pair = refl

no_id : origin_of (same_payload (payload (codes "sha1:A") ∷ refers_to (codes "<>") ∷ [])) 4 ≡ Ok 1
unfolding on_literals
no_id = refl

names_absent_id : origin_of (same_payload (payload (codes "sha1:A") ∷ refers_to (id_of (codes "9")) ∷ [])) 4
    ≡ Err Unresolved
unfolding on_literals
names_absent_id = refl

unknown_profile : origin_of (row (codes "revisit") (codes "1") (codes "2020") a (refers_to (id_of (codes "2"))
    ∷ []) ∷ resource (codes "2") (codes "2020") [] ∷ []) 0
    ≡ Err UnknownProfile
unfolding on_literals
unknown_profile = refl

-- chains and loops
chain : origin_of (revisit (codes "1") (codes "2020") (refers_to (id_of (codes "2")) ∷ [])
    ∷ revisit (codes "2") (codes "2020") (refers_to (id_of (codes "3")) ∷ [])
    ∷ resource (codes "3") (codes "2020") [] ∷ []) 0 ≡ Ok 2
unfolding on_literals
chain = refl

names_itself : origin_of (revisit (codes "1") (codes "2020") (refers_to (id_of (codes "1")) ∷ []) ∷ []) 0 ≡ Err Loop
unfolding on_literals
names_itself = refl

name_each_other : origin_of (revisit (codes "1") (codes "2020") (refers_to (id_of (codes "2")) ∷ [])
    ∷ revisit (codes "2") (codes "2020") (refers_to (id_of (codes "1")) ∷ []) ∷ []) 0 ≡ Err Loop
unfolding on_literals
name_each_other = refl

-- the texts of reasons
not_yet_text : unfound_text NotYet ≡ codes "P2 NotYet"
not_yet_text = refl

-- Values of the definitions, each by computation.
use Rattle.std.proofs.Common.{◌≡◌, ℕ, false, List, [], ◌∷◌, Ok, Err, refl, codes}
use Rattle.std.specs.Fmt.{digits}
use Rattle.uuid.specs.Text.{by_index}
use Rattle.warc_field.specs.Text.{is_blank, trimmed}
use Rattle.warc_field.specs.Decimal.{decimal_of}
use Rattle.warc_field.specs.Area.{Pair}
use Rattle.warc_value.specs.declared.hash.Wanted.TheVariants.{Unchecked}
use Rattle.warc_record.specs.Ids.{bare_text, is_bare_id}
use Rattle.warc_record.specs.Readings.{reading_of}
use Rattle.warc_segment.specs.declared.gap.Gap.TheVariants.{Repeated, Unfinished, AfterEnd, Absent, Total, Number}
use Rattle.warc_segment.specs.declared.place.Place.{Place}
use Rattle.warc_segment.specs.GapText.{gap_text}
use Rattle.warc_segment.specs.Joined.{ReadRecord, PlacedRecord, joined_block, joined_places}

-- ids of a UUID that ends in a letter, in either case, and one that is no UUID
abbrev small_id : List ℕ
small_id = codes "<urn:uuid:00000000-0000-4000-8000-00000000000a>"

abbrev capital_id : List ℕ
capital_id = codes "<URN:UUID:00000000-0000-4000-8000-00000000000A>"

abbrev head_fields : List ℕ → List ℕ → List Pair → List Pair
head_fields kind id extras = (codes "WARC-Type", kind) ∷ (codes "WARC-Record-ID", id) ∷ extras

abbrev number : List ℕ → Pair
number value = (codes "WARC-Segment-Number", value)

abbrev total : List ℕ → Pair
total value = (codes "WARC-Segment-Total-Length", value)

abbrev origin : List ℕ → Pair
origin value = (codes "WARC-Segment-Origin-ID", value)

abbrev row : List ℕ → List ℕ → List Pair → List ℕ → ReadRecord
row kind id extras block = record { head = reading_of (head_fields kind id extras); block = block }

-- a first segment, and a continuation of it with a number
abbrev first : List Pair → ReadRecord
first extras = row (codes "resource") small_id extras (codes "a")

abbrev one : ReadRecord
one = first (number (codes "1") ∷ [])

abbrev next : List ℕ → List Pair → List ℕ → ReadRecord
next value extras block = row (codes "continuation") (codes "<x>") (origin small_id ∷ number value ∷ extras) block

abbrev two : ReadRecord
two = next (codes "2") [] (codes "b")

abbrev three : ReadRecord
three = next (codes "3") (total (codes "3") ∷ []) (codes "c")

-- in any order in the file
out_of_order : joined_block (three ∷ one ∷ two ∷ []) one ≡ Ok (codes "abc")
unfolding bare_text trimmed is_blank is_bare_id by_index decimal_of
out_of_order = refl

without_number : joined_block (three ∷ two ∷ []) (first []) ≡ Ok (codes "a")
unfolding bare_text trimmed is_blank is_bare_id by_index decimal_of
without_number = refl

-- each gap
repeated : joined_block (three ∷ one ∷ two ∷ three ∷ two ∷ []) one ≡ Err (Repeated 2)
unfolding bare_text trimmed is_blank is_bare_id by_index decimal_of
repeated = refl

unfinished : joined_block (one ∷ two ∷ []) one ≡ Err Unfinished
unfolding bare_text trimmed is_blank is_bare_id by_index decimal_of
unfinished = refl

after_end : joined_block (one ∷ next (codes "5") (total (codes "3") ∷ []) [] ∷ next (codes "4") [] [] ∷ three ∷ two
    ∷ []) one ≡ Err (AfterEnd 4)
unfolding bare_text trimmed is_blank is_bare_id by_index decimal_of
after_end = refl

absent : joined_block (three ∷ one ∷ []) one ≡ Err (Absent 2)
unfolding bare_text trimmed is_blank is_bare_id by_index decimal_of
absent = refl

wrong_total : joined_block (one ∷ two ∷ next (codes "3") (total (codes "4") ∷ []) (codes "c") ∷ []) one ≡ Err Total
unfolding bare_text trimmed is_blank is_bare_id by_index decimal_of
wrong_total = refl

own_number : joined_block (one ∷ two ∷ three ∷ []) (first (number (codes "2") ∷ [])) ≡ Err Number
unfolding bare_text trimmed is_blank is_bare_id by_index decimal_of
own_number = refl

own_number_bad : joined_block (one ∷ two ∷ three ∷ []) (first (number (codes "one") ∷ [])) ≡ Err Number
unfolding bare_text trimmed is_blank is_bare_id by_index decimal_of
own_number_bad = refl

-- the greatest number that there is: nothing counts up to it
far_end : joined_block (one ∷ two ∷ next (codes "281474976710656") (total (codes "3") ∷ []) (codes "c") ∷ []) one
    ≡ Err (Absent 3)
unfolding bare_text trimmed is_blank is_bare_id by_index decimal_of
far_end = refl

-- a total counts in a continuation only
total_at_first : joined_block (one ∷ two ∷ []) (first (number (codes "1") ∷ total (codes "2") ∷ [])) ≡ Err Unfinished
unfolding bare_text trimmed is_blank is_bare_id by_index decimal_of
total_at_first = refl

total_elsewhere : joined_block (one ∷ two ∷ row (codes "resource") (codes "<x>") (origin small_id
    ∷ number (codes "3") ∷ total (codes "2") ∷ []) [] ∷ []) one ≡ Err Unfinished
unfolding bare_text trimmed is_blank is_bare_id by_index decimal_of
total_elsewhere = refl

-- continuations whose number is below 2 or doesn't read are in no series
outside : joined_block (one ∷ two ∷ three ∷ next (codes "0") [] [] ∷ next (codes "1") [] []
    ∷ next (codes "281474976710657") [] [] ∷ []) one ≡ Ok (codes "abc")
unfolding bare_text trimmed is_blank is_bare_id by_index decimal_of
outside = refl

-- two records of one id have one series
twin : joined_block (one ∷ two ∷ three ∷ []) (row (codes "response") capital_id (number (codes "1")
    ∷ []) (codes "z")) ≡ Ok (codes "zbc")
unfolding bare_text trimmed is_blank is_bare_id by_index decimal_of
twin = refl

-- an origin is compared as ids are: a UUID in any case, another text byte by byte
other_case : joined_block (one ∷ three ∷ row (codes "CONTINUATION") (codes "<x>") (origin capital_id
    ∷ number (codes "02") ∷ []) (codes "B") ∷ []) one ≡ Ok (codes "aBc")
unfolding bare_text trimmed is_blank is_bare_id by_index decimal_of
other_case = refl

abbrev of_text : List ℕ → ReadRecord
of_text id = row (codes "continuation") (codes "<x>") (origin id ∷ number (codes "2") ∷ total (codes "2")
    ∷ []) (codes "b")

text_id : joined_block (of_text (codes "<Text>") ∷ []) (row (codes "resource") (codes "Text") (number (codes "1")
    ∷ []) (codes "a")) ≡ Ok (codes "ab")
unfolding bare_text trimmed is_blank is_bare_id decimal_of
text_id = refl

text_in_other_case : joined_block (of_text (codes "<text>")
    ∷ []) (row (codes "resource") (codes "Text") (number (codes "1") ∷ []) (codes "a")) ≡ Err Unfinished
unfolding bare_text trimmed is_blank is_bare_id decimal_of
text_in_other_case = refl

-- as places
abbrev at : ℕ → ℕ → Place
at start len = record { start = start; len = len; wanted = Unchecked; truncated = false }

abbrev placed : ReadRecord → ℕ → ℕ → PlacedRecord
placed r start len = record { head = r.head; place = at start len }

places : joined_places (placed three 300 1 ∷ placed one 600 1 ∷ placed two 900 1 ∷ []) (placed one 600 1)
    ≡ Ok (at 600 1 ∷ at 900 1 ∷ at 300 1 ∷ [])
unfolding bare_text trimmed is_blank is_bare_id by_index decimal_of
places = refl

-- the texts of gaps
absent_text : gap_text (Absent 2) ≡ codes "G4 Absent 2"
unfolding digits
absent_text = refl

total_text : gap_text Total ≡ codes "G5 Total"
total_text = refl

-- Worked values: what the definitions compute. Day numbers and base32 texts are from other tools.
use Rattle.std.proofs.Common.{◌≡◌, true, false, [], ◌∷◌, Some, None, replicate, refl}
use Rattle.std.specs.Prelude.{codes}
use Rattle.jiff.proofs.OnLiterals.{jiff_on_literals}
use Rattle.sha1.specs.Sha1.{sha1, digest_bytes, hash_after, compress, rounds, schedule, first_words}
use Rattle.warc_value.specs.declared.hash.Wanted.TheVariants.{Sha1, Unchecked}
use Rattle.warc_value.specs.declared.hash.Verdict.TheVariants.{Good, Bad, Unchecked as NotChecked}
use Rattle.warc_value.specs.Dates.{forms, fits, date_in, date_of, is_before, instant_of}
use Rattle.warc_value.specs.Base32.{bits_of, number_of_bits, fives, eights, symbol_of, symbol_value, base32_of, bytes_of, unbase32_of}
use Rattle.warc_value.specs.Digests.{wanted_digest, verdict_of}

-- dates
a_year : instant_of (codes "2020") ≡ Some (737790, 0)
unfolding jiff_on_literals instant_of date_of forms fits date_in
a_year = refl

a_month : instant_of (codes "2020-02") ≡ Some (737821, 0)
unfolding jiff_on_literals instant_of date_of forms fits date_in
a_month = refl

a_day : instant_of (codes "2020-02-29") ≡ Some (737849, 0)
unfolding jiff_on_literals instant_of date_of forms fits date_in
a_day = refl

a_minute : instant_of (codes "2020-02-29T13:45Z") ≡ Some (737849, 49_500_000_000_000)
unfolding jiff_on_literals instant_of date_of forms fits date_in
a_minute = refl

a_second : instant_of (codes "2020-02-29T13:45:07Z") ≡ Some (737849, 49_507_000_000_000)
unfolding jiff_on_literals instant_of date_of forms fits date_in
a_second = refl

a_tenth : instant_of (codes "2020-02-29T13:45:07.5Z") ≡ Some (737849, 49_507_500_000_000)
unfolding jiff_on_literals instant_of date_of forms fits date_in
a_tenth = refl

nine_digits : instant_of (codes "2020-02-29T13:45:07.000000001Z") ≡ Some (737849, 49_507_000_000_001)
unfolding jiff_on_literals instant_of date_of forms fits date_in
nine_digits = refl

the_first_instant : instant_of (codes "0000") ≡ Some (0, 0)
unfolding jiff_on_literals instant_of date_of forms fits date_in
the_first_instant = refl

the_last_instant : instant_of (codes "9999-12-31T23:59:59.999999999Z") ≡ Some (3_652_424, 86_399_999_999_999)
unfolding jiff_on_literals instant_of date_of forms fits date_in
the_last_instant = refl

year_0_is_a_leap_year : instant_of (codes "0000-02-29") ≡ Some (59, 0)
unfolding jiff_on_literals instant_of date_of forms fits date_in
year_0_is_a_leap_year = refl

a_leap_century : instant_of (codes "2000-02-29") ≡ Some (730_544, 0)
unfolding jiff_on_literals instant_of date_of forms fits date_in
a_leap_century = refl

no_leap_century : instant_of (codes "1900-02-29") ≡ None
unfolding jiff_on_literals instant_of date_of forms fits date_in
no_leap_century = refl

no_leap_year : instant_of (codes "2021-02-29") ≡ None
unfolding jiff_on_literals instant_of date_of forms fits date_in
no_leap_year = refl

no_month_13 : instant_of (codes "2020-13") ≡ None
unfolding jiff_on_literals instant_of date_of forms fits date_in
no_month_13 = refl

no_month_0 : instant_of (codes "2020-00") ≡ None
unfolding jiff_on_literals instant_of date_of forms fits date_in
no_month_0 = refl

no_day_0 : instant_of (codes "2020-01-00") ≡ None
unfolding jiff_on_literals instant_of date_of forms fits date_in
no_day_0 = refl

no_31_april : instant_of (codes "2020-04-31") ≡ None
unfolding jiff_on_literals instant_of date_of forms fits date_in
no_31_april = refl

no_hour_24 : instant_of (codes "2020-01-01T24:00Z") ≡ None
unfolding jiff_on_literals instant_of date_of forms fits date_in
no_hour_24 = refl

no_minute_60 : instant_of (codes "2020-01-01T00:60Z") ≡ None
unfolding jiff_on_literals instant_of date_of forms fits date_in
no_minute_60 = refl

no_leap_second : instant_of (codes "2016-12-31T23:59:60Z") ≡ None
unfolding jiff_on_literals instant_of date_of forms fits date_in
no_leap_second = refl

no_small_z : instant_of (codes "2020-01-01T00:00:00z") ≡ None
unfolding jiff_on_literals instant_of date_of forms fits date_in
no_small_z = refl

no_small_t : instant_of (codes "2020-01-01t00:00:00Z") ≡ None
unfolding jiff_on_literals instant_of date_of forms fits date_in
no_small_t = refl

no_offset : instant_of (codes "2020-01-01T00:00:00+00:00") ≡ None
unfolding jiff_on_literals instant_of date_of forms fits date_in
no_offset = refl

no_ten_digits : instant_of (codes "2020-01-01T00:00:00.1234567890Z") ≡ None
unfolding jiff_on_literals instant_of date_of forms fits date_in
no_ten_digits = refl

no_empty_fraction : instant_of (codes "2020-01-01T00:00:00.Z") ≡ None
unfolding jiff_on_literals instant_of date_of forms fits date_in
no_empty_fraction = refl

no_date_without_z : instant_of (codes "2020-01-01T00:00:00") ≡ None
unfolding jiff_on_literals instant_of date_of forms fits date_in
no_date_without_z = refl

no_blank_before : instant_of (codes " 2020") ≡ None
unfolding jiff_on_literals instant_of date_of forms fits date_in
no_blank_before = refl

no_empty_date : instant_of (codes "") ≡ None
unfolding jiff_on_literals instant_of date_of forms fits date_in
no_empty_date = refl

by_day_first : is_before (737_790, 5) (737_791, 0) ≡ true
by_day_first = refl

then_by_nanosecond : is_before (737_790, 5) (737_790, 6) ≡ true
then_by_nanosecond = refl

not_before_itself : is_before (737_790, 5) (737_790, 5) ≡ false
not_before_itself = refl

-- base32
zeros : base32_of (replicate 20 0) ≡ codes "AAAAAAAAAAAAAAAAAAAAAAAAAAAAAAAA"
unfolding base32_of bits_of number_of_bits fives symbol_of
zeros = refl

ones : base32_of (replicate 20 255) ≡ codes "77777777777777777777777777777777"
unfolding base32_of bits_of number_of_bits fives symbol_of
ones = refl

the_first_bit_first : base32_of (128 ∷ 0 ∷ 0 ∷ 0 ∷ 0 ∷ 0 ∷ 0 ∷ 0 ∷ 0 ∷ 0 ∷ 0 ∷ 0 ∷ 0 ∷ 0 ∷ 0 ∷ 0 ∷ 0 ∷ 0 ∷ 0 ∷ 0 ∷ []) ≡ codes "QAAAAAAAAAAAAAAAAAAAAAAAAAAAAAAA"
unfolding base32_of bits_of number_of_bits fives symbol_of
the_first_bit_first = refl

each_its_index : base32_of (0 ∷ 1 ∷ 2 ∷ 3 ∷ 4 ∷ 5 ∷ 6 ∷ 7 ∷ 8 ∷ 9 ∷ 10 ∷ 11 ∷ 12 ∷ 13 ∷ 14 ∷ 15 ∷ 16 ∷ 17 ∷ 18 ∷ 19 ∷ []) ≡ codes "AAAQEAYEAUDAOCAJBIFQYDIOB4IBCEQT"
unfolding base32_of bits_of number_of_bits fives symbol_of
each_its_index = refl

back_to_the_index : unbase32_of (codes "AAAQEAYEAUDAOCAJBIFQYDIOB4IBCEQT") ≡ Some (0 ∷ 1 ∷ 2 ∷ 3 ∷ 4 ∷ 5 ∷ 6 ∷ 7 ∷ 8 ∷ 9 ∷ 10 ∷ 11 ∷ 12 ∷ 13 ∷ 14 ∷ 15 ∷ 16 ∷ 17 ∷ 18 ∷ 19 ∷ [])
unfolding bytes_of bits_of number_of_bits eights symbol_value
back_to_the_index = refl

in_either_case : unbase32_of (codes "aaaqeayeAUDAOCAJbifqydioB4IBCEQT") ≡ Some (0 ∷ 1 ∷ 2 ∷ 3 ∷ 4 ∷ 5 ∷ 6 ∷ 7 ∷ 8 ∷ 9 ∷ 10 ∷ 11 ∷ 12 ∷ 13 ∷ 14 ∷ 15 ∷ 16 ∷ 17 ∷ 18 ∷ 19 ∷ [])
unfolding bytes_of bits_of number_of_bits eights symbol_value
in_either_case = refl

one_character_less : unbase32_of (codes "AAAAAAAAAAAAAAAAAAAAAAAAAAAAAAA") ≡ None
unfolding bytes_of bits_of number_of_bits eights symbol_value
one_character_less = refl

one_character_more : unbase32_of (codes "AAAAAAAAAAAAAAAAAAAAAAAAAAAAAAAAA") ≡ None
unfolding bytes_of bits_of number_of_bits eights symbol_value
one_character_more = refl

no_digit_1 : unbase32_of (codes "AAAAAAAAAAAAAAAAAAAAAAAAAAAAAAA1") ≡ None
unfolding bytes_of bits_of number_of_bits eights symbol_value
no_digit_1 = refl

no_digit_8 : unbase32_of (codes "8AAAAAAAAAAAAAAAAAAAAAAAAAAAAAAA") ≡ None
unfolding bytes_of bits_of number_of_bits eights symbol_value
no_digit_8 = refl

no_padding : unbase32_of (codes "AAAAAAAAAAAAAAAAAAAAAAAAAAAAAAA=") ≡ None
unfolding bytes_of bits_of number_of_bits eights symbol_value
no_padding = refl

-- digests
abc_is_wanted : wanted_digest (codes "sha1:VGMT4NSHA2AWVOR6EVYXQUGCNSONBWE5") ≡ Sha1 (sha1 (codes "abc"))
unfolding bytes_of bits_of number_of_bits eights symbol_value sha1 digest_bytes hash_after compress rounds schedule first_words
abc_is_wanted = refl

in_any_case : wanted_digest (codes "ShA1:vgmt4nsha2awvor6evyxqugcnsonbwe5") ≡ wanted_digest (codes "sha1:VGMT4NSHA2AWVOR6EVYXQUGCNSONBWE5")
unfolding bytes_of bits_of number_of_bits eights symbol_value
in_any_case = refl

no_other_algorithm : wanted_digest (codes "sha2:VGMT4NSHA2AWVOR6EVYXQUGCNSONBWE5") ≡ Unchecked
no_other_algorithm = refl

no_hexadecimal : wanted_digest (codes "sha1:a9993e364706816aba3e25717850c26c9cd0d89d") ≡ Unchecked
unfolding bytes_of bits_of number_of_bits eights symbol_value
no_hexadecimal = refl

no_blank_after_the_colon : wanted_digest (codes "sha1: VGMT4NSHA2AWVOR6EVYXQUGCNSONBWE5") ≡ Unchecked
unfolding bytes_of bits_of number_of_bits eights symbol_value
no_blank_after_the_colon = refl

nothing_is_wanted : verdict_of Unchecked (codes "abc") ≡ NotChecked
nothing_is_wanted = refl

a_wrong_digest : verdict_of (Sha1 (replicate 20 0)) (codes "abc") ≡ Bad
unfolding sha1 digest_bytes hash_after compress rounds schedule first_words
a_wrong_digest = refl

the_right_digest : verdict_of (Sha1 (169 ∷ 153 ∷ 62 ∷ 54 ∷ 71 ∷ 6 ∷ 129 ∷ 106 ∷ 186 ∷ 62 ∷ 37 ∷ 113 ∷ 120 ∷ 80 ∷ 194 ∷ 108 ∷ 156 ∷ 208 ∷ 216 ∷ 157 ∷ [])) (codes "abc") ≡ Good
unfolding sha1 digest_bytes hash_after compress rounds schedule first_words
the_right_digest = refl

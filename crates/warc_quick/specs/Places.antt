-- The bytes that a date of a day and a time has at each place: a state of the code.
use Rattle.std.specs.Prelude.{ℕ, Bool, ◌&&◌, nat_le, slice_index}
use Rattle.warc_quick.specs.declared.dates.TheConstants.{LEAST, GREATEST}

abbrev pub fits_form : ℕ → ℕ → Bool
fits_form place byte = nat_le (slice_index LEAST place) byte && nat_le byte (slice_index GREATEST place)

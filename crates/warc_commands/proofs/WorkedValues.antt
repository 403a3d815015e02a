-- Which sizes a word gives, computed.
use Rattle.std.proofs.Common.{◌≡◌, ◌^◌, None, Some, codes, refl}
use Rattle.warc_field.specs.Decimal.{decimal_of}
use Rattle.warc_commands.specs.Words.{size_of}

-- sizes
small_size : size_of (codes "0002") ≡ Some 2
unfolding decimal_of
small_size = refl

greatest_size : size_of (codes "1099511627776") ≡ Some (2 ^ 40)
unfolding decimal_of
greatest_size = refl

over_greatest : size_of (codes "1099511627777") ≡ None
unfolding decimal_of
over_greatest = refl

no_size : size_of (codes "0") ≡ None
unfolding decimal_of
no_size = refl

unread_size : size_of (codes "1x") ≡ None
unfolding decimal_of
unread_size = refl

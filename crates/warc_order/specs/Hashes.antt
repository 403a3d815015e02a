-- The hash of a text: the low 32 bits of what std's `FoldHasher` gives of it.
use Rattle.std.specs.Prelude.{ℕ, List, bit_and}
use Rattle.std.specs.Hash.FoldHasher.{finish, initial, write}

unfoldable pub hash_of : List ℕ → ℕ
hash_of text = bit_and (finish (write initial text)) 4_294_967_295

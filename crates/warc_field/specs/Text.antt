-- Names and values of named fields, as bytes (WARC 1.1, 4; its `token` and `field-value`).
use Rattle.std.specs.Prelude.{◌≡◌, true, ℕ, ◌-◌, Bool, not, ◌&&◌, ◌||◌, ◌==◌, nat_lt, List, length, take, drop, map, codes}
use Rattle.std.specs.List.{AllByRecursion, list_all, list_any, prefix_len, suffix_len}
use Rattle.std.specs.Str.{str_eq_ignore_ascii_case}
use Rattle.std.specs.Char.{to_ascii_lowercase}

-- a space or a tab
unfoldable pub is_blank : ℕ → Bool
is_blank b = b == 32 || b == 9

-- what no name contains, besides control characters and the space
abbrev pub separators : List ℕ
separators = codes "()<>@,;:\\\"/[]?={}"

-- an ASCII character that is no control character, no space and no separator
unfoldable pub is_name_byte : ℕ → Bool
is_name_byte b = nat_lt 32 b && nat_lt b 127 && not (list_any (λ s. s == b) separators)

-- a name: one or more such bytes
unfoldable pub is_name : List ℕ → Bool
is_name n = not (length n == 0) && list_all is_name_byte n

-- no control character but tab; bytes from 128 on aren't looked at
unfoldable pub is_value_byte : ℕ → Bool
is_value_byte b = b == 9 || (nat_lt 31 b && not (b == 127))

-- spaces and tabs cut at both ends
unfoldable pub trimmed : List ℕ → List ℕ
trimmed xs = let t = drop (prefix_len is_blank xs) xs in take (length t - suffix_len is_blank t) t

-- a value: no control character but tab, and no space or tab at its ends
unfoldable pub is_value : List ℕ → Bool
is_value v = list_all is_value_byte v && (prefix_len is_blank v == 0) && (suffix_len is_blank v == 0)

-- a text with its ASCII capitals in lower case
abbrev pub lower : List ℕ → List ℕ
lower n = map to_ascii_lowercase n

-- whether two names are the same: ASCII case doesn't matter
abbrev pub same : List ℕ → List ℕ → Bool
same a b = str_eq_ignore_ascii_case a b

-- a name and a value
abbrev pub IsField : List ℕ × List ℕ → Type 0
IsField field = (is_name field.0 ≡ true) × (is_value field.1 ≡ true)

-- each of them is a name and a value
abbrev pub AreFields : List (List ℕ × List ℕ) → Type 0
AreFields fields = AllByRecursion IsField fields

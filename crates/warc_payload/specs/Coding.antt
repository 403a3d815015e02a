-- Which fields of a response head say that its body is coded: a transfer coding (RFC 9112, section
-- 6.1) or a content coding (RFC 9110, section 8.4) other than `identity`, which changes nothing.
use Rattle.std.specs.Prelude.{ℕ, Bool, not, ◌&&◌, ◌||◌, ◌==◌, List, length, codes}
use Rattle.std.specs.List.{list_any}
use Rattle.std.specs.Str.{str_eq_ignore_ascii_case}
use Rattle.httparse.specs.Grammar.{ResponseHead}
use Rattle.httparse.specs.Spans.{name_and_value}

-- the name of a field whose value lists codings, in any case
abbrev pub lists_codings : List ℕ → Bool
lists_codings name =
    str_eq_ignore_ascii_case name (codes "transfer-encoding")
    || str_eq_ignore_ascii_case name (codes "content-encoding")

-- the value is neither empty nor `identity`, in any case
abbrev pub is_coding : List ℕ → Bool
is_coding value = not (length value == 0) && not (str_eq_ignore_ascii_case value (codes "identity"))

-- a field, by its name and by its value without the spaces and tabs around it, names a coding
abbrev pub names_coding : List ℕ × List ℕ → Bool
names_coding field = lists_codings field.0 && is_coding field.1

-- a field names a transfer coding
abbrev pub names_transfer_coding : List ℕ × List ℕ → Bool
names_transfer_coding field = str_eq_ignore_ascii_case field.0 (codes "transfer-encoding") && is_coding field.1

-- some field of the head names a coding
abbrev pub is_coded : ResponseHead → Bool
is_coded head = list_any (λ f. names_coding (name_and_value f)) head.fields

-- some field of the head names a transfer coding: what follows the head is the form in which the body was sent
abbrev pub is_transfer_coded : ResponseHead → Bool
is_transfer_coded head = list_any (λ f. names_transfer_coding (name_and_value f)) head.fields

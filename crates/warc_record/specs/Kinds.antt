-- The kinds of records (ISO 28500:2017, 5.5 and 6). That case doesn't matter is this project's own reading.
use Rattle.std.specs.Prelude.{ℕ, Bool, true, false, List, [], ◌∷◌, find, codes}
use Rattle.std.specs.Option.{option_map_or}
use Rattle.std.specs.Str.{str_eq_ignore_ascii_case}
use Rattle.warc_record.specs.declared.types.Kind.{Kind}
use Rattle.warc_record.specs.declared.types.Kind.TheVariants.{Warcinfo, Response, Resource, Request, Metadata, Revisit, Conversion, Continuation, Other}

-- the eight types
abbrev pub kind_names : List (List ℕ × Kind)
kind_names =
    (codes "warcinfo", Warcinfo) ∷ (codes "response", Response) ∷ (codes "resource", Resource)
    ∷ (codes "request", Request) ∷ (codes "metadata", Metadata) ∷ (codes "revisit", Revisit)
    ∷ (codes "conversion", Conversion) ∷ (codes "continuation", Continuation) ∷ []

-- the kind of the eight that a type names, in any case, or else Other
abbrev pub kind_named : List ℕ → Kind
kind_named text =
    option_map_or (λ entry. entry.1) (find (λ entry. str_eq_ignore_ascii_case text entry.0) kind_names) Other

-- whether two kinds are the same
abbrev pub is_kind : Kind → Kind → Bool
is_kind Warcinfo Warcinfo = true
is_kind Response Response = true
is_kind Resource Resource = true
is_kind Request Request = true
is_kind Metadata Metadata = true
is_kind Revisit Revisit = true
is_kind Conversion Conversion = true
is_kind Continuation Continuation = true
is_kind Other Other = true
is_kind _ _ = false

abbrev pub is_revisit : Kind → Bool
is_revisit Revisit = true
is_revisit _ = false

abbrev pub is_continuation : Kind → Bool
is_continuation Continuation = true
is_continuation _ = false

abbrev pub is_known : Kind → Bool
is_known Other = false
is_known _ = true

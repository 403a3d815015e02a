-- The names by which a head is read in place: a state of the code.
use Rattle.std.specs.Prelude.{◌≡◌, true, false, List, ℕ}
use Rattle.warc_field.specs.Text.{is_name, same}
use Rattle.warc_frame.specs.FieldNames.{name_text}
use Rattle.warc_frame.specs.declared.field_name.FieldName.{FieldName}
use Rattle.warc_quick.specs.declared.names.Naming.{Naming}
use Rattle.warc_quick.specs.declared.names.Naming.TheVariants.{Known, Other}

-- a text is this name as the standard writes it, or a name that none of the names is in any case
abbrev pub IsNaming : List ℕ → Naming → Type 0
IsNaming text (Known name) = text ≡ name_text name
IsNaming text Other = (is_name text ≡ true) × ((name : FieldName) → same text (name_text name) ≡ false)

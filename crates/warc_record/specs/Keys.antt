-- The bytes that a key holds: a state of the code.
use Rattle.std.specs.Prelude.{ℕ, List}
use Rattle.warc_record.specs.declared.ids.KeyForm.{KeyForm}
use Rattle.warc_record.specs.declared.ids.KeyForm.TheVariants.{Uuid, Text}

abbrev pub form_bytes : KeyForm → List ℕ
form_bytes (Uuid bytes) = bytes
form_bytes (Text bytes) = bytes.now

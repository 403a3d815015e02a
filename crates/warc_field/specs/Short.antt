-- The bytes that a name or a value keeps, in place or by a pointer: a state of the code.
use Rattle.std.specs.Prelude.{ℕ, List}
use Rattle.warc_field.specs.declared.short.Bytes.{Bytes}
use Rattle.warc_field.specs.declared.short.Bytes.TheVariants.{Short, Long}

abbrev pub held_bytes : {A : Type 0} → Bytes A → List ℕ
held_bytes (Short bytes) = bytes
held_bytes (Long bytes) = bytes.items

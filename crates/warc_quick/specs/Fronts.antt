-- What is known of a head that is read in place as far as the reading has come: states of the code.
use Rattle.std.specs.Prelude.{◌≡◌, ℕ, ◌≤◌, false, List, ◌++◌, length, take, get_or, Option, None, option_map}
use Rattle.std.specs.Borrow.{Bor}
use Rattle.warc_field.specs.Area.{Pair, IsFieldLine, SpellsFields, count_of, first_value}
use Rattle.warc_frame.specs.Record.{head_text}
use Rattle.warc_quick.specs.Quick.{IsQuickHead}
use Rattle.warc_quick.specs.declared.head.QuickHead.{QuickHead}
use Rattle.warc_quick.specs.declared.lines.Line.{Line}
use Rattle.warc_frame.specs.FieldNames.{name_count, name_place, name_text}
use Rattle.warc_frame.specs.declared.field_name.FieldName.{FieldName}
use Rattle.warc_record.specs.Table.{may_repeat}
use Rattle.warc_quick.specs.Names.{IsNaming}

-- a text begins with the line of a field, which has such a name, and this follows
pub record BeginsWithLine (text : List ℕ) (line : Line) : Type 0 where
  pub bytes : List ℕ
  pub is : IsFieldLine (line.name.now, line.value.now) bytes
  pub named : IsNaming line.name.now line.naming
  pub text_is : text ≡ bytes ++ line.more.now

-- the value of the first field of a name, or none where no field has the name; only a name that may repeat has another
pub record IsValueOf (name : FieldName) (fields : List Pair) (value : Option (Bor (List ℕ))) : Type 0 where
  pub first : option_map (λ (text : Bor (List ℕ)). text.now) value ≡ first_value (name_text name) fields
  pub alone : may_repeat name ≡ false → count_of (name_text name) fields ≤ 1

-- each name has at its place the value of its first field
pub record AreValues (fields : List Pair) (values : List (Option (Bor (List ℕ)))) : Type 0 where
  pub room : length values ≡ name_count
  pub each : (name : FieldName) → IsValueOf name fields (get_or values (name_place name) None)

-- a text begins with the lines of fields that have these values, and this follows
pub record BeginsWithFields (text : List ℕ) (values : List (Option (Bor (List ℕ)))) (more : List ℕ) : Type 0 where
  pub fields : List Pair
  pub area : List ℕ
  pub spelled : SpellsFields fields area
  pub are : AreValues fields values
  pub text_is : text ≡ area ++ more

-- the first bytes of a text are a whole, good head, which says this, and whose fields have these values
pub record IsHeadWith (text : List ℕ) (found : QuickHead) (values : List (Option (Bor (List ℕ)))) : Type 0 where
  pub head : IsQuickHead text found
  pub area : List ℕ
  pub spelled : SpellsFields head.fields area
  pub are : AreValues head.fields values
  pub text_is : take found.len text ≡ head_text head.version area

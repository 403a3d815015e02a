-- Which heads are good, beyond framing: type, id and date each occur exactly once (ISO 28500:2017, 4 and 5.1) and can
-- be read (5.5, 5.2, 5.4). The order in which they are judged is this project's own.
use Rattle.std.specs.Prelude.{ℕ, Bool, false, nat_lt, List, is_some, is_none, Option, Some, None, if◌then◌else◌}
use Rattle.std.specs.Option.{option_map_or, option_or}
use Rattle.warc_field.specs.Text.{is_name}
use Rattle.warc_field.specs.Area.{Pair, first_value, count_of}
use Rattle.warc_value.specs.Dates.{instant_of}
use Rattle.warc_frame.specs.FaultText.{name_of}
use Rattle.warc_frame.specs.declared.fault.Mandatory.{Mandatory}
use Rattle.warc_frame.specs.declared.fault.Mandatory.TheVariants.{«Type», RecordId, Date as DateField}
use Rattle.warc_frame.specs.declared.fault.FaultKind.{FaultKind}
use Rattle.warc_frame.specs.declared.fault.FaultKind.TheVariants.{Missing, Repeated, BadType, Id, Date}
use Rattle.warc_record.specs.Ids.{is_id}

-- no field of this name occurs, or more than one
abbrev pub count_fault : Mandatory → List Pair → Option FaultKind
count_fault field fields =
    if is_none (first_value (name_of field) fields) then Some (Missing field)
    else if nat_lt 1 (count_of (name_of field) fields) then Some (Repeated field)
    else None

-- its value can't be read
abbrev pub value_fault : Mandatory → (List ℕ → Bool) → FaultKind → List Pair → Option FaultKind
value_fault field reads fault fields =
    if option_map_or reads (first_value (name_of field) fields) false then None else Some fault

-- the fault of each of the three fields
abbrev pub type_fault : List Pair → Option FaultKind
type_fault fields = option_or (count_fault «Type» fields) (value_fault «Type» is_name BadType fields)

abbrev pub id_fault : List Pair → Option FaultKind
id_fault fields = option_or (count_fault RecordId fields) (value_fault RecordId is_id Id fields)

abbrev pub is_date : List ℕ → Bool
is_date value = is_some (instant_of value)

abbrev pub date_fault : List Pair → Option FaultKind
date_fault fields = option_or (count_fault DateField fields) (value_fault DateField is_date Date fields)

-- the first of them
abbrev pub head_fault : List Pair → Option FaultKind
head_fault fields = option_or (type_fault fields) (option_or (id_fault fields) (date_fault fields))

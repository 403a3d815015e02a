-- Good records: framed ones whose heads have no fault (ISO 28500:2017, 4: the mandatory fields; 5.2, 5.4 and 5.5: id,
-- date and type), and what those heads say. The word is this project's own.
use Rattle.std.specs.Prelude.{◌≡◌, ◌↔◌, ℕ, ◌≤◌, Bool, true, List, Some, None}
use Rattle.warc_field.specs.Text.{is_name}
use Rattle.warc_field.specs.Area.{Pair, count_of, first_value}
use Rattle.warc_value.specs.Dates.{Instant, instant_of}
use Rattle.warc_frame.specs.Record.{Record, IsFramed}
use Rattle.warc_frame.specs.Names.{warc_type, warc_record_id, warc_date}
use Rattle.warc_record.specs.Ids.{id_key, is_id}
use Rattle.warc_record.specs.Kinds.{kind_named}
use Rattle.warc_record.specs.Readings.{Reading, reading_of}
use Rattle.warc_record.specs.Heads.{head_fault, is_date}

-- a field of this name occurs exactly once, and its value can be read
pub record OccursOnce (name : List ℕ) (test : List ℕ → Bool) (fields : List Pair) : Type 0 where
  pub value : List ℕ
  pub is_present : first_value name fields ≡ Some value
  pub alone : count_of name fields ≤ 1
  pub reads : test value ≡ true

-- the type occurs exactly once and is a token, the id is in brackets or bare, the date is one
pub record IsGoodHead (fields : List Pair) : Type 0 where
  pub type_is : OccursOnce warc_type is_name fields
  pub id_is : OccursOnce warc_record_id is_id fields
  pub date_is : OccursOnce warc_date is_date fields

-- a good record can be framed, and its head is good
pub record IsGood (r : Record) : Type 0 where
  pub framed : IsFramed r
  pub head : IsGoodHead r.fields

-- good heads are the heads in which no fault is found
abbrev pub GoodHeadsHaveNoFault : Type 0
GoodHeadsHaveNoFault = (fields : List Pair) → IsGoodHead fields ↔ (head_fault fields ≡ None)

-- a head says a type, which is a token and names the kind, an id with its key and a date with its instant
pub record SaysAll (reading : Reading) : Type 0 where
  pub type_text : List ℕ
  pub id_text : List ℕ
  pub date_text : List ℕ
  pub id : List ℕ
  pub instant : Instant
  pub type_is : reading.type_text ≡ Some type_text
  pub id_text_is : reading.id_text ≡ Some id_text
  pub date_text_is : reading.date_text ≡ Some date_text
  pub id_is : reading.id ≡ Some id
  pub instant_is : reading.instant ≡ Some instant
  pub kind_is : reading.kind ≡ kind_named type_text
  pub token : is_name type_text ≡ true
  pub id_reads : id_key id_text ≡ Some id
  pub date_reads : instant_of date_text ≡ Some instant

-- a head without a fault says them all
abbrev pub GoodHeadsRead : Type 0
GoodHeadsRead = (fields : List Pair) → head_fault fields ≡ None → SaysAll (reading_of fields)

-- What the words of a command line say: a position, a date, a size or a URI; and how a command ends by its word.
use Rattle.std.specs.Prelude.{◌≡◌, ℕ, ◌⊎◌, Bool, true, List, codes, Option, Some, None, Result, Ok, Err, ok_or, option_and_then, nat_le, nat_lt, ◌&&◌, if◌then◌else◌}
use Rattle.std.specs.Result.{result_map_both}
use Rattle.warc_field.specs.Decimal.{decimal_of}
use Rattle.warc_frame.specs.FaultText.{out_fault_text}
use Rattle.warc_frame.specs.Record.{max_archive, max_block}
use Rattle.warc_frame.specs.declared.fault.OutFault.TheVariants.{Memory as NoMemory}
use Rattle.warc_value.specs.Dates.{Instant, instant_of}
use Rattle.warc_arguments.specs.Digits.{uri_named}
use Rattle.warc_arguments.specs.declared.digits.UriFault.{UriFault}
use Rattle.warc_arguments.specs.declared.digits.UriFault.TheVariants.{Digits, Memory as OutOfMemory}
use Rattle.warc_arguments.specs.declared.status.Status.{Status}
use Rattle.warc_arguments.specs.declared.status.Status.TheVariants.{Failed}
use Rattle.warc_commands.specs.Devices.{Devices}
use Rattle.warc_commands.specs.Program.{Reports, reported_line}
use Rattle.warc_commands.specs.declared.words.Uri.{Uri}
use Rattle.warc_commands.specs.declared.words.Uri.TheVariants.{Word, Decoded}
use Rattle.warc_commands.specs.declared.words.WordFault.{WordFault}
use Rattle.warc_commands.specs.declared.words.WordFault.TheVariants.{Position, Date, Size, Hex, Memory}

-- ---- what a word says

-- the position that a word names: decimal digits, a number up to the length of the longest archive
abbrev pub position_of : List ℕ → Option ℕ
position_of word = option_and_then (λ n. if nat_le n max_archive then Some n else None) (decimal_of word)

-- how many bytes a segment is to have, by a word: decimal digits, a number from 1 to the length of the longest block
abbrev pub size_of : List ℕ → Option ℕ
size_of word = option_and_then (λ n. if nat_lt 0 n && nat_le n max_block then Some n else None) (decimal_of word)

-- the bytes of a URI that was read
abbrev pub uri_bytes : {A : Type 0} → Uri A → List ℕ
uri_bytes (Word text) = text.now
uri_bytes (Decoded bytes) = bytes.items

-- ---- what reading a word returns

abbrev pub read_position : List ℕ → Result ℕ WordFault
read_position word = ok_or (position_of word) Position

abbrev pub read_moment : List ℕ → Result Instant WordFault
read_moment word = ok_or (instant_of word) Date

abbrev pub read_size : List ℕ → Result ℕ WordFault
read_size word = ok_or (size_of word) Size

abbrev pub read_uri : Bool → List ℕ → Result (List ℕ) WordFault
read_uri in_hex word = ok_or (uri_named in_hex word) Hex

-- if there is a word; digits have to be there
abbrev pub read_listed : Bool → Option (List ℕ) → Result (Option (List ℕ)) WordFault
read_listed in_hex None = if in_hex then Err Hex else Ok None
read_listed in_hex (Some word) = result_map_both Some (λ fault. fault) (read_uri in_hex word)

-- this is returned, or that an allocation failed, as digits alone need one
abbrev pub ReadsWord : {X : Type 0} → Bool → Result X WordFault → Result X WordFault → Type 0
ReadsWord in_hex read answer = (answer ≡ read) ⊎ ((in_hex ≡ true) × (answer ≡ Err Memory))

-- why digits name no URI
abbrev pub fault_by : UriFault → WordFault
fault_by Digits = Hex
fault_by OutOfMemory = Memory

-- ---- how a command ends by its word

-- the text of a fault
abbrev pub word_fault_text : WordFault → List ℕ
word_fault_text Position = codes "bad position"
word_fault_text Date = codes "bad date"
word_fault_text Size = codes "bad size"
word_fault_text Hex = codes "bad hex"
word_fault_text Memory = out_fault_text (NoMemory 0)

-- a word isn't what it should be, as is reported: nothing was read or written
pub record IsBadWord (why : List ℕ) (old new : Devices) (status : Status) : Type 0 where
  pub unread : new.source ≡ old.source
  pub untouched : new.out ≡ old.out
  pub reported : Reports (reported_line why) old.err new.err
  pub status_is : status ≡ Failed

-- an allocation failed before the archive was read
abbrev pub IsStarved : Devices → Devices → Status → Type 0
IsStarved = IsBadWord (word_fault_text Memory)

-- how a command ends by what its word says, or by the fault of its word
abbrev pub ByWord : {X : Type 0} → (X → Devices → Devices → Status → Type 0) → Result X WordFault → Devices → Devices
    → Status → Type 0
ByWord How (Ok x) = How x
ByWord How (Err fault) = IsBadWord (word_fault_text fault)

-- how it ends by the URI that its word names; digits, and nothing else, may want memory
abbrev pub ByUri : {X : Type 0} → (X → Devices → Devices → Status → Type 0) → Bool → Result X WordFault → Devices
    → Devices → Status → Type 0
ByUri How in_hex read old new status =
    ByWord How read old new status ⊎ ((in_hex ≡ true) × IsStarved old new status)

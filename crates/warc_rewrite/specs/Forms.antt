-- The forms in which the records of an archive are written anew, and what is read of the archive for it.
use Rattle.std.specs.Prelude.{◌≡◌, ℕ, ◌+◌, ◌-◌, ◌*◌, List, Result}
use Rattle.std.specs.List.{flat_map, sum_by}
use Rattle.warc_frame.specs.Effects.{ReadsOnly, Sends}
use Rattle.warc_frame.specs.Record.{Record}
use Rattle.warc_frame.specs.Seen.{Seen, SeenSource}
use Rattle.warc_frame.specs.Spelling.{canonical}
use Rattle.warc_frame.specs.declared.fault.OutFault.{OutFault}
use Rattle.warc_write.specs.Conversion.{converted}
use Rattle.warc_write.specs.Cutting.{split_or_whole}
use Rattle.warc_write.specs.Rendering.{canonical_texts}
use Rattle.warc_reading.specs.Archive.{IsArchiveOf, contents}
use Rattle.warc_reading.specs.Placing.{IsInAnyRow}
use Rattle.warc_reading.specs.Row.{Row}
use Rattle.warc_rewrite.specs.declared.forms.Form.{Form}
use Rattle.warc_rewrite.specs.declared.forms.Form.TheVariants.{Canonical, Converted}

-- a record in a form: as it is, or as one of WARC 1.1
abbrev pub record_as : Form → Record → Record
record_as Canonical r = r
record_as Converted r = converted r

-- what is written of a record: its canonical text, or the canonical text of the record as one of WARC 1.1
abbrev pub text_as : Form → Record → List ℕ
text_as Canonical r = canonical r
text_as Converted r = canonical (converted r)

abbrev pub texts_as : Form → List Record → List ℕ
texts_as form records = flat_map (text_as form) records

-- what is written of a record that is split into segments of n bytes: the canonical texts of these, or its own where it
-- isn't split
abbrev pub split_text : ℕ → Record → List ℕ
split_text n r = canonical_texts (split_or_whole n r)

abbrev pub split_texts : ℕ → List Record → List ℕ
split_texts n records = flat_map (split_text n) records

-- how many bytes of a record are read
abbrev pub read_len : Form → Row → ℕ
read_len form row = (row.block_start - row.offset) + row.block_len

-- how many bytes of a record are read to split it: its block is read to judge its digest, and then twice, since the
-- digest of a segment is before it
abbrev pub split_len : Row → ℕ
split_len row = (row.block_start - row.offset) + 3 * row.block_len

-- the text is that of each record of an archive of these rows, one after another
pub record IsOutputOf (text_of : Record → List ℕ) (rows : List Row) (bytes text : List ℕ) : Type 0 where
  pub is : IsArchiveOf bytes rows
  pub text_is : text ≡ flat_map text_of (contents is.are.records)

-- writing an archive of these rows, of each record a text for which `len_of` bytes are read: these texts go out, or a
-- front of them, and the records alone are read
pub record WritesEach (text_of : Record → List ℕ) (len_of : Row → ℕ) (rows : List Row) (old new : SeenSource)
    (before after : Seen) (answer : Result (Unit {0}) OutFault) : Type 0 where
  pub sends : Sends (IsOutputOf text_of rows) old new before after answer
  pub reads : ReadsOnly (IsInAnyRow rows) (sum_by len_of rows) old new

-- writing each record of an archive of these rows in a form
abbrev pub Writes : Form → List Row → SeenSource → SeenSource → Seen → Seen → Result (Unit {0}) OutFault → Type 0
Writes form = WritesEach (text_as form) (read_len form)

-- writing each record of an archive of these rows, split into segments of n bytes
abbrev pub WritesSplit : ℕ → List Row → SeenSource → SeenSource → Seen → Seen → Result (Unit {0}) OutFault → Type 0
WritesSplit n = WritesEach (split_text n) split_len

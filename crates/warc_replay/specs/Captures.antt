-- The captures of an archive, and the lines that `captures` writes of them.
use Rattle.std.specs.Prelude.{ℕ, not, ◌==◌, List, [], ◌∷◌, ◌++◌, length, take, drop, slice_get, codes, decimal, Option, Some, None, Result, Ok, Err, if◌then◌else◌}
use Rattle.std.specs.List.{enumerate_from, flat_map, join_with_byte, prefix_len}
use Rattle.std.specs.Option.{option_map_or}
use Rattle.warc_record.specs.Kinds.{kind_named}
use Rattle.warc_index.specs.Captures.{is_capture}
use Rattle.warc_answer.specs.ReasonText.{reason_text}
use Rattle.warc_answer.specs.Stored.{StoredBody}
use Rattle.warc_answer.specs.declared.answer.Reason.{Reason as Why}
use Rattle.warc_answer.specs.declared.answer.Reason.TheVariants.{Coded}
use Rattle.warc_reading.specs.Row.{Row}
use Rattle.warc_judged.specs.Listing.{shown}
use Rattle.warc_replay.specs.Outcomes.{CaptureSeen}

-- the positions of captures among records with these types, by position
abbrev pub position_if : ℕ → List ℕ → List ℕ
position_if position kind = if is_capture (kind_named kind) then position ∷ [] else []

abbrev pub capture_positions : List Row → List ℕ
capture_positions rows = flat_map (λ p. position_if p.0 p.1.kind) (enumerate_from 0 rows)

-- a number, or a dash for none
abbrev pub number_shown : Option ℕ → List ℕ
number_shown None = codes "-"
number_shown (Some number) = decimal number

-- a date without the `Z` at its end
abbrev pub date_front : List ℕ → List ℕ
date_front date = take (prefix_len (λ b. not (b == 90)) date) date

-- the instant of a date in full, to the nanosecond: what a shorter form leaves out is as in its first instant
unfoldable pub full_date : List ℕ → List ℕ
full_date date = date_front date ++ drop (length (date_front date)) (codes "0000-01-01T00:00:00.000000000Z")

-- a reason as `replay` prints it, or a dash for none
abbrev pub reason_shown : Option Why → List ℕ
reason_shown None = codes "-"
reason_shown (Some why) = reason_text why

-- a line of ten columns with a tab between two, ended by LF
unfoldable pub columns_of : (a b c d e f g h i j : List ℕ) → List ℕ
columns_of a b c d e f g h i j =
    join_with_byte 9 (a ∷ b ∷ c ∷ d ∷ e ∷ f ∷ g ∷ h ∷ i ∷ j ∷ []) ++ codes "\n"

-- the line of a capture, by its row: its position, date, instant and type, the position of its origin, the status, the
-- media type, the length, the reason, and its target
abbrev pub columns_line : Row → ℕ → Option ℕ → Option ℕ → List ℕ → Option ℕ → Option Why → List ℕ
columns_line row chosen given status media size why =
    columns_of (decimal chosen) row.date (full_date row.date) row.kind (number_shown given) (number_shown status)
    (shown media) (number_shown size) (reason_shown why) (shown row.target)

-- the line of a capture: a coded body has no length, and where nothing is stored there is a reason alone
abbrev pub line_by : Row → ℕ → Option ℕ → Result StoredBody Why → List ℕ
line_by row chosen given (Ok s) =
    if s.coded then columns_line row chosen given s.status s.media_type None (Some Coded)
    else columns_line row chosen given s.status s.media_type (Some s.length) None
line_by row chosen given (Err why) = columns_line row chosen given None [] None (Some why)

-- the line of a capture, by the rows of an archive
abbrev pub capture_line : List Row → CaptureSeen → List ℕ
capture_line rows c = option_map_or (λ row. line_by row c.chosen c.given c.stored) (slice_get rows c.chosen) []

-- a line for each
unfoldable pub captures_text : List Row → List CaptureSeen → List ℕ
captures_text rows captures = flat_map (capture_line rows) captures

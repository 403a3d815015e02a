-- Which bytes of its source a command asks for, and in how many reads at most.
use Rattle.std.specs.Prelude.{◌≡◌, ℕ, ◌+◌, ◌*◌, ◌≤◌, Bool, false, true, length}
use Rattle.warc_frame.specs.Record.{max_archive, max_block}
use Rattle.warc_frame.specs.Seen.{AsksOnly, IfHeld, InOrder, SeenSource}
use Rattle.warc_arguments.specs.declared.command.Command.{Command}
use Rattle.warc_arguments.specs.declared.command.Command.TheVariants as command

-- no byte above offset 2^48 is asked for
abbrev pub AsksNear : SeenSource → SeenSource → Type 0
AsksNear old new = AsksOnly (λ at. at ≤ max_archive) old new

-- and there are at most `times` reads for each byte that the source holds, and one
pub record ReadsTimes (times : ℕ) (old new : SeenSource) : Type 0 where
  pub near : AsksNear old new
  pub cost : IfHeld old.holds (λ bytes. new.reads ≤ old.reads + times * length bytes + 1)

-- and there is at most one read for each byte, and one, each where the one before ended
pub record ReadsInOrder (old new : SeenSource) : Type 0 where
  pub times : ReadsTimes 1 old new
  pub order : InOrder 0 old new

-- how many bytes of the file of which a record is made one read asks for
abbrev pub file_piece : ℕ
file_piece = 65536

-- that file is read: no byte above offset 2^40, none further out than twice its length and a piece, and at most two
-- reads for each byte, and two
pub record ReadsForRecord (old new : SeenSource) : Type 0 where
  pub near : AsksOnly (λ at. at ≤ max_block) old new
  pub close : IfHeld old.holds (λ bytes. AsksOnly (λ at. at ≤ 2 * length bytes + file_piece) old new)
  pub cost : IfHeld old.holds (λ bytes. new.reads ≤ old.reads + 2 * length bytes + 2)

-- what `select` reads: for a closed selection, heads once more
abbrev pub SelectReads : Bool → SeenSource → SeenSource → Type 0
SelectReads false = ReadsTimes 2
SelectReads true = ReadsTimes 3

-- what a run of the command reads: an archive is opened in one read for each byte, and one, in order; what is written
-- of it is read again, once, and twice the joined blocks of a body, of which the first time to judge them. A block that
-- is split is read three times: to judge it, for the digests of its segments, and to be copied. For a closed selection
-- heads are read again before what is written
abbrev pub CommandReads : Command → SeenSource → SeenSource → Type 0
CommandReads (command.List json) = ReadsInOrder
CommandReads command.Check = ReadsInOrder
CommandReads (command.Fixity false) = ReadsInOrder
CommandReads (command.Fixity true) = AsksNear
CommandReads (command.Summary json) = ReadsInOrder
CommandReads (command.Extract id) = ReadsTimes 2
CommandReads (command.Head position) = ReadsTimes 2
CommandReads (command.Block position) = ReadsTimes 2
CommandReads command.Rewrite = ReadsTimes 2
CommandReads command.Convert = ReadsTimes 2
CommandReads (command.Split size) = ReadsTimes 4
CommandReads (command.Replay uri date hex stored) = ReadsTimes 3
CommandReads (command.Body position stored) = ReadsTimes 3
CommandReads (command.Select positions except closed) = SelectReads closed
CommandReads (command.Write draft) = ReadsForRecord
CommandReads (command.Captures uri hex) = AsksNear
CommandReads command.Survey = AsksNear
CommandReads command.Pieces = AsksNear
CommandReads (command.Salvage false) = ReadsTimes 2
CommandReads (command.Salvage true) = AsksNear
CommandReads (command.Explain number) = λ old new. new ≡ old
CommandReads (command.Instant date) = λ old new. new ≡ old

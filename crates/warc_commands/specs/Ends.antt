-- How each command ends, and its exit statuses.
use Rattle.std.specs.Prelude.{◌≡◌, ℕ, ◌⊎◌, Bool, true, false, List, option_map}
use Rattle.warc_rewrite.specs.Forms.{texts_as}
use Rattle.warc_rewrite.specs.declared.forms.Form.TheVariants.{Canonical, Converted}
use Rattle.warc_replay.specs.declared.record.part.Part.TheVariants.{Head, Block}
use Rattle.warc_arguments.specs.Explanations.{explained}
use Rattle.warc_arguments.specs.declared.status.Status.{Status}
use Rattle.warc_arguments.specs.declared.status.Status.TheVariants.{Done, Found, Refused, Failed, Unchecked}
use Rattle.warc_commands.specs.Devices.{Devices}
use Rattle.warc_commands.specs.Closed.{SelectedAs}
use Rattle.warc_commands.specs.Explaining.{ExplainEnds}
use Rattle.warc_commands.specs.Fixity.{FixityEnds}
use Rattle.warc_commands.specs.Instants.{InstantEnds}
use Rattle.warc_commands.specs.Parts.{PartEnds}
use Rattle.warc_commands.specs.Payloads.{PayloadsEnd}
use Rattle.warc_commands.specs.Program.{CheckEnds, ExtractEnds, ListEnds, MakeEnds, SplitEnds, WriteEnds}
use Rattle.warc_commands.specs.Captures.{CapturesEnds}
use Rattle.warc_commands.specs.Salvage.{SalvageEnds}
use Rattle.warc_commands.specs.Named.{bad_line, positions_in}
use Rattle.warc_commands.specs.Pieces.{PiecesEnd, SalvageAllEnds}
use Rattle.warc_commands.specs.Stored.{DatedAs, GivenAs}
use Rattle.warc_commands.specs.Summaries.{SummaryEnds}
use Rattle.warc_commands.specs.Surveys.{SurveyEnds}
use Rattle.warc_commands.specs.Words.{ByUri, ByWord, read_listed, read_moment, read_position, read_size, read_uri}
use Rattle.warc_arguments.specs.declared.command.Command.{Command}
use Rattle.warc_arguments.specs.declared.command.Command.TheVariants as command

-- how a run of the command ends, by the list that it reads beside its source, if it reads one
abbrev pub Ends : Command → List ℕ → Devices → Devices → Status → Type 0
Ends (command.List json) list = ListEnds json
Ends command.Check list = CheckEnds
Ends (command.Extract id) list = ExtractEnds id.now
Ends (command.Replay uri date hex stored) list =
    ByUri (DatedAs stored date.now) hex (read_uri hex uri.now)
Ends (command.Body position stored) list = ByWord (GivenAs stored) (read_position position.now)
Ends (command.Captures uri hex) list =
    ByUri CapturesEnds hex (read_listed hex (option_map (λ u. u.now) uri))
Ends command.Rewrite list = WriteEnds (texts_as Canonical)
Ends command.Convert list = WriteEnds (texts_as Converted)
Ends (command.Split size) list = ByWord SplitEnds (read_size size.now)
Ends (command.Select positions except closed) list =
    SelectedAs closed except (bad_line list) (positions_in list)
Ends (command.Write draft) list = MakeEnds draft
Ends (command.Head position) list = ByWord (PartEnds Head) (read_position position.now)
Ends (command.Block position) list = ByWord (PartEnds Block) (read_position position.now)
Ends (command.Fixity false) list = FixityEnds
Ends (command.Fixity true) list = PayloadsEnd
Ends command.Pieces list = PiecesEnd
Ends (command.Salvage false) list = SalvageEnds
Ends (command.Salvage true) list = SalvageAllEnds
Ends (command.Summary json) list = SummaryEnds json
Ends command.Survey list = SurveyEnds
Ends (command.Explain number) list = ExplainEnds (explained number.now)
Ends (command.Instant date) list = ByWord (λ instant. InstantEnds date.now) (read_moment date.now)

-- the exit statuses of a command that finds nothing by itself
abbrev pub MayRefuse : Status → Type 0
MayRefuse status = (status ≡ Done) ⊎ ((status ≡ Refused) ⊎ (status ≡ Failed))

-- and of one that may find something, or find nothing of what it is asked for
abbrev pub MayFind : Status → Type 0
MayFind status = (status ≡ Done) ⊎ ((status ≡ Found) ⊎ ((status ≡ Refused) ⊎ (status ≡ Failed)))

-- the exit statuses of a command
abbrev pub IsStatusOf : Command → Status → Type 0
IsStatusOf (command.List json) status = MayRefuse status
IsStatusOf command.Check status = MayFind status
IsStatusOf (command.Extract id) status = MayFind status
IsStatusOf (command.Replay uri date hex stored) status = MayFind status
IsStatusOf (command.Body position stored) status = MayFind status
IsStatusOf (command.Captures uri hex) status = MayFind status
IsStatusOf command.Rewrite status = MayRefuse status
IsStatusOf command.Convert status = MayRefuse status
IsStatusOf (command.Split size) status = MayRefuse status
IsStatusOf (command.Select positions except closed) status = MayFind status
IsStatusOf (command.Write draft) status = (status ≡ Done) ⊎ (status ≡ Failed)
IsStatusOf (command.Head position) status = MayFind status
IsStatusOf (command.Block position) status = MayFind status
IsStatusOf (command.Fixity payload) status =
    (status ≡ Done) ⊎ ((status ≡ Found) ⊎ ((status ≡ Refused) ⊎ ((status ≡ Failed) ⊎ (status ≡ Unchecked))))
IsStatusOf command.Pieces status = MayRefuse status
IsStatusOf (command.Salvage all) status = MayRefuse status
IsStatusOf (command.Summary json) status = MayRefuse status
IsStatusOf command.Survey status = MayRefuse status
IsStatusOf (command.Explain number) status = (status ≡ Done) ⊎ (status ≡ Failed)
IsStatusOf (command.Instant date) status = (status ≡ Done) ⊎ (status ≡ Failed)

-- whether a command writes of an archive that it refuses: `pieces` and `salvage` alone do
abbrev pub writes_front : Command → Bool
writes_front command.Pieces = true
writes_front (command.Salvage all) = true
writes_front _ = false

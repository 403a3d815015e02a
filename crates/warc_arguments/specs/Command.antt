-- A command of the program.
use Rattle.std.specs.Prelude.{Bool, true, false, List, [], ◌∷◌, ◌++◌, codes, Option, Some, None, option_map}
use Rattle.std.specs.Option.{option_to_list}
use Rattle.clap.specs.Walk.{Text}
use Rattle.warc_arguments.specs.declared.command.Command.{Command}
use Rattle.warc_arguments.specs.declared.command.Command.TheVariants as command
use Rattle.warc_arguments.specs.declared.command.Draft.{Draft}
use Rattle.warc_arguments.specs.declared.command.Request.{Request}

-- the words of `write` before the path of its file
abbrev pub draft_texts : Draft → List Text
draft_texts d = d.kind.now ∷ d.uri.now ∷ d.date.now ∷ d.uuid.now ∷ d.content_type.now ∷ []

-- its name, and the texts in order of the words that are given, by the path of its file, if it reads one
abbrev pub view_of : Option Text → Command → Text × List Text
view_of path (command.List json) = (codes "list", option_to_list path)
view_of path command.Check = (codes "check", option_to_list path)
view_of path (command.Extract id) = (codes "extract", option_to_list path ++ id.now ∷ [])
view_of path (command.Replay uri date hex stored) =
    (codes "replay", option_to_list path ++ uri.now ∷ date.now ∷ [])
view_of path (command.Body position stored) = (codes "body", option_to_list path ++ position.now ∷ [])
view_of path (command.Captures uri hex) =
    (codes "captures", option_to_list path ++ option_to_list (option_map (λ u. u.now) uri))
view_of path command.Rewrite = (codes "rewrite", option_to_list path)
view_of path command.Convert = (codes "convert", option_to_list path)
view_of path (command.Split size) = (codes "split", option_to_list path ++ size.now ∷ [])
view_of path (command.Select positions except closed) =
    (codes "select", option_to_list path ++ positions.now ∷ [])
view_of path (command.Write draft) = (codes "write", draft_texts draft ++ option_to_list path)
view_of path (command.Head position) = (codes "head", option_to_list path ++ position.now ∷ [])
view_of path (command.Block position) = (codes "block", option_to_list path ++ position.now ∷ [])
view_of path (command.Fixity payload) = (codes "fixity", option_to_list path)
view_of path command.Pieces = (codes "pieces", option_to_list path)
view_of path (command.Salvage all) = (codes "salvage", option_to_list path)
view_of path (command.Summary json) = (codes "summary", option_to_list path)
view_of path command.Survey = (codes "survey", option_to_list path)
view_of path (command.Explain number) = (codes "explain", option_to_list path ++ number.now ∷ [])
view_of path (command.Instant date) = (codes "instant", option_to_list path ++ date.now ∷ [])

-- whether each of its flags is given, in order; `--quiet` and `--hints`, which every command has, aren't among them
abbrev pub flags_of : Command → List Bool
flags_of (command.List json) = json ∷ []
flags_of (command.Replay uri date hex stored) = hex ∷ stored ∷ []
flags_of (command.Body position stored) = stored ∷ []
flags_of (command.Captures uri hex) = hex ∷ []
flags_of (command.Select positions except closed) = except ∷ closed ∷ []
flags_of (command.Fixity payload) = payload ∷ []
flags_of (command.Salvage all) = all ∷ []
flags_of (command.Summary json) = json ∷ []
flags_of _ = []

-- what words ask for
pub record Asked : Type 0 where
  pub command : Text × List Text
  pub flags : List Bool
  pub quiet : Bool
  pub hints : Bool

-- the path of its file, if it reads one
abbrev pub path_word : Request → Option Text
path_word r = option_map (λ p. p.now) r.path

abbrev pub asked_by : Request → Asked
asked_by r = record {
  command = view_of (path_word r) r.command;
  flags = flags_of r.command;
  quiet = r.quiet;
  hints = r.hints;
}

-- the path of the file that it reads before its archive, if it reads two
abbrev pub list_word : Command → Option Text
list_word (command.Select positions except closed) = Some positions.now
list_word _ = None

-- whether it can ask for each offset once, in order
abbrev pub reads_once : Command → Bool
reads_once (command.List json) = true
reads_once command.Check = true
reads_once (command.Fixity false) = true
reads_once (command.Summary json) = true
reads_once _ = false

-- whether its output is bytes as they were captured
abbrev pub gives_bytes : Command → Bool
gives_bytes (command.Extract id) = true
gives_bytes (command.Replay uri date hex stored) = true
gives_bytes (command.Body position stored) = true
gives_bytes (command.Block position) = true
gives_bytes _ = false

-- The command line, in the terms of `clap`: what it defines, and what words name by it.
use Rattle.std.specs.Prelude.{◌≡◌, ℕ, Bool, true, false, List, [], ◌∷◌, ◌++◌, fold, map, find, filter_map, Option, Some, None, option_map, unwrap_or, codes, string_bytes, if◌then◌else◌, ◌||◌}
use Rattle.std.specs.Str.{bytes_eq}
use Rattle.clap.specs.Kinds.{Kinds, IsAmong}
use Rattle.clap.specs.Simple.{App, new_app, new_rule, on_top, with_rule, with_subcommand, subcommand_of}
use Rattle.clap.specs.Walk.{Row, Rule, Text, first_of}
use Rattle.clap.specs.declared.error.kind.ErrorKind.{ErrorKind}
use Rattle.clap.specs.declared.error.kind.ErrorKind.TheVariants.{DisplayHelp, DisplayVersion}
use Rattle.clap.specs.declared.builder.action.ArgAction.TheVariants.{SetTrue}
use Rattle.warc_arguments.specs.Command.{Asked}
use Rattle.warc_arguments.specs.declared.parser.CommandFault.{CommandFault}
use Rattle.warc_arguments.specs.declared.help.CommandEntry.{CommandEntry}
use Rattle.warc_arguments.specs.declared.help.WordForm.{WordForm}
use Rattle.warc_arguments.specs.declared.help.WordForm.TheVariants.{Required, Optional, Flag}
use Rattle.warc_arguments.specs.declared.parser.CommandFault.TheVariants.{Usage, Memory}

-- a command's name, the names of the words that it requires, in order, of those after them that may be left out, and
-- of its flags
pub record Layout : Type 0 where
  pub name : Text
  pub words : List Text
  pub optional : List Text
  pub flags : List Text

-- a command that has these words, each of them required
abbrev pub layout : Text → List Text → Layout
layout name words = record { name = name; words = words; optional = []; flags = [] }

-- those with flags, and with a word that may be left out
abbrev pub list_layout : Layout
list_layout = record {
  name = codes "list";
  words = codes "archive" ∷ [];
  optional = [];
  flags = codes "json" ∷ [];
}

abbrev pub replay_layout : Layout
replay_layout = record {
  name = codes "replay";
  words = codes "archive" ∷ codes "uri" ∷ codes "date" ∷ [];
  optional = [];
  flags = codes "uri-hex" ∷ codes "stored" ∷ [];
}

abbrev pub body_layout : Layout
body_layout = record {
  name = codes "body";
  words = codes "archive" ∷ codes "position" ∷ [];
  optional = [];
  flags = codes "stored" ∷ [];
}

abbrev pub captures_layout : Layout
captures_layout = record {
  name = codes "captures";
  words = codes "archive" ∷ [];
  optional = codes "uri" ∷ [];
  flags = codes "uri-hex" ∷ [];
}

abbrev pub select_layout : Layout
select_layout = record {
  name = codes "select";
  words = codes "archive" ∷ codes "positions" ∷ [];
  optional = [];
  flags = codes "except" ∷ codes "closed" ∷ [];
}

abbrev pub fixity_layout : Layout
fixity_layout = record {
  name = codes "fixity";
  words = codes "archive" ∷ [];
  optional = [];
  flags = codes "payload" ∷ [];
}

abbrev pub salvage_layout : Layout
salvage_layout = record {
  name = codes "salvage";
  words = codes "archive" ∷ [];
  optional = [];
  flags = codes "all" ∷ [];
}

abbrev pub summary_layout : Layout
summary_layout = record {
  name = codes "summary";
  words = codes "archive" ∷ [];
  optional = [];
  flags = codes "json" ∷ [];
}

-- the words of `write` before the path of its file
abbrev pub draft_words : List Text
draft_words = codes "kind" ∷ codes "uri" ∷ codes "date" ∷ codes "uuid" ∷ codes "type" ∷ []

-- the commands, in the order in which help lists them: the first ones, and the others
abbrev pub first_layouts : List Layout
first_layouts =
    list_layout
    ∷ layout (codes "check") (codes "archive" ∷ [])
    ∷ layout (codes "extract") (codes "archive" ∷ codes "id" ∷ [])
    ∷ replay_layout
    ∷ body_layout
    ∷ captures_layout
    ∷ []

abbrev pub other_layouts : List Layout
other_layouts =
    layout (codes "rewrite") (codes "archive" ∷ [])
    ∷ layout (codes "convert") (codes "archive" ∷ [])
    ∷ layout (codes "split") (codes "archive" ∷ codes "size" ∷ [])
    ∷ select_layout
    ∷ layout (codes "write") (draft_words ++ codes "file" ∷ [])
    ∷ layout (codes "head") (codes "archive" ∷ codes "position" ∷ [])
    ∷ layout (codes "block") (codes "archive" ∷ codes "position" ∷ [])
    ∷ fixity_layout
    ∷ layout (codes "pieces") (codes "archive" ∷ [])
    ∷ salvage_layout
    ∷ summary_layout
    ∷ layout (codes "survey") (codes "archive" ∷ [])
    ∷ layout (codes "explain") (codes "number" ∷ [])
    ∷ layout (codes "instant") (codes "date" ∷ [])
    ∷ []

abbrev pub layouts : List Layout
layouts = first_layouts ++ other_layouts

-- what the program's table says of a command
abbrev pub layout_seen : CommandEntry → Layout
layout_seen e = record {
  name = e.name.now;
  words = map (λ w. w.name.now) e.words.now;
  optional = map (λ w. w.name.now) e.optional.now;
  flags = map (λ w. w.name.now) e.flags.now;
}

-- what clap knows of a word: that it is required, that it may be left out, or that it is a flag `--NAME`
abbrev pub rule_as : WordForm → Text → Rule
rule_as Required name = record (new_rule name) { required = true }
rule_as Optional name = new_rule name
rule_as Flag name = record (new_rule name) { long = Some name; action = Some SetTrue }

-- a command with more words of a form
abbrev pub with_rules : WordForm → App → List Text → App
with_rules form app words = fold (λ a word. with_rule a (rule_as form word)) app words

-- a command by itself; the last flags of each are `--quiet` and `--hints`
abbrev pub layout_app : Layout → App
layout_app l = with_rule
    (with_rule
    (with_rules Flag (with_rules Optional (with_rules Required (new_app l.name) l.words) l.optional) l.flags)
    (rule_as Flag (codes "quiet")))
    (rule_as Flag (codes "hints"))

-- the program with one more command
abbrev pub with_layout : App → Layout → App
with_layout app l = with_subcommand app (layout_app l).top

-- the program without its commands: it has a version, and a command is required
abbrev pub bare_app : App
bare_app = on_top (λ s. record s { has_version = true; subcommand_required = true }) (new_app (codes "warc"))

-- the program, and that with its first commands alone
abbrev pub warc_app : App
warc_app = fold with_layout bare_app layouts

abbrev pub first_app : App
first_app = fold with_layout bare_app first_layouts

-- the command of a name; clap gives no other name than theirs, so one of them needs no test
abbrev pub layout_of : Text → Layout
layout_of name = unwrap_or (find (λ l. bytes_eq name l.name) layouts) list_layout

-- the text of a word, which is there where clap takes the words
abbrev pub text_of : List Row → Text → Text
text_of rows word = unwrap_or (first_of word rows) []

-- a flag is given: clap reads it as a word of its own, `true` or `false`
abbrev pub is_flagged : List Row → Text → Bool
is_flagged rows flag = bytes_eq (text_of rows flag) (codes "true")

-- the name of a command, and in order the texts of the words that it requires and of the others that are given, from
-- what clap read
abbrev pub named : Text → List Row → Text × List Text
named name rows =
    let l = layout_of name in
    (l.name, map (text_of rows) l.words ++ filter_map (λ word. first_of word rows) l.optional)

-- the path of the file that the command of a name reads, if it reads one
abbrev pub path_in : Text → List Row → Option Text
path_in name rows = if bytes_eq name (codes "explain") || bytes_eq name (codes "instant") then None
    else Some (text_of rows (if bytes_eq name (codes "write") then codes "file" else codes "archive"))

-- whether each of its flags is given
abbrev pub flags_in : Text → List Row → List Bool
flags_in name rows = map (is_flagged rows) (layout_of name).flags

-- what is asked for, from what clap read
abbrev pub asked_in : Text → List Row → Asked
asked_in name rows = record {
  command = named name rows;
  flags = flags_in name rows;
  quiet = is_flagged rows (codes "quiet");
  hints = is_flagged rows (codes "hints");
}

-- what the words ask for, the program's name being the first word
abbrev pub asked_of : List Text → Option Asked
asked_of words = option_map (λ p. asked_in p.0 p.1) (subcommand_of warc_app words)

-- a kind that answers a request
abbrev pub is_request : ErrorKind → Bool
is_request DisplayHelp = true
is_request DisplayVersion = true
is_request _ = false

-- a refusal because an allocation failed, or for one of these kinds, that says whether it was a request
abbrev pub IsReportedBy : Kinds → CommandFault → Type 0
IsReportedBy kinds (Usage text asked) = (kind : ErrorKind) × IsAmong kind kinds × (asked ≡ is_request kind)
IsReportedBy kinds Memory = Unit {0}

-- what such a refusal says: clap's text as it is
abbrev pub command_fault_text : CommandFault → List ℕ
command_fault_text (Usage text asked) = string_bytes text
command_fault_text Memory = codes "out of memory"

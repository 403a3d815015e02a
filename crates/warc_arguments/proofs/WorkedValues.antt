-- What words name, computed.
use Rattle.std.proofs.Common.{◌≡◌, ℕ, true, false, List, [], ◌∷◌, Option, Some, codes, refl}
use Rattle.clap.specs.Faults.{fault_of}
use Rattle.clap.specs.Takes.{takes}
use Rattle.clap.specs.declared.error.kind.ErrorKind.TheVariants.{ArgumentConflict, DisplayHelp, DisplayVersion, MissingRequiredArgument, MissingSubcommand, UnknownArgument}
use Rattle.clap.proofs.OnLiterals.{clap_on_literals}
use Rattle.warc_arguments.specs.Command.{Asked}
use Rattle.warc_arguments.specs.CommandLine.{asked_of, warc_app}

-- a command with these texts, and without a flag
abbrev plainly : List ℕ → List (List ℕ) → Option Asked
plainly name texts = Some (record { command = (name, texts); flags = []; quiet = false; hints = false })

-- warc check a.warc
path_names : asked_of (codes "warc" ∷ codes "check" ∷ codes "a.warc" ∷ []) ≡ plainly (codes "check") (codes "a.warc" ∷ [])
unfolding clap_on_literals
path_names = refl

check_takes : takes warc_app (codes "warc" ∷ codes "check" ∷ codes "a.warc" ∷ []) ≡ true
unfolding clap_on_literals
check_takes = refl

-- an empty word is a word, and a word with a minus comes after `--`
empty_names : asked_of (codes "warc" ∷ codes "check" ∷ [] ∷ []) ≡ plainly (codes "check") ([] ∷ [])
unfolding clap_on_literals
empty_names = refl

minus_names : asked_of (codes "warc" ∷ codes "check" ∷ codes "--" ∷ codes "-a" ∷ []) ≡ plainly (codes "check") (codes "-a" ∷ [])
unfolding clap_on_literals
minus_names = refl

minus_faults : fault_of warc_app (codes "warc" ∷ codes "check" ∷ codes "-a" ∷ []) ≡ UnknownArgument ∷ []
unfolding clap_on_literals
minus_faults = refl

-- the flags of every command, before or after its words
quiet_asked : asked_of (codes "warc" ∷ codes "check" ∷ codes "a.warc" ∷ codes "--quiet" ∷ []) ≡ Some (record { command = (codes "check", codes "a.warc" ∷ []); flags = []; quiet = true; hints = false })
unfolding clap_on_literals
quiet_asked = refl

quiet_first : asked_of (codes "warc" ∷ codes "split" ∷ codes "--quiet" ∷ codes "a.warc" ∷ codes "2" ∷ []) ≡ Some (record { command = (codes "split", codes "a.warc" ∷ codes "2" ∷ []); flags = []; quiet = true; hints = false })
unfolding clap_on_literals
quiet_first = refl

hints_asked : asked_of (codes "warc" ∷ codes "check" ∷ codes "--hints" ∷ codes "a.warc" ∷ []) ≡ Some (record { command = (codes "check", codes "a.warc" ∷ []); flags = []; quiet = false; hints = true })
unfolding clap_on_literals
hints_asked = refl

both_asked : asked_of (codes "warc" ∷ codes "check" ∷ codes "--hints" ∷ codes "a.warc" ∷ codes "--quiet" ∷ []) ≡ Some (record { command = (codes "check", codes "a.warc" ∷ []); flags = []; quiet = true; hints = true })
unfolding clap_on_literals
both_asked = refl

-- requests
help_faults : fault_of warc_app (codes "warc" ∷ codes "--help" ∷ []) ≡ DisplayHelp ∷ []
unfolding clap_on_literals
help_faults = refl

version_faults : fault_of warc_app (codes "warc" ∷ codes "--version" ∷ []) ≡ DisplayVersion ∷ []
unfolding clap_on_literals
version_faults = refl

-- mistakes
bare_faults : fault_of warc_app (codes "warc" ∷ []) ≡ MissingSubcommand ∷ []
unfolding clap_on_literals
bare_faults = refl

list_faults : fault_of warc_app (codes "warc" ∷ codes "check" ∷ []) ≡ MissingRequiredArgument ∷ []
unfolding clap_on_literals
list_faults = refl

-- warc check a.warc
check_names : asked_of (codes "warc" ∷ codes "check" ∷ codes "a.warc" ∷ []) ≡ plainly (codes "check") (codes "a.warc" ∷ [])
unfolding clap_on_literals
check_names = refl

check_faults : fault_of warc_app (codes "warc" ∷ codes "check" ∷ []) ≡ MissingRequiredArgument ∷ []
unfolding clap_on_literals
check_faults = refl

-- warc split a.warc 2
split_names : asked_of (codes "warc" ∷ codes "split" ∷ codes "a.warc" ∷ codes "2" ∷ []) ≡ plainly (codes "split") (codes "a.warc" ∷ codes "2" ∷ [])
unfolding clap_on_literals
split_names = refl

-- warc fixity --payload a.warc, and the flag after the path; twice is refused
payload_names : asked_of (codes "warc" ∷ codes "fixity" ∷ codes "--payload" ∷ codes "a.warc" ∷ []) ≡ Some (record { command = (codes "fixity", codes "a.warc" ∷ []); flags = true ∷ []; quiet = false; hints = false })
unfolding clap_on_literals
payload_names = refl

payload_last : asked_of (codes "warc" ∷ codes "fixity" ∷ codes "a.warc" ∷ codes "--payload" ∷ []) ≡ Some (record { command = (codes "fixity", codes "a.warc" ∷ []); flags = true ∷ []; quiet = false; hints = false })
unfolding clap_on_literals
payload_last = refl

blocks_named : asked_of (codes "warc" ∷ codes "fixity" ∷ codes "a.warc" ∷ []) ≡ Some (record { command = (codes "fixity", codes "a.warc" ∷ []); flags = false ∷ []; quiet = false; hints = false })
unfolding clap_on_literals
blocks_named = refl

payload_twice : fault_of warc_app (codes "warc" ∷ codes "fixity" ∷ codes "--payload" ∷ codes "a.warc" ∷ codes "--payload" ∷ []) ≡ ArgumentConflict ∷ []
unfolding clap_on_literals
payload_twice = refl

payload_elsewhere : fault_of warc_app (codes "warc" ∷ codes "check" ∷ codes "--payload" ∷ codes "a.warc" ∷ []) ≡ UnknownArgument ∷ []
unfolding clap_on_literals
payload_elsewhere = refl

-- warc list --json a.warc
json_names : asked_of (codes "warc" ∷ codes "list" ∷ codes "--json" ∷ codes "a.warc" ∷ []) ≡ Some (record { command = (codes "list", codes "a.warc" ∷ []); flags = true ∷ []; quiet = false; hints = false })
unfolding clap_on_literals
json_names = refl

list_names : asked_of (codes "warc" ∷ codes "list" ∷ codes "a.warc" ∷ []) ≡ Some (record { command = (codes "list", codes "a.warc" ∷ []); flags = false ∷ []; quiet = false; hints = false })
unfolding clap_on_literals
list_names = refl

-- warc summary a.warc --json
summary_names : asked_of (codes "warc" ∷ codes "summary" ∷ codes "a.warc" ∷ codes "--json" ∷ []) ≡ Some (record { command = (codes "summary", codes "a.warc" ∷ []); flags = true ∷ []; quiet = false; hints = false })
unfolding clap_on_literals
summary_names = refl

-- warc instant 2021
instant_names : asked_of (codes "warc" ∷ codes "instant" ∷ codes "2021" ∷ []) ≡ plainly (codes "instant") (codes "2021" ∷ [])
unfolding clap_on_literals
instant_names = refl

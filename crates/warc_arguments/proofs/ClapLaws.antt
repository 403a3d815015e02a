use Rattle.std.proofs.Common.{◌≡◌, ◌∷◌, ◌⊎◌, inl, inr, Bool, true, false, true≢false, List, [], Result, Ok, Option, Some, None, option_map, unwrap_or, is_some, codes, refl, sym, ap, subst, ◌∙◌}
use Rattle.clap.specs.Faults.{fault_of, is_simple_and_free}
use Rattle.clap.specs.Kinds.{FailsBy, IsAmong, Kinds}
use Rattle.clap.specs.Matches.{first_value, has_subcommand, subcommand_name_of}
use Rattle.clap.specs.Simple.{App, HasMatchesOf, app_of, subcommand_rows_of}
use Rattle.clap.specs.Takes.{takes}
use Rattle.clap.specs.Walk.{Row, Text, rows_of}
use Rattle.clap.specs.declared.builder.command.Command.{Command}
use Rattle.clap.specs.declared.builder.command.Command.TheViews.{out-Command}
use Rattle.clap.specs.declared.error.Error.{Error}
use Rattle.clap.specs.declared.error.kind.ErrorKind.{ErrorKind}
use Rattle.clap.specs.declared.error.kind.ErrorKind.TheVariants.{OutOfMemory}
use Rattle.clap.specs.declared.parser.matches.ArgMatches.{ArgMatches}
use Rattle.clap.specs.declared.parser.matches.ArgMatches.TheViews.{out-ArgMatches}
use Rattle.clap.specs.declared.parser.matches.Found.{Found}
use Rattle.clap.proofs.SimpleLemmas.{plain_fields}
use Rattle.clap.proofs.WalkLemmas.{first_value-rows}
use Rattle.warc_arguments.specs.declared.parser.CommandFault.{CommandFault}
use Rattle.warc_arguments.specs.declared.parser.CommandFault.TheVariants.{Usage, Memory}
use Rattle.warc_arguments.specs.Command.{Asked}
use Rattle.warc_arguments.specs.CommandLine.{IsReportedBy, asked_in, asked_of, flags_in, is_flagged, is_request, named, text_of, warc_app}

-- what a reading of the matches names, the words name
pub words_name : (a : App) (words : List Text) (m : ArgMatches) (asked : Option Asked) → a ≡ warc_app → HasMatchesOf a words m
    → asked ≡ option_map (λ p. asked_in p.0 p.1) (subcommand_rows_of m) → asked ≡ asked_of words
words_name a words m asked same has read =
    let rows = (let P : App → Type 0 = λ x. HasMatchesOf x words m in subst P same has refl).1 in
    read ∙ ap (option_map (λ p. asked_in p.0 p.1)) rows

-- a parse that met a subcommand names a command
through : {X Y Z : Type 0} (f : Y → Z) (g : X → Y) (o : Option X) → is_some o ≡ true → None ≡ option_map f (option_map g o) → ⊥
through f g None has none = true≢false (sym has)
through f g (Some x) has none = cc none

pub names_some : (m : ArgMatches) → has_subcommand m ≡ true → None ≡ option_map (λ p. asked_in p.0 p.1) (subcommand_rows_of m) → ⊥
names_some m has none = through _ _ (out-ArgMatches m).subcommand has none

-- words that the program's parser takes
pub taken_by : (a : App) (words : List Text) → a ≡ warc_app → takes warc_app words ≡ true → takes a words ≡ true
taken_by a words same taken = ap (λ x. takes x words) same ∙ taken

-- words that a parse accepted have no fault
pub no_fault : (a : App) (words : List Text) (m : ArgMatches) → a ≡ warc_app
    → (is_simple_and_free a ≡ true → (let r : Result ArgMatches Error = Ok m in FailsBy (fault_of a words) r))
    → fault_of warc_app words ≡ []
no_fault a words m same fails =
    let P : App → Type 0 = λ x. is_simple_and_free x ≡ true → fault_of x words ≡ [] in
    subst P same fails refl

-- what a parse answers, by the program's parser
pub fails_by : (a : App) (words : List Text) (r : Result ArgMatches Error) → a ≡ warc_app
    → (is_simple_and_free a ≡ true → FailsBy (fault_of a words) r) → FailsBy (fault_of warc_app words) r
fails_by a words r same fails =
    let P : App → Type 0 = λ x. is_simple_and_free x ≡ true → FailsBy (fault_of x words) r in
    subst P same fails refl

-- the text that `get_str` gives, or the empty text
pub text_is : (f : Found) (name : Text) (o : Option Text) → o ≡ first_value f name → unwrap_or o [] ≡ text_of (rows_of f) name
text_is f name o got = ap (λ x. unwrap_or x []) (got ∙ first_value-rows f name)

-- a command with a plain shape has no global argument
pub no_globals : (c : Command) (b : App) → app_of c ≡ b → b.top.is_plain ≡ true → (out-Command c).has_globals ≡ false
no_globals c b same plain = (plain_fields c (ap (λ (x : App). x.top.is_plain) same ∙ plain)).globals

-- a refusal of one kind is one of the kinds that the words have
pub reported_by : (kinds : Kinds) (k : ErrorKind) (f : CommandFault) → IsReportedBy (k ∷ []) f → (k ≡ OutOfMemory → f ≡ Memory)
    → (k ≡ OutOfMemory) ⊎ IsAmong k kinds → IsReportedBy kinds f
reported_by kinds k Memory said memory has = tt
reported_by kinds k (Usage text asked) said memory (inl full) = cc (memory full)
reported_by kinds k (Usage text asked) said memory (inr among) =
    (k, among, elim said.1 [ inl same ↦ said.2 ∙ ap is_request same | inr none ↦ absurd none ])

-- what a command and its flags say is what clap read
pub asked_is : (name : Text) (rows : List Row) {command : Text × List Text} {flags : List Bool} {quiet hints : Bool} → command ≡ named name rows → flags ≡ flags_in name rows
    → quiet ≡ is_flagged rows (codes "quiet") → hints ≡ is_flagged rows (codes "hints") → ◌≡◌ {A = Asked} (record { command = command; flags = flags; quiet = quiet; hints = hints }) (asked_in name rows)
asked_is name rows {command} {flags} {quiet} {hints} one two three four =
    ap (λ (x : Text × List Text). let a : Asked = record { command = x; flags = flags; quiet = quiet; hints = hints } in a) one
    ∙ ap (λ (x : List Bool). let a : Asked = record { command = named name rows; flags = x; quiet = quiet; hints = hints } in a) two
    ∙ ap (λ (x : Bool). let a : Asked = record { command = named name rows; flags = flags_in name rows; quiet = x; hints = hints } in a) three
    ∙ ap (λ (x : Bool). let a : Asked = record { command = named name rows; flags = flags_in name rows; quiet = is_flagged rows (codes "quiet"); hints = x } in a) four

-- a subcommand that was met, by its name and its rows
by_parts : (o : Option (Text × List Row)) (name : Text) (rows : List Row) (asked : Asked) → Some name ≡ option_map (λ (p : Text × List Row). p.0) o → Some rows ≡ option_map (λ (p : Text × List Row). p.1) o
    → asked ≡ asked_in name rows → Some asked ≡ option_map (λ (p : Text × List Row). asked_in p.0 p.1) o
by_parts None name rows asked n r is = absurd (cc n)
by_parts (Some p) name rows asked n r is =
    let one : name ≡ p.0 = cc n in
    let two : rows ≡ p.1 = cc r in
    ap Some (is ∙ ap (λ x. asked_in x rows) one ∙ ap (asked_in p.0) two)

map_twice : {X Y Z : Type 0} (f : X → Z) (g : X → Y) (h : Y → Z) → ((x : X) → f x ≡ h (g x)) → (o : Option X) → option_map f o ≡ option_map h (option_map g o)
map_twice f g h same None = refl
map_twice f g h same (Some x) = ap Some (same x)

name_of : (m : ArgMatches) → subcommand_name_of m ≡ option_map (λ (p : Text × List Row). p.0) (subcommand_rows_of m)
name_of m = map_twice _ _ (λ (p : Text × List Row). p.0) (λ x. refl) (out-ArgMatches m).subcommand

pub read_as : (m : ArgMatches) (name : Text) (rows : List Row) (asked : Asked) → Some name ≡ subcommand_name_of m → Some rows ≡ option_map (λ p. p.1) (subcommand_rows_of m)
    → asked ≡ asked_in name rows → Some asked ≡ option_map (λ p. asked_in p.0 p.1) (subcommand_rows_of m)
read_as m name rows asked n r is = by_parts (subcommand_rows_of m) name rows asked (n ∙ name_of m) r is

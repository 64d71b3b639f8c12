-- The command line, as clap's definitions see it.
use Rattle.std.specs.Prelude.{◌≡◌, ◌⊎◌, ℕ, List, [], ◌∷◌, Option, Some, None, true, codes, if◌then◌else◌}
use Rattle.std.specs.Prelude.{option_and_then}
use Rattle.std.specs.Option.{option_map_or}
use Rattle.std.specs.Str.{bytes_eq}
use Rattle.std.specs.Str.Parse.{digits_value, without_leading_plus}
use Rattle.clap.specs.Words.{App, IsAmong, Row, Rule, Text, fault_of, new_app, new_rule, one_of, subcommand_of}
use Rattle.clap.specs.Words.{with_rule, with_subcommand}
use Rattle.clap.specs.Simple.{on_top}
use Rattle.clap.specs.declared.builder.value_parser.ValueParser.TheVariants as vp
use Rattle.clap.specs.declared.error.kind.ErrorKind.{ErrorKind}
use Rattle.clap.specs.declared.error.kind.ErrorKind.TheVariants as kind
use Rattle.command_line.specs.declared.Request.{Request}
use Rattle.command_line.specs.declared.Request.TheVariants.{Check, Run, Value, Modules, Migrate}

-- `--workers N`, a whole number of 1 to 64, and 1 if it is left out
abbrev pub workers_rule : Rule
workers_rule = record (new_rule (codes "workers")) {
  long = Some (codes "workers");
  value_names = 1;
  parser = Some (vp.Unsigned 1 64);
  defaults = codes "1" ∷ [];
}

-- the command `check`, with the rule on `--workers`
abbrev pub check_app : App
check_app = with_rule (new_app (codes "check")) workers_rule

-- it has `--version`; the commands have no such flag
abbrev pub top_app : App
top_app = on_top (λ s. record s { no_binary_name = true; subcommand_required = true; has_version = true })
    (new_app (codes "bbmcheck"))

-- the commands, of which `check` has an option
abbrev pub bbmcheck_app : App
bbmcheck_app =
    with_subcommand (with_subcommand (with_subcommand (with_subcommand (with_subcommand top_app
    check_app.top) (new_app (codes "run")).top) (new_app (codes "value")).top) (new_app (codes "modules")).top)
    (new_app (codes "migrate")).top

-- the command of a name, and every other name is `run`
abbrev pub request_named : Text → Request
request_named name =
    if bytes_eq name (codes "check") then Check else if bytes_eq name (codes "value") then Value else if bytes_eq name
    (codes "modules") then Modules
    else if bytes_eq name (codes "migrate") then Migrate else Run

-- the command that the words name
abbrev pub asked_by : List Text → Request
asked_by words = option_map_or (λ p. request_named p.0) (subcommand_of bbmcheck_app words) Run

-- the text that a command reads for `--workers`, which `check` alone has: the one that the words give it, or else the
-- default
abbrev pub workers_of : Text × List Row → Option Text
workers_of command = if bytes_eq command.0 (codes "check") then one_of (codes "workers") command.1 else None

-- the text for `--workers` of the command that the words name
abbrev pub workers_text : List Text → Option Text
workers_text words = option_and_then workers_of (subcommand_of bbmcheck_app words)

-- the number that decimal digits write, which a plus may lead
abbrev pub number_in : Text → ℕ
number_in text = digits_value 10 (without_leading_plus text)

-- the number of workers that the words ask for: the one in that text, and 1 of a command that has none
abbrev pub workers_asked : List Text → ℕ
workers_asked words = option_map_or number_in (workers_text words) 1

-- nothing is wrong with the words, and they ask for no help
abbrev pub IsAccepted : List Text → Type 0
IsAccepted words = fault_of bbmcheck_app words ≡ []

-- what they may ask for is help, or the version
abbrev pub AsksForHelp : List Text → Type 0
AsksForHelp words = IsAmong kind.DisplayHelp (fault_of bbmcheck_app words)
    ⊎ IsAmong kind.DisplayVersion (fault_of bbmcheck_app words)

-- and nothing else
abbrev pub AsksOnlyForHelp : List Text → Type 0
AsksOnlyForHelp words = (k : ErrorKind) → IsAmong k (fault_of bbmcheck_app words) →
    (k ≡ kind.DisplayHelp) ⊎ (k ≡ kind.DisplayVersion)

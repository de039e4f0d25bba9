-- The command line, as far as `clap` reads words by it.
use Rattle.std.specs.Prelude.{◌≡◌, ℕ, true, false, [], ◌∷◌, codes, decimal, Some, pos}
use Rattle.clap.specs.Lexer.{usize_max}
use Rattle.clap.specs.Words.{App, Rule, Text, app_of, new_app, new_rule, rule_of, with_rule, with_subcommand}
use Rattle.clap.specs.declared.builder.action.ArgAction.TheVariants.{Append, SetTrue}
use Rattle.clap.specs.declared.builder.arg.Arg.{Arg}
use Rattle.clap.specs.declared.builder.command.Command.{Command}
use Rattle.clap.specs.declared.builder.command.Command.TheViews.{out-Command}
use Rattle.clap.specs.declared.builder.value_parser.ValueParser.TheVariants.{Signed}
use Rattle.herd_frozen.specs.declared.TheConstants.{MOST_ANIMALS}
use Rattle.herd_pool.specs.declared.limits.TheConstants.{DEFAULT_BLOCK, MOST_WORKERS}
use Rattle.herd_office.specs.declared.limits.TheConstants.{MOST_DESKS, MOST_INSPECTORS}
use Rattle.herd_register.specs.declared.limits.TheConstants.{MOST_STEPS}
use Rattle.herd_command_line.specs.declared.limits.TheConstants.{DEFAULT_ANIMALS, DEFAULT_STEPS}

-- a command that reads words by this line, and has no global argument
pub record IsCommandOf (app : App) (command : Command) : Type 0 where
  pub line : app_of command ≡ app
  pub globals : (out-Command command).has_globals ≡ false

-- an argument that is read by this rule, and isn't global
pub record IsArgumentOf (rule : Rule) (argument : Arg) : Type 0 where
  pub rule_is : rule_of argument ≡ rule
  pub local : argument.global ≡ false

-- an option of a number from `least` to `most`
abbrev pub given_option : Text → ℕ → ℕ → Rule
given_option name least most = record (new_rule name) {
  long = Some name;
  value_names = 1;
  parser = Some (Signed (pos least) (pos most));
}

-- the same, which is `default` where it isn't given
abbrev pub number_option : Text → ℕ → ℕ → ℕ → Rule
number_option name least most default = record (given_option name least most) { defaults = decimal default ∷ [] }

abbrev pub animals_rule : Rule
animals_rule = number_option (codes "limit-animals") 1 MOST_ANIMALS DEFAULT_ANIMALS

abbrev pub steps_rule : Rule
steps_rule = number_option (codes "limit-steps") 1 MOST_STEPS DEFAULT_STEPS

-- a line with the options that limit the book and its journal
abbrev pub limited : App → App
limited line = with_rule (with_rule line animals_rule) steps_rule

abbrev pub workers_rule : Rule
workers_rule = number_option (codes "workers") 1 MOST_WORKERS 1

abbrev pub block_rule : Rule
block_rule = number_option (codes "block") 1 MOST_ANIMALS DEFAULT_BLOCK

unfoldable pub inbreeding_line : App
inbreeding_line = limited (with_rule (with_rule (new_app (codes "inbreeding")) workers_rule) block_rule)

abbrev pub dam_rule : Rule
dam_rule = record (new_rule (codes "dam")) {
  long = Some (codes "dam");
  value_names = 1;
  required = true;
}

-- an argument of some numbers or none
abbrev pub any_rule : Text → Rule
any_rule name = record (new_rule name) {
  action = Some Append;
  range = Some (record { start_inclusive = 1; end_inclusive = usize_max });
}

-- an argument of at least one number
abbrev pub several_rule : Text → Rule
several_rule name = record (any_rule name) { required = true }

abbrev pub sires_rule : Rule
sires_rule = several_rule (codes "SIRE")

unfoldable pub mating_line : App
mating_line = limited (with_rule (with_rule (new_app (codes "mating")) dam_rule) sires_rule)

abbrev pub numbers_rule : Rule
numbers_rule = several_rule (codes "NUMBER")

unfoldable pub certificate_line : App
certificate_line = limited (with_rule (new_app (codes "certificate")) numbers_rule)

abbrev pub partners_rule : Rule
partners_rule = record (new_rule (codes "with")) {
  long = Some (codes "with");
  value_names = 1;
  action = Some Append;
  range = Some (record { start_inclusive = 1; end_inclusive = usize_max });
}

unfoldable pub relationships_line : App
relationships_line = limited (with_rule (with_rule (new_app (codes "relationships")) numbers_rule) partners_rule)

unfoldable pub records_line : App
records_line = limited (with_rule (new_app (codes "records")) (any_rule (codes "NUMBER")))

unfoldable pub seal_line : App
seal_line = limited (new_app (codes "seal"))

-- an argument of one number
abbrev pub number_rule : Rule
number_rule = record (new_rule (codes "NUMBER")) { required = true }

unfoldable pub sealed_line : App
sealed_line = limited (with_rule (new_app (codes "sealed")) number_rule)

-- the seal under which a certificate is checked
abbrev pub seal_rule : Rule
seal_rule = record (new_rule (codes "SEAL")) { required = true }

unfoldable pub check_line : App
check_line = with_rule (new_app (codes "check")) seal_rule

-- which report of a pedigree is asked for
abbrev pub report_rule : Rule
report_rule = record (new_rule (codes "REPORT")) { required = true }

abbrev pub units_rule : Rule
units_rule = record (new_rule (codes "units")) { long = Some (codes "units"); action = Some SetTrue }

unfoldable pub pedigree_line : App
pedigree_line =
    with_rule
    (with_rule
    (with_rule
    (with_rule
    (with_rule
    (with_rule (with_rule (new_app (codes "pedigree")) report_rule) (any_rule (codes "ANIMAL")))
    partners_rule)
    (given_option (codes "workers") 1 MOST_WORKERS))
    (given_option (codes "block") 1 MOST_ANIMALS))
    units_rule)
    animals_rule

abbrev pub desks_rule : Rule
desks_rule = number_option (codes "desks") 1 MOST_DESKS 2

abbrev pub base_rule : Rule
base_rule = number_option (codes "base") 0 MOST_STEPS 0

unfoldable pub file_line : App
file_line = limited (new_app (codes "file"))

unfoldable pub inverse_line : App
inverse_line = limited (new_app (codes "inverse"))

unfoldable pub clerks_line : App
clerks_line = limited (with_rule (with_rule (new_app (codes "clerks")) desks_rule) base_rule)

-- the program, which has a version, and of whose subcommands one must be named
abbrev pub program : App
program = record (new_app (codes "herdbook")) {
  top = record (new_app (codes "herdbook")).top {
    has_version = true;
    subcommand_required = true;
  };
}

-- a line with a subcommand more
abbrev pub line_with : App → App → App
line_with line part = with_subcommand line part.top

unfoldable pub runs_line : App
runs_line =
    line_with
    (line_with
    (line_with
    (line_with
    (line_with
    (line_with (line_with (line_with (line_with program file_line) inbreeding_line) certificate_line) mating_line)
    inverse_line)
    relationships_line)
    records_line)
    seal_line)
    sealed_line

abbrev pub session_desks_rule : Rule
session_desks_rule = number_option (codes "desks") 1 MOST_DESKS 4

abbrev pub inspectors_rule : Rule
inspectors_rule = number_option (codes "inspectors") 1 MOST_INSPECTORS 4

unfoldable pub session_line : App
session_line = limited (with_rule (with_rule (new_app (codes "session")) session_desks_rule) inspectors_rule)

unfoldable pub command_line : App
command_line = line_with (line_with (line_with (line_with runs_line check_line) pedigree_line) clerks_line) session_line

-- What a command's parts add to its line.
use Rattle.std.proofs.Common.{◌≡◌, ◌∙◌, ℕ, Bor, Option, ◌<◌, ◌^◌, pos, Some, arith, ap, ap₂, ◌||◌, false, refl, int_lt}
use Rattle.std.specs.Int.{int_max, int_min}
use Rattle.std.proofs.lemmas.Int.{clamps, ints}
use Rattle.clap.specs.Words.{AddsArg, AddsSubcommand, App, NarrowsTo, Rule, Text, rule_of, with_rule, with_subcommand}
use Rattle.clap.specs.declared.builder.arg.Arg.{Arg}
use Rattle.clap.specs.declared.builder.command.Command.{Command}
use Rattle.clap.specs.declared.builder.value_parser.ValueParser.{ValueParser}
use Rattle.clap.specs.declared.builder.value_parser.ValueParser.TheVariants.{Signed}
use Rattle.herd_command_line.specs.CommandLine.{IsArgumentOf, IsCommandOf, line_with}

-- an argument that isn't global adds its rule
pub with_arg : (old : Command) (arg : Arg) (new : Command) (app : App) (rule : Rule) → IsCommandOf app old → IsArgumentOf rule arg → AddsArg old arg new → IsCommandOf (with_rule app rule) new
with_arg old arg new app rule is is_arg added = record {
  line = added.shape is_arg.local ∙ ap₂ with_rule is.line is_arg.rule_is;
  globals = added.globals ∙ ap₂ (λ a b. a || b) is.globals is_arg.local;
}

-- a subcommand that has no global argument adds its line
pub with_part : (old sub new : Command) (line part : App) → IsCommandOf line old → IsCommandOf part sub → AddsSubcommand old sub new → IsCommandOf (line_with line part) new
with_part old sub new line part is is_part added = record {
  line = added.shape is_part.globals ∙ ap₂ with_subcommand is.line (ap (λ (a : App). a.top) is_part.line);
  globals = added.globals ∙ ap₂ (λ a b. a || b) is.globals is_part.globals;
}

-- help changes nothing that is read
pub helped : (arg told : Arg) (rule : Rule) (help : Option (Bor Text)) → IsArgumentOf rule arg → told ≡ record arg { help = help } → IsArgumentOf rule told
helped arg told rule help is same = record { rule_is = ap rule_of same ∙ is.rule_is; local = ap (λ (a : Arg). a.global) same ∙ is.local }

-- the parser of `u32`, narrowed to a range of its numbers, has just that range
pub narrowed : (least most : ℕ) (made : ValueParser) → least < 2 ^ 32 → most < 2 ^ 32 → NarrowsTo (Signed (pos 0) (pos 4294967295)) (Some (pos least)) (Some (pos most)) made → made ≡ Signed (pos least) (pos most)
narrowed least most made low high is =
    let from : int_max (pos 0) (pos least) ≡ pos least = omega (arith, ints, clamps) in
    let to : int_min (pos 4294967295) (pos most) ≡ pos most = omega (arith, ints, clamps) in
    let within : int_lt (pos 9223372036854775807) (pos least) ≡ false = grind (arith, ints) in
    is ∙ rw (from, to, within) refl

-- The text of the number is a field of the rule.
use Rattle.std.proofs.Common.{ℕ, List, [], ◌∷◌, ap, ◌∙◌}
use Rattle.clap.specs.Words.{Rule, rule_of}
use Rattle.clap.specs.declared.builder.arg.Arg.{Arg}
use Rattle.herd_command_line.specs.CommandLine.{given_option}
use Rattle.herd_command_line.proofs.command_line.number_option.Goals as goal

pub returns : goal.returns
returns c = λ number is. record {
  rule_is =
      ap rule_of c.default_value.ensures ∙ ap (λ (r : Rule). record r { defaults = c.args.default.now ∷ [] }) c.given_option.ensures.rule_is
      ∙ ap (λ (text : List ℕ). record (given_option c.args.name.now c.args.least c.args.most) { defaults = text ∷ [] }) is;
  local = ap (λ (a : Arg). a.global) c.default_value.ensures ∙ c.given_option.ensures.local;
}

-- It must be there.
use Rattle.std.proofs.Common.{◌∙◌, ap, true}
use Rattle.clap.specs.Words.{Rule, rule_of}
use Rattle.clap.specs.declared.builder.arg.Arg.{Arg}
use Rattle.herd_command_line.proofs.command_line.several_argument.Goals as goal

pub returns : goal.returns
returns c = record {
  rule_is = ap rule_of c.required.ensures ∙ ap (λ (r : Rule). record r { required = true }) c.any_argument.ensures.rule_is;
  local = ap (λ (a : Arg). a.global) c.required.ensures ∙ c.any_argument.ensures.local;
}

-- It must be there.
use Rattle.std.proofs.Common.{◌∙◌, ap, true}
use Rattle.clap.specs.Words.{Rule, rule_of}
use Rattle.clap.specs.declared.builder.arg.Arg.{Arg}
use Rattle.herd_command_line.specs.CommandLine.{IsArgumentOf, report_rule}
use Rattle.herd_command_line.proofs.CommandFacts.{helped}
use Rattle.herd_command_line.proofs.command_line.report_argument.Goals as goal

pub returns : goal.returns
returns c =
    let required : IsArgumentOf report_rule c.required.result = record {
      rule_is = ap rule_of c.required.ensures ∙ ap (λ (r : Rule). record r { required = true }) c.new.ensures.rule;
      local = ap (λ (a : Arg). a.global) c.required.ensures ∙ c.new.ensures.optional.1;
    } in
    helped _ c.help.result report_rule _ required c.help.ensures

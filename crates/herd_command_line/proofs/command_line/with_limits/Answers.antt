-- Each argument is added with its rule.
use Rattle.std.proofs.Common.{refl}
use Rattle.std.specs.Fmt.{digits}
use Rattle.clap.specs.Words.{with_rule}
use Rattle.herd_command_line.specs.declared.limits.TheConstants.{DEFAULT_STEPS}
use Rattle.herd_command_line.specs.CommandLine.{animals_rule, steps_rule}
use Rattle.herd_command_line.proofs.CommandFacts.{helped}
use Rattle.herd_command_line.proofs.command_line.with_limits.Goals as goal

pub returns : goal.returns
unfolding digits
returns c = λ line is.
    let steps = helped _ c.help-steps.result steps_rule _ (c.number_option.ensures DEFAULT_STEPS refl) c.help-steps.ensures in
    c.with_argument-2.ensures (with_rule line animals_rule) steps_rule (c.with_argument.ensures line animals_rule is c.animals_option.ensures) steps

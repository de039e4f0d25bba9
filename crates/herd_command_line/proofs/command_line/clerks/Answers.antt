-- Each argument is added with its rule.
use Rattle.std.proofs.Common.{codes, refl}
use Rattle.std.specs.Fmt.{digits}
use Rattle.clap.specs.Words.{new_app, with_rule}
use Rattle.herd_command_line.specs.CommandLine.{base_rule, clerks_line, desks_rule}
use Rattle.herd_command_line.proofs.CommandFacts.{helped}
use Rattle.herd_command_line.proofs.command_line.clerks.Goals as goal

pub returns : goal.returns
unfolding digits clerks_line
returns c =
    let bare = new_app (codes "clerks") in
    let desks = helped _ c.help-desks.result desks_rule _ (c.number_option.ensures 2 refl) c.help-desks.ensures in
    let base = helped _ c.help-base.result base_rule _ (c.number_option-2.ensures 0 refl) c.help-base.ensures in
    c.with_limits.ensures (with_rule (with_rule bare desks_rule) base_rule)
    (c.with_argument-2.ensures (with_rule bare desks_rule) base_rule (c.with_argument.ensures bare desks_rule c.named-bare.ensures desks) base)

-- Each argument is added with its rule.
use Rattle.std.proofs.Common.{codes, refl}
use Rattle.std.specs.Fmt.{digits}
use Rattle.clap.specs.Words.{new_app, with_rule}
use Rattle.herd_command_line.specs.CommandLine.{inspectors_rule, session_desks_rule, session_line}
use Rattle.herd_command_line.proofs.CommandFacts.{helped}
use Rattle.herd_command_line.proofs.command_line.session.Goals as goal

pub returns : goal.returns
unfolding digits session_line
returns c =
    let bare = new_app (codes "session") in
    let desks = helped _ c.help-desks.result session_desks_rule _ (c.number_option.ensures 4 refl) c.help-desks.ensures in
    let inspectors = helped _ c.help-inspectors.result inspectors_rule _ (c.number_option-2.ensures 4 refl) c.help-inspectors.ensures in
    c.with_limits.ensures (with_rule (with_rule bare session_desks_rule) inspectors_rule)
    (c.with_argument-staff.ensures (with_rule bare session_desks_rule) inspectors_rule
    (c.with_argument.ensures bare session_desks_rule c.named-bare.ensures desks) inspectors)

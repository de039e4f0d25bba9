-- The argument is added with its rule.
use Rattle.std.proofs.Common.{codes}
use Rattle.clap.specs.Words.{new_app, with_rule}
use Rattle.herd_command_line.specs.CommandLine.{certificate_line, numbers_rule}
use Rattle.herd_command_line.proofs.command_line.certificate.Goals as goal

pub returns : goal.returns
unfolding certificate_line
returns c =
    let bare = new_app (codes "certificate") in
    c.with_limits.ensures (with_rule bare numbers_rule)
    (c.with_argument-given.ensures bare numbers_rule c.named-bare.ensures c.several_argument.ensures)

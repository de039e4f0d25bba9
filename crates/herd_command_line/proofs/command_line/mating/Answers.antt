-- Each argument is added with its rule.
use Rattle.std.proofs.Common.{codes}
use Rattle.clap.specs.Words.{new_app, with_rule}
use Rattle.herd_command_line.specs.CommandLine.{dam_rule, mating_line, sires_rule}
use Rattle.herd_command_line.proofs.command_line.mating.Goals as goal

pub returns : goal.returns
unfolding mating_line
returns c =
    let bare = new_app (codes "mating") in
    let first = c.with_argument.ensures bare dam_rule c.named-bare.ensures c.dam_option.ensures in
    c.with_limits.ensures (with_rule (with_rule bare dam_rule) sires_rule)
    (c.with_argument-given.ensures (with_rule bare dam_rule) sires_rule first c.several_argument.ensures)

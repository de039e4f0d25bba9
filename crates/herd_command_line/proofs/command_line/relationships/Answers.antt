-- Each argument is added with its rule.
use Rattle.std.proofs.Common.{codes}
use Rattle.clap.specs.Words.{new_app, with_rule}
use Rattle.herd_command_line.specs.CommandLine.{numbers_rule, partners_rule, relationships_line}
use Rattle.herd_command_line.proofs.command_line.relationships.Goals as goal

pub returns : goal.returns
unfolding relationships_line
returns c =
    let bare = new_app (codes "relationships") in
    let first = c.with_argument.ensures bare numbers_rule c.named-bare.ensures c.several_argument.ensures in
    c.with_limits.ensures (with_rule (with_rule bare numbers_rule) partners_rule)
    (c.with_argument-given.ensures (with_rule bare numbers_rule) partners_rule first c.with_option.ensures)

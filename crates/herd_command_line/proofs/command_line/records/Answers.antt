-- The argument is added with its rule.
use Rattle.std.proofs.Common.{codes}
use Rattle.clap.specs.Words.{Rule, new_app, with_rule}
use Rattle.herd_command_line.specs.CommandLine.{any_rule, records_line}
use Rattle.herd_command_line.proofs.command_line.records.Goals as goal

pub returns : goal.returns
unfolding records_line
returns c =
    let bare = new_app (codes "records") in
    let numbers : Rule = any_rule (codes "NUMBER") in
    c.with_limits.ensures (with_rule bare numbers)
    (c.with_argument-given.ensures bare numbers c.named-bare.ensures c.any_argument.ensures)

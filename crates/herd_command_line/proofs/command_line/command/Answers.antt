-- The lines of checks, of pedigrees, of the clerks and of sessions come last.
use Rattle.std.proofs.lemmas.Result.{IfOk-weaker}
use Rattle.herd_command_line.specs.CommandLine.{check_line, clerks_line, command_line, line_with, pedigree_line, runs_line, session_line}
use Rattle.herd_command_line.proofs.command_line.command.Goals as goal

pub returns : goal.returns
unfolding command_line
returns c =
    let checked = line_with runs_line check_line in
    let checks = c.with_subcommand-checks.ensures runs_line check_line c.runs.ensures c.check.ensures in
    let lines = c.with_subcommand-lines.ensures checked pedigree_line checks c.pedigree.ensures in
    let office = c.with_subcommand.ensures (line_with checked pedigree_line) clerks_line lines c.clerks.ensures in
    IfOk-weaker c.with_subcommand-2.result _ _ (λ command is. is.line)
    (c.with_subcommand-2.ensures (line_with (line_with checked pedigree_line) clerks_line) session_line office c.session.ensures)

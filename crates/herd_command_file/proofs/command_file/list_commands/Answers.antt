-- The reader's fault is that of the file.
use Rattle.std.proofs.lemmas.Option.{IfSome_then}
use Rattle.std.proofs.lemmas.Result.{err_from_is_err_and}
use Rattle.herd_command_file.specs.CommandFile.{commands}
use Rattle.herd_command_file.proofs.command_file.list_commands.Goals as goal

pub returns-in_err-command-clause-file : goal.returns-in_err-command-clause-file
returns-in_err-command-clause-file g c =
    let exit = err_from_is_err_and c.from_residual-in_err-command.result c.from_residual-in_err-command.ensures.1 in
    let list = c.loop-commands.list.items in
    rw (exit.1, exit.2)
    (IfSome_then (g.R.Read.remaining c.args.reader) c.loop-commands.invariant.gives
    (λ bytes given. rw c.loop-commands.invariant.ready.most_is at (c.in_err-command.ensures.gives (commands bytes c.args.most) list given)))

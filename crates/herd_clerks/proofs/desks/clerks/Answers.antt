-- What was read is what the file says, and the summary is that of the file's commands.
use Rattle.std.proofs.Common.{◌≡◌, ℕ, List, None, Option, IfSome, Some, refl, subst, sym}
use Rattle.std.proofs.lemmas.Option.{IfSome_then}
use Rattle.std.proofs.lemmas.Result.{err_from_is_err_and}
use Rattle.std.specs.Io.KnownBytes.{Appends}
use Rattle.herd_register.specs.declared.command.Command.{Command}
use Rattle.herd_register.specs.Limits.{Limits}
use Rattle.herd_command_file.specs.CommandFile.{CommandFile, IsRead, commands}
use Rattle.herd_command_file.specs.declared.line_fault.LineFault.{LineFault}
use Rattle.herd_clerks.proofs.ClerksFacts.{ends-telling, ends-unwritten, told-text}
use Rattle.herd_clerks.proofs.desks.clerks.Goals as goal

-- commands that were read with no fault, under another name
as_read : (most : ℕ) (file : CommandFile) (list same : List Command) → same ≡ list → IsRead most file list None → IsRead most file same None
as_read most file list same is read = subst (λ (l : List Command). IsRead most file l None) (sym is) read

-- what was read of at most as many commands as limits have steps
read_within : (limits same : Limits) (remaining : Option (List ℕ)) (list : List Command) (fault : Option LineFault) → limits ≡ same → IfSome remaining (λ bytes. IsRead limits.steps (commands bytes limits.steps) list fault) → IfSome remaining (λ bytes. IsRead same.steps (commands bytes same.steps) list fault)
read_within limits same remaining list fault is read =
    subst (λ (l : Limits). IfSome remaining (λ bytes. IsRead l.steps (commands bytes l.steps) list fault)) is read

pub returns-in_err-list_commands-clause-err : goal.returns-in_err-list_commands-clause-err
returns-in_err-list_commands-clause-err g c =
    let exit = err_from_is_err_and c.from_residual.result c.from_residual.ensures.1 in
    let list = c.list_commands.new.list.items in
    rw (exit.1, exit.2)
    (IfSome_then (g.R.Read.remaining c.args.reader) (read_within _ c.args.limits _ list (Some c.in_err-list_commands.field-0.0) c.limits.view_is c.in_err-list_commands.ensures.file)
    (λ bytes read. ((list, read), refl)))

pub returns-in_err-summary-clause-err : goal.returns-in_err-summary-clause-err
returns-in_err-summary-clause-err g c =
    let exit = err_from_is_err_and c.from_residual-in_err-summary.result c.from_residual-in_err-summary.ensures.1 in
    let plan = c.args.plan in
    let list = c.list_commands.new.list.items in
    rw (exit.1, exit.2)
    (IfSome_then (g.R.Read.remaining c.args.reader) (read_within _ c.args.limits _ list None c.limits.view_is c.in_ok-list_commands.ensures.file)
    (λ bytes read. ends-unwritten c.args.limits plan.desks plan.base (commands bytes c.args.limits.steps) (g.W.Write.contents c.args.writer.now) c.in_err-summary.field-0.0 read.1))

pub returns-in_err-write_summary-clause-err : goal.returns-in_err-write_summary-clause-err
returns-in_err-write_summary-clause-err g c =
    let exit = err_from_is_err_and c.from_residual-in_err-write_summary.result c.from_residual-in_err-write_summary.ensures.1 in
    let contents = g.W.Write.contents in
    let plan = c.args.plan in
    let steps = c.args.limits.steps in
    let list = c.list_commands.new.list.items in
    rw (exit.1, exit.2)
    (IfSome_then (g.R.Read.remaining c.args.reader) (read_within _ c.args.limits _ list None c.limits.view_is c.in_ok-list_commands.ensures.file)
    (λ bytes read. ends-telling c.args.limits plan.desks plan.base (commands bytes steps) c.as_slice.result.now c.in_ok-summary.summary
    (contents c.args.writer.now) (contents c.write_summary.new.writer) c.in_err-write_summary.field-0.0 c.in_ok-summary.ensures
    c.in_err-write_summary.ensures.err (as_read steps (commands bytes steps) list c.as_slice.result.now c.as_slice.ensures.value read)))

pub returns-clause-ok : goal.returns-clause-ok
returns-clause-ok g c =
    let contents = g.W.Write.contents in
    let plan = c.args.plan in
    let steps = c.args.limits.steps in
    let list = c.list_commands.new.list.items in
    IfSome_then (g.R.Read.remaining c.args.reader) (read_within _ c.args.limits _ list None c.limits.view_is c.in_ok-list_commands.ensures.file)
    (λ bytes read. told-text c.args.limits plan.desks plan.base (commands bytes steps) c.as_slice.result.now c.in_ok-summary.summary
    (Appends (contents c.args.writer.now) (contents c.write_summary.new.writer)) c.in_ok-summary.ensures c.in_ok-write_summary.ensures.ok
    (as_read steps (commands bytes steps) list c.as_slice.result.now c.as_slice.ensures.value read))

-- The report of the frozen book of a file is that of the file.
use Rattle.std.proofs.lemmas.Option.{IfSome_then}
use Rattle.std.proofs.lemmas.Result.{IfErr-weaker, on_ok_weaker}
use Rattle.herd_command_file.specs.CommandFile.{commands}
use Rattle.herd_text.proofs.lemmas.Exits.{if_err}
use Rattle.herd_orders.proofs.RunFacts.{run_answers, run_ends, run_possible}
use Rattle.herd_orders.proofs.orders.run.Goals as goal

pub returns-clause-ok : goal.returns-clause-ok
returns-clause-ok g c =
    let limits = c.args.limits in
    on_ok_weaker c.write_report.result
    (λ reported. IfSome_then (g.R.Read.remaining c.args.reader) c.in_ok-frozen.ensures.ok
    (λ bytes whole. run_answers limits c.args.order.now (commands bytes limits.steps) c.in_ok-frozen.steps c.in_ok-frozen.frozen _ _ whole reported))
    c.write_report.ensures.ok

pub returns-clause-err : goal.returns-clause-err
returns-clause-err g c =
    let limits = c.args.limits in
    IfErr-weaker c.write_report.result _ _
    (λ fault ends. IfSome_then (g.R.Read.remaining c.args.reader) c.in_ok-frozen.ensures.ok
    (λ bytes whole. run_ends limits c.args.order.now (commands bytes limits.steps) c.in_ok-frozen.steps c.in_ok-frozen.frozen _ _ fault whole ends))
    c.write_report.ensures.err

pub returns-clause-fault : goal.returns-clause-fault
returns-clause-fault g c =
    run_possible c.args.order.now c.in_ok-frozen.steps c.in_ok-frozen.frozen _ _ c.write_report.result c.write_report.ensures.err

pub returns-in_err-frozen-clause-fault : goal.returns-in_err-frozen-clause-fault
returns-in_err-frozen-clause-fault g c =
    if_err c.from_residual.result _ _ c.from_residual.ensures.1 (c.in_err-frozen.ensures.fault c.args.order.now)

-- `frozen_of_file`: what a reader of a file gives is what the file says.
use Rattle.std.proofs.Common.{◌≡◌, ap, subst}
use Rattle.std.proofs.lemmas.Option.{IfSome_then}
use Rattle.std.proofs.lemmas.Result.{IfErr-weaker, IfOk-weaker}
use Rattle.herd_register.specs.Limits.{Limits}
use Rattle.herd_register.specs.Register.{Register}
use Rattle.herd_command_file.specs.CommandFile.{commands}
use Rattle.herd_orders.specs.Run.{EndsBy, IsFrozenFile}
use Rattle.herd_orders.proofs.orders.frozen_of_file.Goals as goal

pub returns-clause-ok : goal.returns-clause-ok
returns-clause-ok g c =
    let limits = c.args.limits in
    let same : c.new-register.result.limits ≡ limits = ap (λ (r : Register). r.limits) c.new-register.ensures in
    let steps : c.limits.inside.steps ≡ limits.steps = ap (λ (l : Limits). l.steps) c.limits.view_is in
    IfOk-weaker c.frozen_of_commands.result _ _
    (λ made whole. IfSome_then (g.R.Read.remaining c.args.reader) (rw steps at c.in_ok-commands.ensures.opens)
    (λ bytes given. subst (λ (l : Limits). IsFrozenFile l c.args.order.now (commands bytes limits.steps) made.1 made.0) same (whole (commands bytes limits.steps) given)))
    c.frozen_of_commands.ensures.ok

pub returns-clause-err : goal.returns-clause-err
returns-clause-err g c =
    let limits = c.args.limits in
    let same : c.new-register.result.limits ≡ limits = ap (λ (r : Register). r.limits) c.new-register.ensures in
    let steps : c.limits.inside.steps ≡ limits.steps = ap (λ (l : Limits). l.steps) c.limits.view_is in
    IfErr-weaker c.frozen_of_commands.result _ _
    (λ fault ends order text. IfSome_then (g.R.Read.remaining c.args.reader) (rw steps at c.in_ok-commands.ensures.opens)
    (λ bytes given. subst (λ (l : Limits). EndsBy l order (commands bytes limits.steps) text text fault) same (ends (commands bytes limits.steps) given order text)))
    c.frozen_of_commands.ensures.err

-- `answer_file`: what a reader of a file gives is what the file says.
use Rattle.std.proofs.Common.{◌≡◌, ap, subst}
use Rattle.std.proofs.lemmas.Option.{IfSome_then}
use Rattle.std.proofs.lemmas.Result.{IfErr-weaker, on_ok_weaker}
use Rattle.herd_register.specs.Limits.{Limits}
use Rattle.herd_register.specs.Register.{Register}
use Rattle.herd_command_file.specs.CommandFile.{commands}
use Rattle.herd_orders.specs.Run.{EndsReplying, IsReplied}
use Rattle.herd_orders.proofs.orders.answer_file.Goals as goal

pub returns-clause-ok : goal.returns-clause-ok
returns-clause-ok g c =
    let limits = c.args.limits in
    let same : c.new-register.result.limits ≡ limits = ap (λ (r : Register). r.limits) c.new-register.ensures in
    let steps : c.limits.inside.steps ≡ limits.steps = ap (λ (l : Limits). l.steps) c.limits.view_is in
    on_ok_weaker c.answer_commands.result
    (λ replied. IfSome_then (g.R.Read.remaining c.args.reader) (rw steps at c.in_ok-commands.ensures.opens)
    (λ bytes given. subst (λ (l : Limits). IsReplied l (commands bytes limits.steps) (g.W.Write.contents c.args.writer.now) (g.W.Write.contents c.answer_commands.new.writer)) same
    (replied (commands bytes limits.steps) given)))
    c.answer_commands.ensures.ok

pub returns-clause-err : goal.returns-clause-err
returns-clause-err g c =
    let limits = c.args.limits in
    let same : c.new-register.result.limits ≡ limits = ap (λ (r : Register). r.limits) c.new-register.ensures in
    let steps : c.limits.inside.steps ≡ limits.steps = ap (λ (l : Limits). l.steps) c.limits.view_is in
    IfErr-weaker c.answer_commands.result _ _
    (λ fault ends. IfSome_then (g.R.Read.remaining c.args.reader) (rw steps at c.in_ok-commands.ensures.opens)
    (λ bytes given. subst (λ (l : Limits). EndsReplying l (commands bytes limits.steps) (g.W.Write.contents c.args.writer.now) (g.W.Write.contents c.answer_commands.new.writer) fault) same
    (ends (commands bytes limits.steps) given)))
    c.answer_commands.ensures.err

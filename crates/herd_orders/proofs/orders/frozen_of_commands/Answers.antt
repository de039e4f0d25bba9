-- `frozen_of_commands`: what is frozen is the book of the file.
use Rattle.std.proofs.Common.{List, ap, inl, length, refl, subst}
use Rattle.herd_register.specs.Run.{commands_of}
use Rattle.herd_register.specs.declared.step.Step.{Step}
use Rattle.herd_text.proofs.lemmas.Exits.{if_err}
use Rattle.herd_orders.specs.Run.{SufficeFor}
use Rattle.herd_orders.proofs.RunFacts.{frozen_file}
use Rattle.herd_orders.proofs.orders.frozen_of_commands.Goals as goal

pub returns-clause-ok : goal.returns-clause-ok
returns-clause-ok g c = λ file given.
    let limits = c.args.register.now.limits in
    let register = c.file_all.new.register in
    let rows = c.in_ok-frozen.frozen in
    let filed = c.in_ok-file_all.ensures in
    frozen_file limits c.args.order.now file (commands_of register.journal) register (length c.journal.result.now) rows (filed.read file given) filed.filed
    (ap (λ (l : List Step). length l) c.journal.ensures.value)
    (subst (λ book. SufficeFor c.args.order.now book rows) c.pedigree.ensures.book c.in_ok-frozen.ensures)

pub returns-in_err-frozen-clause-err : goal.returns-in_err-frozen-clause-err
returns-in_err-frozen-clause-err g c =
    if_err c.from_residual-in_err-frozen.result _ _ c.from_residual-in_err-frozen.ensures.1
    (λ file given order text. ((c.in_ok-file_all.ensures.read file given).1, inl refl))

-- `Shown::part`: its clause `part`.
use Rattle.std.proofs.Common.{◌∙◌, ap, subst, sym}
use Rattle.herd_register.specs.Run.{commands_of, run_book}
use Rattle.herd_office.specs.Copies.{IsPartWith}
use Rattle.herd_office.specs.declared.history.Past.{Past}
use Rattle.herd_office.proofs.shown.Shown.part.Goals as goal

pub returns-clause-part : goal.returns-clause-part
returns-clause-part g c =
    subst (λ book. IsPartWith book c.args.numbers.now c.in_ok-records-2.records.items)
    (c.in_ok-records.ensures.run ∙ ap (λ (past : Past). run_book past.limits (commands_of past.seen.log)) (sym c.again.ensures))
    c.in_ok-records-2.ensures

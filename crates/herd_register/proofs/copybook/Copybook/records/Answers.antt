-- `Copybook::records`: its clause `lawful`.
use Rattle.std.proofs.Common.{◌≤◌, ap, sym, subst, ◌∙◌}
use Rattle.herd_frozen.specs.rules.Lawful.{IsLawful}
use Rattle.herd_frozen.specs.declared.TheConstants.{DEPTH_LIMIT, MOST_ANIMALS}
use Rattle.herd_register.specs.Copybook.{Copybook}
use Rattle.herd_register.proofs.RunLemmas.{IsLawful-run_book}
use Rattle.herd_register.proofs.copybook.Copybook.records.Goals as goal

pub returns-clause-lawful : goal.returns-clause-lawful
returns-clause-lawful g c commands is =
    let now = c.args.self.now in
    let few : now.limits.animals ≤ MOST_ANIMALS = subst (λ (copybook : Copybook). copybook.limits.animals ≤ MOST_ANIMALS) c.self.view_is c.self.invariant.0.limits.most_animals in
    let book = c.as_slice.ensures.value ∙ (ap (λ (copybook : Copybook). copybook.book) c.self.view_is ∙ is) in
    subst (IsLawful DEPTH_LIMIT MOST_ANIMALS) (sym book) (IsLawful-run_book now.limits commands few)

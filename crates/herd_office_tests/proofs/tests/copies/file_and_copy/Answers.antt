-- `file_and_copy`: its clause.
use Rattle.std.proofs.Common.{◌≡◌, ◌≤◌, ◌∙◌, ◌++◌, ◌∷◌, [], ap, arith, length, refl, subst, sym}
use Rattle.std.proofs.lemmas.List.{length-append}
use Rattle.herd_register.specs.Change.{IsLastChange}
use Rattle.herd_register.specs.Copybook.{copy_of}
use Rattle.herd_register.specs.Register.{Register, with_step}
use Rattle.herd_register.specs.Run.{step_of}
use Rattle.herd_office_tests.proofs.tests.copies.file_and_copy.Goals as goal

pub returns : goal.returns
returns g c =
    let old = c.args.register.now in
    let step = step_of 7 c.args.command c.in_ok-file.field-0 in
    let stored : c.file.new.self ≡ with_step old step = c.in_ok-file.ensures.stored in
    let within : length (old.journal ++ step ∷ []) ≤ old.limits.steps = subst (λ (r : Register). length r.journal ≤ r.limits.steps) stored c.journal.ensures.room in
    let made = subst (λ (r : Register). IsLastChange r.limits r.journal c.last_change.result) stored c.last_change.ensures.made in
    c.in_ok-take_over.ensures.copied old.limits old.journal step refl c.requires (omega (arith, within, length-append old.journal (step ∷ []))) made
    ∙ sym (ap (λ (r : Register). copy_of r.limits r.journal) stored)

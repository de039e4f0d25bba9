-- `Pedigree::set_parents`: its clause `set`, since the parents have no fault.
use Rattle.std.proofs.Common.{◌≡◌, ◌∙◌, ap, None, Ok}
use Rattle.herd_pedigree.proofs.pedigree.Pedigree.set_parents.Goals as goal

pub returns-clause-set : goal.returns-clause-set
returns-clause-set g c =
    let asked = c.requires in
    let number = c.found-found.ensures.number in
    let told = rw (number, asked.there) at c.in_ok-set_parents_at_if_sound.ensures.fault in
    let none : c.in_ok-set_parents_at_if_sound.field-0 ≡ None = told ∙ asked.parents in
    rw number at (c.in_ok-set_parents_at_if_sound.ensures.set (ap Ok none))

-- `Pedigree::add`: its clause `added`, since the birth has no other outcome.
use Rattle.std.proofs.Common.{◌≡◌, ◌∙◌, sym, ap, Ok}
use Rattle.herd_frozen.specs.declared.TheConstants.{DEPTH_LIMIT}
use Rattle.herd_pedigree.specs.declared.registration.Registration.TheVariants.{Added}
use Rattle.herd_pedigree.proofs.RegistrationFacts.{registration-added}
use Rattle.herd_pedigree.proofs.pedigree.Pedigree.add.Goals as goal

pub returns-clause-added : goal.returns-clause-added
returns-clause-added g c =
    let birth = c.requires in
    let added : c.in_ok-add_if_new.field-0 ≡ Added =
    c.in_ok-add_if_new.ensures.outcome ∙ sym (registration-added DEPTH_LIMIT c.args.self.now.book c.args.number c.args.newborn birth.absent (sym birth.parents)) in
    c.in_ok-add_if_new.ensures.added (ap Ok added)

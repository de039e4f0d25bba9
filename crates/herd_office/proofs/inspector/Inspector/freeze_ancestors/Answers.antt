-- `Inspector::freeze_ancestors`: what `freeze_list` requires, and what is returned.
use Rattle.std.proofs.Common.{sym, subst}
use Rattle.herd_frozen.specs.freezing.Frozen.{IsFrozenFrom}
use Rattle.herd_frozen.specs.rules.Lawful.{IsLawful}
use Rattle.herd_frozen.specs.declared.TheConstants.{DEPTH_LIMIT, MOST_ANIMALS}
use Rattle.herd_pedigree.proofs.lemmas.PartOfFacts.{part-frozen, part-lawful}
use Rattle.herd_register.specs.Run.{IsLegal, commands_of, run_book}
use Rattle.herd_office.proofs.inspector.Inspector.freeze_ancestors.Goals as goal

pub freeze_list-requires : goal.freeze_list-requires
freeze_list-requires g c =
    let book = run_book g.N.OfficeName.limits (commands_of c.in_ok-part.history) in
    let is = c.in_ok-part.ensures.part in
    subst (IsLawful DEPTH_LIMIT MOST_ANIMALS) (sym c.as_slice.ensures.value) (part-lawful book c.in_ok-part.part.items is.is_part DEPTH_LIMIT MOST_ANIMALS is.lawful)

pub invariant_of-self : goal.invariant_of-self
invariant_of-self g c = record { ours = c.look_for.new.self.ours }

pub returns : goal.returns
returns g c =
    let book = run_book g.N.OfficeName.limits (commands_of c.in_ok-part.history) in
    let is = c.in_ok-part.ensures.part in
    let rows = c.in_ok-frozen.frozen in
    record {
      part = part-frozen DEPTH_LIMIT MOST_ANIMALS book c.in_ok-part.part.items c.args.numbers.now rows is.lawful is.is_part is.named
          (subst (λ b. IsFrozenFrom DEPTH_LIMIT MOST_ANIMALS b rows) c.as_slice.ensures.value c.in_ok-frozen.ensures);
      legal = subst (λ limits. IsLegal limits c.in_ok-part.history) c.history.invariant.1
          (subst (IsLegal c.history.inside.past.limits) c.history.view_is c.history.inside.past.legal);
      seen = c.in_ok-part.ensures.later;
      fault = tt;
    }

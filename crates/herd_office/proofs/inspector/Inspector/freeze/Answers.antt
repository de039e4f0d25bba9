-- `Inspector::freeze`: what `freeze_hinted` requires, and what is returned.
use Rattle.std.proofs.Common.{sym, subst, ◌∙◌}
use Rattle.herd_frozen.specs.freezing.Frozen.{IsFrozenFrom}
use Rattle.herd_frozen.specs.rules.Lawful.{IsLawful}
use Rattle.herd_frozen.specs.declared.TheConstants.{DEPTH_LIMIT, MOST_ANIMALS}
use Rattle.herd_register.specs.Run.{IsLegal}
use Rattle.herd_office.proofs.inspector.Inspector.freeze.Goals as goal

pub freeze_hinted-requires : goal.freeze_hinted-requires
freeze_hinted-requires g c = subst (IsLawful DEPTH_LIMIT MOST_ANIMALS) (sym c.as_slice.ensures.value) c.in_ok-list.ensures.lawful

pub invariant_of-self : goal.invariant_of-self
invariant_of-self g c = record { ours = c.look.new.self.ours }

pub returns : goal.returns
returns g c =
    record {
      book = subst (λ b. IsFrozenFrom DEPTH_LIMIT MOST_ANIMALS b c.in_ok-frozen.frozen) (c.as_slice.ensures.value ∙ c.in_ok-list.ensures.run) c.in_ok-frozen.ensures;
      legal = subst (λ limits. IsLegal limits c.in_ok-list.history) c.history.invariant.1
          (subst (IsLegal c.history.inside.past.limits) c.history.view_is c.history.inside.past.legal);
      seen = c.in_ok-list.ensures.later;
      fault = tt;
    }

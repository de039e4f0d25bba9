-- `Register::pedigree`: its clause `few`.
use Rattle.std.proofs.Common.{ap, arith}
use Rattle.herd_register.specs.Register.{Register}
use Rattle.herd_register.proofs.RegisterFacts.{few_animals}
use Rattle.herd_register.proofs.register.Register.pedigree.Goals as goal

pub returns-clause-few : goal.returns-clause-few
returns-clause-few g c =
    omega (arith, few_animals _ c.self.inside.pedigree c.self.invariant, ap (λ (r : Register). r.limits.animals) c.self.view_is)

-- `Register::withdraw`: the invariant.
use Rattle.std.proofs.Common.{◌≡◌, ◌++◌, ◌∷◌, [], true, refl, ap, ◌∙◌}
use Rattle.std.specs.Option.{option_to_list}
use Rattle.herd_register.specs.Register.{Register, register_of}
use Rattle.herd_register.proofs.RegisterFacts.{IsRegister-without_step}
use Rattle.herd_register.proofs.register.Register.withdraw.Goals as goal
use Rattle.herd_register.proofs.register.Register.withdraw.Goals.{in-Accepted, in-Refused}

pub invariant_of-self : goal.invariant_of-self
invariant_of-self g c =
    let i = c.self.inside in
    let old = register_of i.limits i.journal.items i.can_withdraw in
    let earlier = c.pop.new.self.items in
    let last = c.unwrap-step.result in
    let can : i.can_withdraw ≡ true = ap (λ (r : Register). r.can_withdraw) c.self.view_is ∙ c.requires in
    let whole : i.journal.items ≡ earlier ++ last ∷ [] = c.pop.ensures.items ∙ ap (λ o. earlier ++ option_to_list o) c.unwrap-step.ensures in
    elim c.match-step.branch [
      | in-Accepted w ↦ rw w.self-inside-is (IsRegister-without_step old i.pedigree w.take_back.new.self earlier last c.self.invariant can whole (λ _. w.take_back.ensures.book) (λ refusal refused. absurd (cc (refused, w.in-Accepted.is))))
      | in-Refused w ↦ rw w.self-inside-is (IsRegister-without_step old i.pedigree i.pedigree earlier last c.self.invariant can whole (λ accepted. absurd (cc (accepted, w.in-Refused.is))) (λ _ _. refl))
    ]

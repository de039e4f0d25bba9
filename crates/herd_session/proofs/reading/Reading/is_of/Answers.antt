-- Two beginnings of what both learnt are the same just where they are equally long.
use Rattle.std.proofs.Common.{◌≡◌, ◌∙◌, ap, arith, length, subst, sym}
use Rattle.std.proofs.lemmas.Bool.Decides.{nat_tests}
use mathlib.Core.List.{IsPrefix}
use Rattle.herd_session.proofs.AskedFacts.{same_history}
use Rattle.herd_session.proofs.reading.Reading.is_of.Goals as goal

pub returns : goal.returns
returns g c = (
  λ same.
      (let long : c.steps.result ≡ c.steps_seen.result = grind (arith, nat_tests) in
      same_history c.args.self.now.of.history c.args.inspector.now.history c.learn.new.self.history c.learn.ensures.that
      (subst (λ h. IsPrefix h c.learn.new.self.history) c.slip-both.ensures c.learn.ensures.this)
      (sym c.steps.ensures.steps ∙ long ∙ c.steps_seen.ensures)),
  λ same.
      (let long : c.steps.result ≡ c.steps_seen.result =
      c.steps.ensures.steps ∙ ap length same ∙ sym c.steps_seen.ensures in
      grind (arith, nat_tests)),
)

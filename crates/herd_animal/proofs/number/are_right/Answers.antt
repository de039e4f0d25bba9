-- The loop has gone through all places.
use Rattle.std.proofs.Common.{arith, subst, ◌≡◌}
use Rattle.std.specs.Prelude.{◌↔◌, IsTrue}
use Rattle.herd_animal.specs.AnimalNumber.{AreRight}
use Rattle.herd_animal.proofs.number.are_right.Goals as goal

pub returns : goal.returns
returns c =
    let end : c.loop-place.place ≡ c.args.to = omega arith in
    subst (λ place. IsTrue c.loop-place.right ↔ AreRight c.args.text.now c.args.from place) end c.loop-place.invariant

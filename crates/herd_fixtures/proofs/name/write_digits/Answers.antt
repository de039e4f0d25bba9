-- Each digit is written in front of those that are there.
use Rattle.std.proofs.Common.{◌-◌, sym, ◌∙◌, arith, length-set}
use Rattle.std.proofs.Math.Seq.{drop-length}
use Rattle.std.proofs.lemmas.List.{append-nil}
use Rattle.herd_fixtures.proofs.DigitFacts.{digits-more, digits-none}
use Rattle.herd_fixtures.proofs.name.write_digits.Goals as goal

pub loop-place-init : goal.loop-place-init
loop-place-init c = rw drop-length (sym (append-nil _))

pub loop-place-preserved : goal.loop-place-preserved
loop-place-preserved c =
    rw length-set (c.loop-place.invariant ∙ digits-more _ (c.loop-place.place - 1) _ _ (omega arith) (omega arith))

pub returns : goal.returns
returns c = sym ((rw c.loop-place.auto.text at c.loop-place.invariant) ∙ digits-none _ _ _ c.loop-place-test.false)

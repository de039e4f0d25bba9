-- `write_calves`: its loop and its result.
use Rattle.std.proofs.Common.{◌≡◌, ℕ, ◌<◌, length, get_or, arith, ◌∙◌, subst}
use Rattle.std.proofs.lemmas.List.{length-set, take_all}
use Rattle.herd_kinship.specs.CalfCoefficients.{HasWritten}
use Rattle.herd_kinship.specs.declared.calves.CalfCoefficient.{CalfCoefficient}
use Rattle.herd_kinship.proofs.lemmas.sires.CalfListFacts.{written-next}
use Rattle.herd_kinship.proofs.calves.write_calves.Goals as goal

pub loop-calf-preserved : goal.loop-calf-preserved
loop-calf-preserved c =
    let calves = c.args.calves.now in
    let i : ℕ = c.loop-calf.calf-index in
    let first : CalfCoefficient = record { rank = 0; numerator = 0 } in
    let each : length c.loop-calf.known ≡ length c.args.known.now = c.loop-calf.invariant.each in
    let within : (get_or calves i first).rank < length c.args.known.now = c.requires i first c.loop-calf-test.true in
    record {
      each = length-set c.loop-calf.known (get_or calves i first).rank (get_or calves i first).numerator ∙ each;
      written = λ f values. written-next f calves i first c.args.known.now c.loop-calf.known c.loop-calf-test.true (omega arith) values (c.loop-calf.invariant.written f values);
    }

pub returns : goal.returns
returns c = record {
  each = c.loop-calf.auto.known;
  written = λ f values. subst (λ xs. HasWritten f xs c.args.known.now c.loop-calf.known) (take_all c.loop-calf.calf-index c.args.calves.now c.loop-calf-test.false) (c.loop-calf.invariant.written f values);
}

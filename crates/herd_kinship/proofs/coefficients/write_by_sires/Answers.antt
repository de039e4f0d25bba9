-- `write_by_sires`: its loop and its result.
use Rattle.std.proofs.Common.{◌≡◌, length, arith, subst}
use Rattle.herd_lineage.specs.declared.TheConstants.{DEPTH_LIMIT}
use Rattle.herd_kinship.specs.Coefficients.{IsBefore, KnowsReached}
use Rattle.herd_kinship.proofs.coefficients.write_by_sires.Goals as goal

pub loop-sire-init : goal.loop-sire-init
loop-sire-init g c = record {
  ready = c.in_ok-mates.ensures;
  known = c.requires;
}

-- once all sires have been gone through, all calves are reached
pub returns : goal.returns
returns g c =
    let rows = c.args.lineage.now in
    let end = c.len-sire-end.ensures.value in
    let past = c.loop-sire-test.false in
    let within = c.loop-sire.auto.sire-end in
    let last : c.loop-sire.sire ≡ length rows = omega arith in
    subst (λ n. KnowsReached DEPTH_LIMIT rows (IsBefore n) c.loop-sire.known) last c.loop-sire.invariant.known

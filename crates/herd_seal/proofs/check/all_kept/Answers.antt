use Rattle.std.proofs.Common.{◌≡◌, ◌<◌, Some, slice_get, arith, rules, below_more}
use Rattle.std.proofs.lemmas.Grind.{common_steps}
use Rattle.herd_seal.specs.CheckFaults.{at_row}
use Rattle.herd_seal.specs.declared.check_fault.CheckCause.TheVariants.{Row}
use Rattle.herd_seal.proofs.FaultFacts.{contains_itself, not_kept}
use Rattle.herd_seal.proofs.check.all_kept.Goals as goal

pub loop-row-preserved : goal.loop-row-preserved
loop-row-preserved c =
    let kept : slice_get c.args.ranks.now c.loop-row.row ≡ Some c.loop-row.row = search rules in
    below_more _ _ c.loop-row.invariant kept

pub returns-then-not-is_kept-clause-fault : goal.returns-then-not-is_kept-clause-fault
returns-then-not-is_kept-clause-fault c =
    let low : c.loop-row.row < c.args.rows = first_of (search rules, grind (arith, common_steps)) in
    let told : c.at_row.result ≡ at_row Row c.loop-row.row = first_of (search rules, grind (arith, common_steps)) in
    let wrong : slice_get c.args.ranks.now c.loop-row.row ≡ Some c.loop-row.row → ⊥ = search rules in (
      c.loop-row.row,
      told,
      low,
      λ row earlier. contains_itself c.args.ranks.now row (c.loop-row.invariant row earlier),
      not_kept c.args.ranks.now c.loop-row.row c.requires c.loop-row.invariant wrong,
    )

pub returns-clause-kept : goal.returns-clause-kept
returns-clause-kept c = λ row low. contains_itself c.args.ranks.now row (c.loop-row.invariant row (omega (arith, low, c.loop-row-test.false)))

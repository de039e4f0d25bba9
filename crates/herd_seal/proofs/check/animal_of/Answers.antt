use Rattle.std.proofs.Common.{◌≢◌, rules, arith}
use Rattle.std.proofs.lemmas.Grind.{common_steps}
use Rattle.herd_seal.proofs.FaultFacts.{no_animal_other}
use Rattle.herd_seal.proofs.check.animal_of.Goals as goal

pub returns-else-eq-clause-fault : goal.returns-else-eq-clause-fault
returns-else-eq-clause-fault c =
    let wrong : c.in-Some.row.record.number ≢ c.args.claim.now.number = first_of (search rules, grind (arith, common_steps)) in
    (c.at-else-eq.ensures, no_animal_other c.args.rows.now c.args.claim.now c.in-Some.rank c.in-Some.row c.requires.ascend c.in-Some.ensures.there c.in-Some.ensures.place wrong)

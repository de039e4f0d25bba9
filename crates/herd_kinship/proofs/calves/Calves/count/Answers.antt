-- `Calves::count`: that its calves are few.
use Rattle.std.proofs.Common.{◌≤◌, inl, length, arith, ap}
use Rattle.herd_lineage.specs.declared.TheConstants.{DEPTH_LIMIT, MOST_ANIMALS}
use Rattle.herd_kinship.proofs.lemmas.lineages.LineageFacts.{lineage-few}
use Rattle.herd_kinship.proofs.lemmas.sires.CalvesBelow.{calf_count-few}
use Rattle.herd_kinship.proofs.calves.Calves.count.Given.{Over}
use Rattle.herd_kinship.proofs.calves.Calves.count.Goals.{After-of_sire}
use Rattle.herd_kinship.proofs.calves.Calves.count.Goals as goal

few : (g : Over) (c : After-of_sire g) → length c.of_sire.result ≤ MOST_ANIMALS
few g c =
    let all = ap length c.of_sire.ensures in
    let few = calf_count-few c.args.lineage.now c.args.sire in
    let most = lineage-few DEPTH_LIMIT MOST_ANIMALS c.args.lineage.now c.requires.calves.lineage in
    omega arith

pub count-requires-clause-fits : goal.count-requires-clause-fits
count-requires-clause-fits g c = let few = few g c in inl (omega arith)

pub overflow_cast-result : goal.overflow_cast-result
overflow_cast-result g c =
    let few = few g (goal.at.overflow_cast-result g c).After-of_sire in
    let bound = c.count.ensures.bound in
    omega arith

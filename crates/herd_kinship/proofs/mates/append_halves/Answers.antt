-- `append_halves`: what `with_parent` requires.
use Rattle.std.proofs.Common.{arith}
use Rattle.herd_lineage.specs.declared.TheConstants.{DEPTH_LIMIT, MOST_ANIMALS}
use Rattle.herd_kinship.proofs.lemmas.sires.CalfFacts.{dam-within}
use Rattle.herd_kinship.proofs.mates.append_halves.Goals as goal

pub with_parent-numerator-requires : goal.with_parent-numerator-requires
with_parent-numerator-requires g c = λ d e.
    let within = dam-within DEPTH_LIMIT MOST_ANIMALS c.args.lineage.now c.in-Some.rank c.parents.result c.parents.ensures.lineage c.parents.ensures.parents d e in
    let column = c.requires.column in
    omega arith

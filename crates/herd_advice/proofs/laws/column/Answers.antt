-- `column`: what that of a lineage requires, and its result.
use Rattle.std.proofs.Common.{List, subst}
use Rattle.herd_lineage.specs.declared.lineage.Parents.{Parents}
use Rattle.herd_lineage.specs.declared.TheConstants.{DEPTH_LIMIT, MOST_ANIMALS}
use Rattle.herd_kinship.specs.Columns.{IsColumn}
use Rattle.herd_advice.proofs.lemmas.FrozenFacts.{long}
use Rattle.herd_advice.proofs.laws.column.Goals as goal

pub column-requires-clause-first : goal.column-requires-clause-first
column-requires-clause-first g c =
    let its = c.lineage.ensures in
    rw (long DEPTH_LIMIT MOST_ANIMALS c.args.frozen.now its.frozen c.lineage.result.now its.value its.lineage) c.requires.first

pub column-requires-clause-second : goal.column-requires-clause-second
column-requires-clause-second g c =
    let its = c.lineage.ensures in
    rw (long DEPTH_LIMIT MOST_ANIMALS c.args.frozen.now its.frozen c.lineage.result.now its.value its.lineage) c.requires.second

pub returns : goal.returns
returns g c = subst (λ (l : List Parents). IsColumn DEPTH_LIMIT l c.args.s c.args.j) c.lineage.ensures.value c.column.ensures

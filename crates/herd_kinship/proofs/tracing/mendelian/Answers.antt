-- `mendelian`: what `variance_by` requires and its clauses `value`, `positive` and `at_most_one`.
use Rattle.std.proofs.Common.{◌∙◌}
use Rattle.herd_lineage.specs.declared.TheConstants.{DEPTH_LIMIT, MOST_ANIMALS}
use Rattle.herd_kinship.proofs.lemmas.tracing.KnownFacts.{parents-known}
use Rattle.herd_kinship.proofs.lemmas.lineages.LineageFacts.{ranked-bounded}
use Rattle.herd_kinship.proofs.tracing.mendelian.Goals as goal

pub variance_by-requires-clause-sire : goal.variance_by-requires-clause-sire
variance_by-requires-clause-sire g c =
    (parents-known DEPTH_LIMIT MOST_ANIMALS c.args.lineage.now c.parents.ensures.lineage c.args.known.now c.args.rank c.parents.result c.requires.rank c.requires.known c.parents.ensures.parents).sire

pub variance_by-requires-clause-dam : goal.variance_by-requires-clause-dam
variance_by-requires-clause-dam g c =
    (parents-known DEPTH_LIMIT MOST_ANIMALS c.args.lineage.now c.parents.ensures.lineage c.args.known.now c.args.rank c.parents.result c.requires.rank c.requires.known c.parents.ensures.parents).dam

pub returns-clause-value : goal.returns-clause-value
returns-clause-value g c =
    c.variance_by.ensures
    ∙ (parents-known DEPTH_LIMIT MOST_ANIMALS c.args.lineage.now c.parents.ensures.lineage c.args.known.now c.args.rank c.parents.result c.requires.rank c.requires.known c.parents.ensures.parents).variance

pub returns-clause-positive : goal.returns-clause-positive
returns-clause-positive g c =
    rw (returns-clause-value g c) (ranked-bounded DEPTH_LIMIT MOST_ANIMALS c.args.lineage.now c.parents.ensures.lineage c.args.rank c.args.rank c.requires.rank c.requires.rank).positive

pub returns-clause-at_most_one : goal.returns-clause-at_most_one
returns-clause-at_most_one g c =
    rw (returns-clause-value g c) (ranked-bounded DEPTH_LIMIT MOST_ANIMALS c.args.lineage.now c.parents.ensures.lineage c.args.rank c.args.rank c.requires.rank c.requires.rank).at_most

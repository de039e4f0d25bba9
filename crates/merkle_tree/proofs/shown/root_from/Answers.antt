use Rattle.std.proofs.Common.{◌∙◌, arith}
use Rattle.merkle_tree.specs.Shown.{found}
use Rattle.merkle_tree.proofs.lemmas.Whole.{exact, part_shows, found_complete}
use Rattle.merkle_tree.proofs.shown.root_from.Goals as goal

pub returns-clause-exact : goal.returns-clause-exact
unfolding found
returns-clause-exact c = c.root_at.ensures

pub returns-clause-sound : goal.returns-clause-sound
returns-clause-sound c = λ digests_are shown_are some.
    part_shows c.args.count c.args.shown.now c.args.digests.now c.root_at.result (omega arith) (exact c.args.count c.args.shown.now c.args.digests.now _ c.root_at.ensures) digests_are shown_are some

pub returns-clause-complete : goal.returns-clause-complete
returns-clause-complete c = λ leaves places long ascending lie are is.
    exact c.args.count c.args.shown.now c.args.digests.now _ c.root_at.ensures
    ∙ found_complete c.args.count c.args.shown.now c.args.digests.now (omega arith) leaves places long ascending lie are is

use Rattle.merkle_tree.proofs.lemmas.Steps.{tree_leaf, tree_none, tree_within, tree_halves}
use Rattle.std.proofs.Common.{refl}
use Rattle.merkle_tree.proofs.tree.+tree_at.Goals as goal

pub returns-in-Some : goal.returns-in-Some
returns-in-Some t c = tree_leaf c.args.leaves.now c.args.level c.in-Some.leaf.now c.in-Some.leaf.now c.if-level-eq0.true c.in-Some.ensures.value refl

pub returns-in-None : goal.returns-in-None
returns-in-None t c = tree_none c.args.leaves.now c.args.level c.digest.result c.if-level-eq0.true c.in-None.ensures.value c.digest.ensures

pub returns-then-leaves-half : goal.returns-then-leaves-half
returns-then-leaves-half t c =
    tree_within c.args.leaves.now c.args.level c.half_of-half.result c.tree_at.result c.if-level-eq0.false c.half_of-half.ensures c.if-leaves-half.true c.tree_at.ensures

pub returns : goal.returns
returns t c =
    tree_halves c.args.leaves.now c.split_at.result.0.now c.split_at.result.1.now c.args.level c.half_of-half.result c.node_digest.result
    c.tree_at-2.result c.tree_at-3.result c.if-level-eq0.false c.half_of-half.ensures c.if-leaves-half.false
    c.split_at.ensures.front c.split_at.ensures.back c.tree_at-2.ensures c.tree_at-3.ensures c.node_digest.ensures

use Rattle.merkle_tree.specs.Tree.{tree_root}
use Rattle.merkle_tree.proofs.tree.tree_root.Goals as goal

pub returns : goal.returns
unfolding tree_root
returns c = c.tree_at.ensures

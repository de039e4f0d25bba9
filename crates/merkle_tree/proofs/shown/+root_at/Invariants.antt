use Rattle.merkle_tree.proofs.shown.+root_at.Given as goal

abbrev pub decreases-root_at : goal.decreases-root_at
decreases-root_at l = l.level

use Rattle.merkle_tree.proofs.beside.+push_beside.Given as goal

abbrev pub decreases-push_beside : goal.decreases-push_beside
decreases-push_beside g l = l.level

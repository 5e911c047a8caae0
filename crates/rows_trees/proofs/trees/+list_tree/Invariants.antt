use Rattle.rows_trees.proofs.trees.+list_tree.Given as goal

abbrev pub decreases-list_tree : goal.decreases-list_tree
decreases-list_tree l = l.levels

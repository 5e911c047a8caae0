use Rattle.std.proofs.Common.{◌∙◌, sym, rules}
use Rattle.jj_trees.proofs.PresentTrees.{trees_from_test, not_trees_from_test}
use Rattle.jj_trees.proofs.tree_merge.classify.Goals as goal

pub returns-then-are_trees_or_absent : goal.returns-then-are_trees_or_absent
returns-then-are_trees_or_absent c = (
  search rules,
  trees_from_test c.args.values.now (sym c.are_trees_or_absent.ensures ∙ c.if-are_trees_or_absent.true),
)

pub returns-else-are_trees_or_absent : goal.returns-else-are_trees_or_absent
returns-else-are_trees_or_absent c = (
  search rules,
  not_trees_from_test c.args.values.now (sym c.are_trees_or_absent.ensures ∙ c.if-are_trees_or_absent.false),
)

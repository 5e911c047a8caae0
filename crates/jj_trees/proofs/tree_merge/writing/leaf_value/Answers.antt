use Rattle.std.proofs.Common.{◌∙◌, inl, inr, sym}
use Rattle.jj_trees.proofs.TrieValues.{full_node}
use Rattle.jj_trees.proofs.tree_merge.writing.leaf_value.Goals as goal

pub returns-then-has_children-clause-error : goal.returns-then-has_children-clause-error
returns-then-has_children-clause-error c =
    elim c.path_error.ensures [
      | inl memory ↦ inl memory
      | inr other ↦ inr (other, full_node c.args.node.now c.in-Some.value (sym c.value.ensures ∙ c.in-Some.is) (sym c.has_children.ensures ∙ c.if-has_children.true))
    ]

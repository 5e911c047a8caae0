use Rattle.jj_trees.proofs.MemoryObjectLemmas.{by_id-one}
use Rattle.jj_trees.proofs.memory_backend.MemoryBackend.with_id_length.Goals as goal

pub invariant_of-result : goal.invariant_of-result
invariant_of-result c = (
  c.requires.greatest,
  by_id-one _ _ _ c.in_ok-empty_tree_id.ensures.tree,
  by_id-one _ _ _ c.in_ok-commits.ensures,
)

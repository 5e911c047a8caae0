use Rattle.std.proofs.Common.{inr, sym}
use Rattle.std.proofs.lemmas.Result.{err_from_is_err_and}
use Rattle.jj_trees.proofs.tree_merge.read_trees.Goals as goal

pub returns-in_err-tree-clause-error : goal.returns-in_err-tree-clause-error
returns-in_err-tree-clause-error g c =
    let p = err_from_is_err_and c.from_residual.result c.from_residual.ensures.1 in
    rw (p.1, p.2)
    (inr (c.loop-value.value-index, c.value-item.result, c.loop-value-test.true, sym c.value-item.is, c.in_err-tree.ensures.error))

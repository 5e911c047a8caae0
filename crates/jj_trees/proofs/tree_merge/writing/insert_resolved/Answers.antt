use Rattle.std.proofs.Common.{◌≡◌, ◌∙◌, ◌++◌, take, length, get_or, sym, ap, subst, arith}
use Rattle.std.proofs.lemmas.Result.{err_from_is_err_and}
use Rattle.std.proofs.Math.Seq.{take-length}
use Rattle.jj_paths.specs.Names.{path_of}
use Rattle.jj_paths.specs.Paths.{Path}
use Rattle.jj_backend.specs.declared.backend.tree_value.TreeValue.{TreeValue}
use Rattle.jj_trees.specs.PathTries.{IsTrieOf}
use Rattle.jj_trees.proofs.TrieValues.{other_cause}
use Rattle.jj_trees.proofs.ChosenValues.{resolved_more, resolved_prefix}
use Rattle.jj_trees.proofs.tree_merge.writing.insert_resolved.Goals as goal

pub returns-in_err-insert_value-clause-error : goal.returns-in_err-insert_value-clause-error
returns-in_err-insert_value-clause-error c =
    let x : Path × TreeValue = (path_of c.as_path.result, c.loop-path-item.result.1) in
    let is : get_or c.args.resolved.now c.loop-path.path-index c.loop-path-item.result ≡ x = sym c.loop-path-item.is ∙ λ i. (sym c.as_path.ensures i, c.loop-path-item.result.1) in
    let p = err_from_is_err_and c.from_residual.result c.from_residual.ensures.1 in
    rw (p.1, p.2)
    (other_cause (λ h values of free. h (values ++ take c.loop-path.path-index c.args.resolved.now) (c.loop-path.invariant values of)
    (resolved_prefix values c.args.resolved.now c.loop-path.path-index x c.loop-path-item.result c.loop-path-test.true is free)) c.in_err-insert_value.ensures.error)

pub loop-path-preserved : goal.loop-path-preserved
loop-path-preserved c =
    let x : Path × TreeValue = (path_of c.as_path.result, c.loop-path-item.result.1) in
    let is : get_or c.args.resolved.now c.loop-path.path-index c.loop-path-item.result ≡ x = sym c.loop-path-item.is ∙ λ i. (sym c.as_path.ensures i, c.loop-path-item.result.1) in
    λ values of. subst (λ l. IsTrieOf l c.insert_value.new.trie) (resolved_more values c.args.resolved.now c.loop-path.path-index x c.loop-path-item.result c.loop-path-test.true is)
    (c.in_ok-insert_value.ensures.inserted (values ++ take c.loop-path.path-index c.args.resolved.now) (c.loop-path.invariant values of))

pub returns-clause-inserted : goal.returns-clause-inserted
returns-clause-inserted c =
    let all : c.loop-path.path-index ≡ length c.args.resolved.now = omega arith in
    λ values of. subst (λ l. IsTrieOf (values ++ l) c.loop-path.trie) (ap (λ n. take n c.args.resolved.now) all ∙ take-length c.args.resolved.now) (c.loop-path.invariant values of)

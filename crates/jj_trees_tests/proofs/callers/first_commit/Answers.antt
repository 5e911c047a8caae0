use Rattle.std.proofs.Common.{◌≡◌, ℕ, List, ◌∷◌, [], inr, ap, ◌∙◌}
use Rattle.std.proofs.lemmas.Result.{err_from_is_err_and}
use Rattle.jj_backend.specs.Objects.{tree_object}
use Rattle.jj_backend.specs.Records.{CommitValue}
use Rattle.jj_trees_tests.proofs.FirstCommits.{has_written_tree, unsigned_failure}
use Rattle.jj_trees_tests.proofs.callers.first_commit.Goals as goal

pub returns-clause-tree : goal.returns-clause-tree
returns-clause-tree g c =
    let objects = g.B.Backend.objects in
    let tree_id = c.in_ok-tree_id.tree_id in
    let root_tree_of : CommitValue → List (List ℕ) = λ s. s.root_tree in
    let has_tree : c.in_ok-id.field-0-1.root_tree ≡ tree_id ∷ [] = ap root_tree_of c.in_ok-id.ensures.signed
    ∙ ap root_tree_of (c.commit.view_is ∙ c.make_root_commit-commit.ensures) in
    has_written_tree (objects c.args.backend.now) (objects c.write_tree.new.self) (objects c.write_commit.new.self) tree_id c.args.tree.now c.in_ok-id.id
    c.in_ok-id.field-0-1 c.in_ok-tree_id.ensures.ok c.in_ok-id.ensures.ok has_tree (g.B.Backend.may_fail c.write_commit.new.self) c.read_commit.result
    c.read_commit.ensures

pub returns-in_err-tree_id-clause-error : goal.returns-in_err-tree_id-clause-error
returns-in_err-tree_id-clause-error g c =
    let p = err_from_is_err_and c.from_residual-in_err-tree_id.result c.from_residual-in_err-tree_id.ensures.1 in
    rw (p.1, p.2) (inr (c.args.backend.now, inr (tree_object c.args.tree.now, c.in_err-tree_id.ensures.error)))

pub returns-in_err-id-clause-error : goal.returns-in_err-id-clause-error
returns-in_err-id-clause-error g c =
    let p = err_from_is_err_and c.from_residual-in_err-id.result c.from_residual-in_err-id.ensures.1 in
    rw (p.1, p.2)
    (inr (unsigned_failure g.B.Backend.may_fail g.B.Backend.may_fail_to_write c.write_tree.new.self _ c.in_err-id.field-0.0 c.in_err-id.ensures.error))

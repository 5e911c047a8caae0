use Rattle.std.proofs.Common.{sym, ap, ◌∙◌, subst, IsTrue}
use Rattle.std.specs.FinMap.{is_sorted}
use Rattle.jj_paths.specs.Paths.{name_cmp}
use Rattle.jj_paths.specs.Tree.{children}
use Rattle.jj_paths.proofs.ChildLookup.{children-branches_of}
use Rattle.jj_paths.proofs.repo_path_tree.RepoPathNode.children.Goals as goal

pub returns-clause-listed : goal.returns-clause-listed
returns-clause-listed g c = c.as_slice.ensures.value ∙ sym (children-branches_of _) ∙ ap (λ t. children t.branches) c.self.view_is

pub returns-clause-by_name : goal.returns-clause-by_name
returns-clause-by_name g c =
    subst (λ l. IsTrue (is_sorted name_cmp l)) (sym (children-branches_of _) ∙ ap (λ t. children t.branches) c.self.view_is) c.self.invariant
